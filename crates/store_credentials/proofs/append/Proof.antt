-- `append` meets its contract. The stores are those of `given`, and the hint.
use borrow.Author.Rules.{rules}
use native.Mathlib.Omega.{arith}
use Rattle.store.specs.Store.{ledger_of}
use Rattle.store_credentials.proofs.Given.{give_done}
use Rattle.store_credentials.proofs.append.Statement.{statement}
use Rattle.store_credentials.proofs.append.Tie as tie

add_put_next : tie.Need-overflow_add-serial
unfolding ledger_of
add_put_next c =
    omega (arith, c.read-serial.ensures, c.requires.0.unused)

put-credential-requires : tie.Need-put_credential-requires
put-credential-requires c κs =
    let p = c.requires.0 in (
      omega (arith, c.read-i.ensures, c.requires.1),
      omega (arith, p.there, p.good.bounded.lines),
    )

returns : tie.Need-returns
returns c =
    give_done _ _ _ _ c.requires.0 c.requires.1 c.read-i.ensures
    c.read-n.ensures c.read-serial.ensures c.put_credential.ensures
    c.put.ensures c.put-2.ensures
    c.put-3.ensures c.put_hint.ensures

pub append_spec : {M : Type 1} → statement M
append_spec =
    tie.close
    (tie.spec
    (λ c κs. search rules)
    (λ c κs. search rules)
    (λ c κs. search rules)
    put-credential-requires
    (λ c. search rules)
    (λ c κs. search rules)
    (λ c. search rules)
    (λ c κs. search rules)
    add_put_next
    (λ c κs. search rules)
    (λ c κs. search rules)
    returns)

-- `put_two` meets its contract.
use mathlib.Core.Path.{refl}
use lib.ListN.{length-set}
use native.Mathlib.Omega.{arith}
use borrow.Author.Rules.{rules}
use Rattle.text_write.proofs.put_two.Statement.{statement}
use Rattle.text_write.proofs.put_two.Tie as tie

pub put_two_spec : {M : Type 1} → statement M
put_two_spec =
    tie.close
    (tie.spec
    (λ c. search rules)
    (λ c. search rules)
    (λ c. search rules)
    (λ c. search rules)
    (λ c. search rules)
    (λ c. search rules)
    (λ c. simp length-set (omega (arith, c.requires.1)))
    (λ c. search rules)
    (λ c. refl))

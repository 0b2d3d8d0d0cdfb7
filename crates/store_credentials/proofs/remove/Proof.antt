-- `remove` meets its contract. The stores are the mark and the count.
use borrow.Author.Rules.{rules}
use native.Mathlib.Omega.{arith}
use Rattle.store_credentials.proofs.Removed.{some_live, remove_done}
use Rattle.store_credentials.proofs.remove.Statement.{statement}
use Rattle.store_credentials.proofs.remove.Tie as tie

put-gap-requires : tie.Need-put_gap-requires
put-gap-requires c κs =
    omega (arith, c.requires.1.0, c.requires.0.ordered.few)

sub_put_live_count : tie.Need-overflow_sub-n
sub_put_live_count c =
    omega (arith, c.read-n.ensures, some_live _ _ c.requires.0 c.requires.1)

returns : tie.Need-returns
returns c =
    remove_done _ _ c.requires.0 c.requires.1 c.read-n.ensures
    c.put_gap.ensures c.put.ensures

pub remove_spec : {M : Type 1} → statement M
remove_spec =
    tie.close
    (tie.spec
    (λ c κs. search rules)
    put-gap-requires
    sub_put_live_count
    (λ c κs. search rules)
    returns)

-- `check_ordered` meets its contract.
use borrow.Author.Rules.{rules}
use Rattle.call_checks.proofs.Verdicts.{reworded}
use Rattle.call_checks.proofs.check_ordered.Statement.{statement}
use Rattle.call_checks.proofs.check_ordered.Tie as tie

returns : tie.Need-returns
returns c = reworded (c.tested.ensures 3) c.reversed.ensures

pub check_ordered_spec : {M : Type 1} → statement M
check_ordered_spec = tie.close (tie.spec (λ c κs. search rules) (λ c κs. search rules) returns)

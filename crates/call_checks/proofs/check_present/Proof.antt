-- `check_present` meets its contract.
use borrow.Author.Rules.{rules}
use Rattle.call_checks.proofs.Verdicts.{reworded}
use Rattle.call_checks.proofs.check_present.Statement.{statement}
use Rattle.call_checks.proofs.check_present.Tie as tie

returns : tie.Need-returns
returns c = reworded (c.tested.ensures 10) (simp c.formula_count.ensures)

pub check_present_spec : {M : Type 1} → statement M
check_present_spec = tie.close (tie.spec (λ c κs. search rules) (λ c κs. search rules) returns)

-- `check_balanced` meets its contract.
use Rattle.call_checks.proofs.Verdicts.{reworded}
use Rattle.call_checks.proofs.check_balanced.Goals as goal

pub returns : goal.returns
returns c = reworded (c.tested.ensures 21) (simp c.facts_at.ensures.kept.balancedly)

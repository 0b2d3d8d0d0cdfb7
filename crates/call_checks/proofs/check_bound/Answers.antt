-- `check_bound` meets its contract.
use Rattle.call_checks.proofs.Verdicts.{reworded}
use Rattle.call_checks.proofs.check_bound.Goals as goal

pub returns : goal.returns
returns c = reworded (c.tested.ensures 53) (simp c.facts_at.ensures.kept.unbound_kept)

-- `check_plain` meets its contract.
use Rattle.call_checks.proofs.Verdicts.{reworded}
use Rattle.call_checks.proofs.check_plain.Goals as goal

pub returns : goal.returns
returns c = reworded (c.tested.ensures 20) (simp c.facts_at.ensures.kept.plain_kept)

-- `check_room` meets its contract.
use Rattle.std.proofs.Common.{arith}
use Rattle.std.proofs.lemmas.Bool.Decides.{nat_tests}
use Rattle.call_checks.proofs.Verdicts.{reworded}
use Rattle.call_checks.proofs.check_room.Goals as goal

pub returns : goal.returns
returns c =
    reworded (c.tested.ensures 22) (grind (arith, nat_tests, c.saturating_sub-live.ensures, c.live_count.ensures))

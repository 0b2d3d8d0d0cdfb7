-- The step lines left fall; at as many, the premise checker stands below the step checker.
use Rattle.std.proofs.Common.{◌+◌, ◌*◌}
use Rattle.step_checker.proofs.+check_premise_check_step.Given as goal

abbrev pub decreases-check_premise : goal.decreases-check_premise
decreases-check_premise l = 2 * l.left

abbrev pub decreases-check_step : goal.decreases-check_step
decreases-check_step l = 2 * l.left + 1

-- `cp` meets its contract: a label in a set is below 64.
use mathlib.Core.Path.{ap}
use mathlib.Core.Bool.{not}
use native.Mathlib.Omega.{arith}
use Rattle.labels.proofs.Sets.{member_below}
use Rattle.steps.specs.Plans.{when}
use Rattle.step_plans.proofs.PlanTests.{holds, fails}
use Rattle.step_rules.proofs.left.cp.Goals as goal

pub bounds-table-k : goal.bounds-table-k
bounds-table-k c = member_below _ 64 _ (omega arith) (holds c.has.ensures (ap not c.if-not-has.false))

pub returns-then-not-has : goal.returns-then-not-has
unfolding when
returns-then-not-has c = rw (fails c.has.ensures (ap not c.if-not-has.true))

pub returns : goal.returns
unfolding when
returns c = rw (holds c.has.ensures (ap not c.if-not-has.false)) c.one.ensures

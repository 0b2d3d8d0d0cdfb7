-- `rule` meets its contract.
use mathlib.Core.Path.{sym}
use native.Mathlib.Omega.{arith}
use Rattle.steps.specs.Plans.{plan_of, affirmed, when}
use Rattle.step_dispatch.proofs.Numbers.{read_as, right_row, right_refused}
use Rattle.step_dispatch.proofs.rule.Goals as goal

pub returns-in-Holds : goal.returns-in-Holds
unfolding plan_of affirmed
returns-in-Holds c = rw (read_as c.step_at-s.ensures c.in-0.is, c.in-Holds.is)

pub returns-in-Affirms : goal.returns-in-Affirms
unfolding plan_of affirmed when
returns-in-Affirms c = rw (read_as c.step_at-s.ensures c.in-0.is) (simp (c.in-Affirms.is, c.goal.ensures))

pub returns-in-11 : goal.returns-in-11
unfolding plan_of
returns-in-11 c = rw (read_as c.step_at-s.ensures c.in-11.is) c.cp.ensures

pub returns-in-Affirms-g : goal.returns-in-Affirms-g
returns-in-Affirms-g c =
    let w = right_row c.step_at-s.ensures (omega arith) (omega arith) in
    sym (rw c.in-Affirms-g.is (right_refused _ _ _ _ _ _ _ _ w.0 w.1))

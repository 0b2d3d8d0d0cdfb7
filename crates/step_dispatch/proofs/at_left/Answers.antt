-- `at_left` meets its contract: each arm is the plan of the step with that number.
use mathlib.Core.Path.{sym, ◌∙◌}
use native.Mathlib.Omega.{arith}
use Rattle.labels.proofs.Sets.{member_below}
use Rattle.steps.specs.Plans.{plan_of, affirmed}
use Rattle.step_dispatch.proofs.Holders.{left_worded}
use Rattle.step_dispatch.proofs.Numbers.{read_as, read_last, left_row, left_refused}
use Rattle.step_dispatch.proofs.at_left.Goals as goal

pub returns-then-not-has : goal.returns-then-not-has
returns-then-not-has c =
    let e = c.step_at-s.ensures in
    sym (rw (← e) (left_refused _ _ _ _ _ _ (sym c.if-not-has.ensures) (left_row (sym e) c.requires.1)))

pub bounds-table-s : goal.bounds-table-s
bounds-table-s c = member_below _ 64 _ (omega arith) (sym c.if-not-has.ensures)

pub remove-requires : goal.remove-requires
remove-requires c = member_below _ 64 _ (omega (arith, c.well_formed.1.1.1.1.0)) (sym c.if-not-has.ensures)

pub returns-in-12 : goal.returns-in-12
unfolding plan_of
returns-in-12 c =
    rw (read_as c.step_at-s.ensures c.in-12.is, left_worded, sym c.if-not-has.ensures)
    (simp (
      c.ol.ensures,
      c.remove.ensures,
      c.row_at.ensures,
      c.formula_of-k.ensures,
    ))

pub returns-in-13 : goal.returns-in-13
unfolding plan_of
returns-in-13 c =
    rw (read_as c.step_at-s.ensures c.in-13.is, left_worded, sym c.if-not-has.ensures)
    (simp (
      c.arm.ensures,
      c.remove.ensures,
      c.row_at-x.ensures,
      c.formula_of-k.ensures,
    ))

pub returns-in-14 : goal.returns-in-14
unfolding plan_of
returns-in-14 c =
    rw (read_as c.step_at-s.ensures c.in-14.is, left_worded, sym c.if-not-has.ensures)
    (simp (
      c.arm-in-14.ensures,
      c.remove.ensures,
      c.row_at-x-in-14.ensures,
      c.formula_of-k.ensures,
    ))

pub returns-in-15 : goal.returns-in-15
unfolding plan_of
returns-in-15 c =
    rw (read_as c.step_at-s.ensures c.in-15.is, left_worded, sym c.if-not-has.ensures)
    (simp (
      c.bl.ensures,
      c.remove.ensures,
      c.row_at-in-15.ensures,
      c.formula_of-k.ensures,
    ))

pub returns-in-16 : goal.returns-in-16
unfolding plan_of
returns-in-16 c =
    rw (read_as c.step_at-s.ensures c.in-16.is, left_worded, sym c.if-not-has.ensures)
    (simp (
      c.hl.ensures,
      c.remove.ensures,
      c.row_at-in-16.ensures,
      c.formula_of-k.ensures,
    ))

pub returns-in-Holds : goal.returns-in-Holds
unfolding plan_of affirmed
returns-in-Holds c = rw (read_as c.step_at-s.ensures c.in-17.is, c.in-Holds.is)

pub returns-in-Affirms : goal.returns-in-Affirms
unfolding plan_of affirmed
returns-in-Affirms c =
    rw (read_as c.step_at-s.ensures c.in-17.is, c.in-Affirms.is, left_worded, sym c.if-not-has.ensures)
    (simp (
      c.sl.ensures,
      c.in-Affirms.is,
      c.remove.ensures,
      c.row_at-in-Affirms.ensures,
      c.formula_of-k.ensures,
    ))

pub returns-in-18 : goal.returns-in-18
unfolding plan_of
returns-in-18 c =
    rw (read_as c.step_at-s.ensures c.in-18.is, left_worded, sym c.if-not-has.ensures)
    (simp (
      c.tl.ensures,
      c.remove.ensures,
      c.row_at-in-18.ensures,
      c.formula_of-k.ensures,
    ))

pub returns-in-19 : goal.returns-in-19
unfolding plan_of
returns-in-19 c =
    rw (read_as c.step_at-s.ensures c.in-19.is, left_worded, sym c.if-not-has.ensures)
    (simp (
      c.pl.ensures,
      c.remove.ensures,
      c.row_at-in-19.ensures,
      c.formula_of-k.ensures,
    ))

pub returns-in-20 : goal.returns-in-20
unfolding plan_of
returns-in-20 c =
    rw (read_as c.step_at-s.ensures c.in-20.is, left_worded, sym c.if-not-has.ensures)
    (simp (
      c.al.ensures,
      c.step_at-t.ensures ∙ sym c.step_at-s.ensures,
      c.remove.ensures,
      c.row_at-in-20.ensures,
      c.formula_of-k.ensures,
    ))

pub returns-in-21 : goal.returns-in-21
unfolding plan_of
returns-in-21 c =
    rw (read_as c.step_at-s.ensures c.in-21.is, left_worded, sym c.if-not-has.ensures)
    (simp (
      c.ll.ensures,
      c.share.ensures,
      c.step_at-t-in-21.ensures ∙ sym c.step_at-s.ensures,
      c.remove.ensures,
      c.row_at-in-21.ensures,
      c.formula_of-k.ensures,
    ))

pub returns-in_default : goal.returns-in_default
unfolding plan_of
returns-in_default c =
    let e = c.step_at-s.ensures in
    let last = read_last e (left_row (sym e) c.requires.1) c.in_default.in_default-own.rest in
    rw (last, left_worded, sym c.if-not-has.ensures)
    (simp (
      c.ul.ensures,
      c.step_at-t-in_default.ensures ∙ sym e,
      c.remove.ensures,
      c.row_at-in_default.ensures,
      c.formula_of-k.ensures,
    ))

-- `at_right` meets its contract: each arm is the plan of the step with that number.
use mathlib.Core.Path.{sym, ◌∙◌}
use native.Mathlib.Omega.{arith}
use Rattle.steps.specs.Plans.{plan_of}
use Rattle.step_dispatch.proofs.Holders.{right_worded, atomic_worded}
use Rattle.step_dispatch.proofs.Numbers.{read_as, right_row, last_right, ax_refused}
use Rattle.step_dispatch.proofs.at_right.Goals as goal

pub returns-then-s-ge-LABELS : goal.returns-then-s-ge-LABELS
returns-then-s-ge-LABELS c =
    let w = c.requires.1 in
    let v = right_row (sym c.step_at-s.ensures) w.0 w.1 in
    let e = last_right _ v.0 v.1 c.in_default.in_default-own.rest in
    sym (rw (read_as c.step_at-s.ensures e)
    (ax_refused _ _ _ _ _ _ _ (omega (arith, c.well_formed.1.1.1.1.0)) c.if-s-ge-LABELS.true))

pub returns-in-1 : goal.returns-in-1
unfolding plan_of
returns-in-1 c =
    rw (read_as c.step_at-s.ensures c.in-1.is, right_worded)
    (c.or.ensures ∙ simp (c.row_at.ensures, c.formula_of-k.ensures))

pub returns-in-2 : goal.returns-in-2
unfolding plan_of
returns-in-2 c =
    rw (read_as c.step_at-s.ensures c.in-2.is, right_worded)
    (c.gr.ensures ∙ simp (c.row_at-in-2.ensures, c.formula_of-k.ensures))

pub returns-in-3 : goal.returns-in-3
unfolding plan_of
returns-in-3 c =
    rw (read_as c.step_at-s.ensures c.in-3.is, right_worded)
    (c.arm.ensures ∙ simp (c.row_at-x.ensures, c.formula_of-k.ensures))

pub returns-in-4 : goal.returns-in-4
unfolding plan_of
returns-in-4 c =
    rw (read_as c.step_at-s.ensures c.in-4.is, right_worded)
    (c.arm-in-4.ensures ∙ simp (c.row_at-x-in-4.ensures, c.formula_of-k.ensures))

pub returns-in-5 : goal.returns-in-5
unfolding plan_of
returns-in-5 c =
    rw (read_as c.step_at-s.ensures c.in-5.is, right_worded)
    (c.br.ensures ∙ simp (c.row_at-in-5.ensures, c.formula_of-k.ensures))

pub returns-in-6 : goal.returns-in-6
unfolding plan_of
returns-in-6 c =
    rw (read_as c.step_at-s.ensures c.in-6.is, right_worded)
    (c.hr.ensures ∙ simp (c.row_at-in-6.ensures, c.formula_of-k.ensures))

pub returns-in-7 : goal.returns-in-7
unfolding plan_of
returns-in-7 c =
    rw (read_as c.step_at-s.ensures c.in-7.is, right_worded)
    (c.sr.ensures ∙ simp (c.row_at-in-7.ensures, c.formula_of-k.ensures))

pub returns-in-8 : goal.returns-in-8
unfolding plan_of
returns-in-8 c =
    rw (read_as c.step_at-s.ensures c.in-8.is, right_worded)
    (c.wr.ensures ∙ simp (c.row_at-in-8.ensures, c.formula_of-k.ensures))

pub returns-in-9 : goal.returns-in-9
unfolding plan_of
returns-in-9 c =
    rw (read_as c.step_at-s.ensures c.in-9.is, right_worded)
    (c.tr.ensures
    ∙ simp (
      c.share.ensures,
      c.step_at-t.ensures ∙ sym c.step_at-s.ensures,
      c.row_at-in-9.ensures,
      c.formula_of-k.ensures,
    ))

pub returns-else-s-ge-LABELS : goal.returns-else-s-ge-LABELS
unfolding plan_of
returns-else-s-ge-LABELS c =
    let w = c.requires.1 in
    let v = right_row (sym c.step_at-s.ensures) w.0 w.1 in
    let e = last_right _ v.0 v.1 c.in_default.in_default-own.rest in
    rw (read_as c.step_at-s.ensures e, atomic_worded _ _ _ _ _ _ _ c.step_at-s.result.label)
    (c.ax.ensures
    ∙ simp (
      c.row_at-in_default.ensures,
      c.row_at-y.ensures,
      c.formula_of.ensures,
      c.formula_of-k.ensures,
    ))

use Rattle.std.proofs.Common.{arith, sym, ◌∙◌, ◌+◌}
use Rattle.std.proofs.lemmas.List.{take_rest}
use Rattle.read_fields.proofs.Bytes.{here, past}
use Rattle.read_fields.proofs.Decimals.{more_end, more_large, step_stop, step_small, step_no, step_on, digit_small}
use Rattle.read_fields.proofs.Reader.more_digits.Goals as goal
use Rattle.read_fields.proofs.Reader.more_digits.Goals.{then-s-i-via-then-s-i, then-s-i-via-else-s-i+then-v-first}

pub returns-then-s-i-clause-read : goal.returns-then-s-i-clause-read
returns-then-s-i-clause-read c =
    elim c.then-s-i.branch [
      | then-s-i-via-then-s-i w ↦
          sym (c.loop-i.invariant.2 ∙ rw (here _ _ c.loop-i-test.true)
          (step_no _ _ _ _ _ w.if-s-i.true (sym c.in_default.ensures)))
      | then-s-i-via-else-s-i+then-v-first w ↦
          sym (c.loop-i.invariant.2 ∙ rw (here _ _ c.loop-i-test.true)
          (step_small _ _ _ c.requires.0.stops _ _ w.if-s-i.false w.if-v-first.true))
    ]

pub returns-in_default-clause-read : goal.returns-in_default-clause-read
returns-in_default-clause-read c =
    rw (take_rest c.args.self.now.rest.now (c.loop-i.i + 1))
    (sym (c.loop-i.invariant.2 ∙ rw (here _ _ c.loop-i-test.true)
    (step_stop _ _ _ c.requires.0.stops _ _ c.if-s-i.false c.if-v-first.false c.loop-i.invariant.1)))

pub overflow_add-v : goal.overflow_add-v
overflow_add-v c = omega (arith, digit_small _ _ (sym c.in-Some.ensures))

pub returns-then-last-v-clause-read : goal.returns-then-last-v-clause-read
returns-then-last-v-clause-read c =
    sym (c.loop-i.invariant.2 ∙ rw (here _ _ c.loop-i-test.true)
    (step_on _ _ _ _ _ _ (sym c.in-Some.ensures) c.loop-i.invariant.0
    ∙ more_large _ _ _ c.if-last-v.true (omega arith) _))

pub loop-i-preserved : goal.loop-i-preserved
loop-i-preserved c = (
  omega arith,
  c.if-last-v.false,
  c.loop-i.invariant.2 ∙ rw (here _ _ c.loop-i-test.true)
      (step_on _ _ _ _ _ _ (sym c.in-Some.ensures) c.loop-i.invariant.0),
  c.loop-i.invariant.3,
)

pub returns-clause-read : goal.returns-clause-read
returns-clause-read c = sym (c.loop-i.invariant.2 ∙ rw (past _ _ c.loop-i-test.false) (more_end _ _ _))

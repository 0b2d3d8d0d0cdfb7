use Rattle.std.proofs.Common.{arith, sym, refl, ◌∙◌}
use Rattle.std.proofs.lemmas.List.{take_rest}
use Rattle.read_fields.proofs.Bytes.{here}
use Rattle.read_fields.proofs.Decimals.{number_short, start_no, start_on, step_stop, step_small, step_zero}
use Rattle.read_fields.proofs.Decimals.{digit_small, second}
use Rattle.read_fields.proofs.Reader.number.Goals as goal

pub returns-in_default-clause-read : goal.returns-in_default-clause-read
returns-in_default-clause-read c = sym (number_short _ _ _ c.in_default.len_below)

pub returns-in_err-d-clause-read : goal.returns-in_err-d-clause-read
returns-in_err-d-clause-read c =
    rw c.from_residual.ensures
    (sym (rw (here c.args.self.now.rest.now 0 (omega arith))
    (start_no _ _ c.requires.stops _ _ (sym c.in_err-d.ensures))))

pub returns-then-below-clause-read : goal.returns-then-below-clause-read
returns-then-below-clause-read c =
    sym (second _ _ c.args.self.now.rest.now _ c.in-len2-up.len_at_least (sym c.in_ok-d.ensures)
    ∙ step_small _ _ _ c.requires.stops _ _ c.if-y-stop.true c.if-below.true)

pub returns-then-below-clause-kept : goal.returns-then-below-clause-kept
returns-then-below-clause-kept c = refl

pub returns-then-y-stop-clause-read : goal.returns-then-y-stop-clause-read
returns-then-y-stop-clause-read c =
    rw (take_rest c.args.self.now.rest.now 2)
    (sym (second _ _ c.args.self.now.rest.now _ c.in-len2-up.len_at_least (sym c.in_ok-d.ensures)
    ∙ step_stop _ _ _ c.requires.stops _ _ c.if-y-stop.true c.if-below.false
    (omega (arith, digit_small _ _ (sym c.in_ok-d.ensures)))))

pub returns-then-zero-clause-read : goal.returns-then-zero-clause-read
returns-then-zero-clause-read c =
    sym (second _ _ c.args.self.now.rest.now _ c.in-len2-up.len_at_least (sym c.in_ok-d.ensures)
    ∙ step_zero _ _ _ _ _ c.if-y-stop.false c.if-zero.true)

pub more_digits-requires : goal.more_digits-requires
more_digits-requires c =
    (c.requires, omega arith, omega (arith, digit_small _ _ (sym c.in_ok-d.ensures)))

pub returns-clause-read : goal.returns-clause-read
returns-clause-read c =
    c.more_digits.ensures.read
    ∙ sym (rw (here c.args.self.now.rest.now 0 (omega arith)) (start_on _ _ _ _ _ (sym c.in_ok-d.ensures)))

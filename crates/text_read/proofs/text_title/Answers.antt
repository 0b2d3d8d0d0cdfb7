use Rattle.std.proofs.Common.{refl, sym, arith, Some}
use Rattle.text_read.proofs.TextForms.{long_text, no_first_line, title_told}
use Rattle.text_read.proofs.text_title.Goals as goal

pub returns-then-too_long-clause-read : goal.returns-then-too_long-clause-read
returns-then-too_long-clause-read c = long_text _ c.if-too_long.true

pub returns-in_err-title-clause-read : goal.returns-in_err-title-clause-read
returns-in_err-title-clause-read c =
    rw c.from_residual.ensures (no_first_line _ (sym c.in_err-title.ensures))

pub returns-in_err-title-clause-kept : goal.returns-in_err-title-clause-kept
returns-in_err-title-clause-kept c = rw c.from_residual.ensures refl

pub returns-clause-read : goal.returns-clause-read
returns-clause-read c = title_told _ _ (Some _) (omega (arith, c.if-too_long.false)) c.in_ok-title.ensures

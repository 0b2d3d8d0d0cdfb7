use Rattle.std.proofs.Common.{sym, ◌∙◌}
use Rattle.request.specs.Text.{bytes}
use Rattle.read_fields.proofs.Prefixes.{strip_still}
use Rattle.read_fields.proofs.Then.{then_some, then_no}
use Rattle.text_read.proofs.TextLines.{serial_line, kind_linear, kind_unrestricted, no_kind}
use Rattle.text_read.proofs.read_credential.Goals as goal

pub returns-in_err-serial : goal.returns-in_err-serial
returns-in_err-serial c =
    rw c.from_residual.ensures (sym (serial_line _ ∙ then_no _ (sym c.in_err-serial.ensures.read)))

pub returns-then-past : goal.returns-then-past
unfolding bytes
returns-then-past c =
    c.credential_rest.ensures
    ∙ sym (serial_line _ ∙ then_some _ (sym c.in_ok-serial.ensures.read) ∙ kind_linear _ _ _ c.if-past.ensures)

pub returns-then-past-2 : goal.returns-then-past-2
unfolding bytes
returns-then-past-2 c =
    c.credential_rest-then-past-2.ensures
    ∙ sym (serial_line _ ∙ then_some _ (sym c.in_ok-serial.ensures.read)
    ∙ kind_unrestricted _ _ _ (strip_still _ c.if-past.ensures.1 c.if-past-2.ensures))

pub returns : goal.returns
unfolding bytes
returns c =
    sym (serial_line _ ∙ then_some _ (sym c.in_ok-serial.ensures.read)
    ∙ no_kind _ _ c.if-past.ensures.0 (strip_still _ c.if-past.ensures.1 c.if-past-2.ensures.0))

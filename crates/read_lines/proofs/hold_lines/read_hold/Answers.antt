-- `read_hold` meets its contract: past the word, by the serial; where that is broken, nothing is passed.
use mathlib.Core.Path.{refl, sym, ◌∙◌}
use Rattle.request.specs.Text.{bytes}
use Rattle.read_fields.proofs.Then.{then_some}
use Rattle.read_lines.proofs.Ops.{hold_line_holds}
use Rattle.read_lines.proofs.hold_lines.read_hold.Goals as goal

pub returns-clause-read : goal.returns-clause-read
unfolding bytes
returns-clause-read c =
    c.in_ok-serial.ensures.read ∙ sym (hold_line_holds _ ∙ then_some _ c.if-not-past.ensures)

pub returns-in_err-serial-clause-kept : goal.returns-in_err-serial-clause-kept
returns-in_err-serial-clause-kept c = rw c.from_residual.ensures refl

use Rattle.std.proofs.Common.{sym, ◌∙◌}
use Rattle.read_fields.proofs.Then.{then_some, then_no}
use Rattle.text_read.proofs.TextLines.{counts_line}
use Rattle.text_read.proofs.read_counts.Goals as goal

pub returns-in_err-next : goal.returns-in_err-next
returns-in_err-next c = rw c.from_residual.ensures (sym (counts_line _ _ ∙ then_no _ (sym c.in_err-next.ensures.read)))

pub returns-in_err-lines : goal.returns-in_err-lines
returns-in_err-lines c =
    rw c.from_residual-in_err-lines.ensures
    (sym (counts_line _ _ ∙ then_some _ (sym c.in_ok-next.ensures.read) ∙ then_no _ (sym c.in_err-lines.ensures.read)))

pub returns-in_err-live : goal.returns-in_err-live
returns-in_err-live c =
    rw c.from_residual-in_err-live.ensures
    (sym (counts_line _ _ ∙ then_some _ (sym c.in_ok-next.ensures.read)
    ∙ then_some _ (sym c.in_ok-lines.ensures.read) ∙ then_no _ (sym c.in_err-live.ensures.read)))

pub returns : goal.returns
returns c =
    sym (counts_line _ _ ∙ then_some _ (sym c.in_ok-next.ensures.read)
    ∙ then_some _ (sym c.in_ok-lines.ensures.read) ∙ then_some _ (sym c.in_ok-live.ensures.read))

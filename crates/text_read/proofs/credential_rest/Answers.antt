use Rattle.std.proofs.Common.{sym, ◌∙◌}
use Rattle.read_fields.proofs.Then.{then_some, then_no}
use Rattle.text_read.proofs.TextLines.{kind_line}
use Rattle.text_read.proofs.credential_rest.Goals as goal

pub returns-in_err-formula : goal.returns-in_err-formula
returns-in_err-formula c =
    rw c.from_residual.ensures (sym (kind_line _ _ _ ∙ then_no _ (sym c.in_err-formula.ensures.read)))

pub returns-in_err-interval : goal.returns-in_err-interval
returns-in_err-interval c =
    rw c.from_residual-in_err-interval.ensures
    (sym (kind_line _ _ _ ∙ then_some _ (sym c.in_ok-formula.ensures.read)
    ∙ then_no _ (sym c.in_err-interval.ensures.read)))

pub returns : goal.returns
returns c =
    sym (kind_line _ _ _ ∙ then_some _ (sym c.in_ok-formula.ensures.read)
    ∙ then_some _ (sym c.in_ok-interval.ensures.read))

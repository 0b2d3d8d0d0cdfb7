use Rattle.std.proofs.Common.{sym, ◌∙◌}
use Rattle.read_fields.proofs.Then.{then_some, then_no}
use Rattle.read_heads.proofs.Heads.{no_line, lines_follow, whole_request, issue_line}
use Rattle.read_heads.proofs.requests.issued.Goals as goal

pub returns-in_err-n : goal.returns-in_err-n
returns-in_err-n c =
    rw c.from_residual.ensures
    (no_line (issue_line _ _
    ∙ then_no _ (sym c.in_err-n.ensures.read)))

pub returns-in_err-w : goal.returns-in_err-w
returns-in_err-w c =
    rw c.from_residual-in_err-w.ensures
    (no_line (issue_line _ _
    ∙ then_some _ (sym c.in_ok-n.ensures.read)
    ∙ then_no _ (sym c.in_err-w.ensures.read)))

pub returns-in_err-ended : goal.returns-in_err-ended
returns-in_err-ended c =
    rw c.from_residual-in_err-ended.ensures
    (lines_follow _ (issue_line _ _
    ∙ then_some _ (sym c.in_ok-n.ensures.read)
    ∙ then_some _ (sym c.in_ok-w.ensures.read)) c.in_err-ended.ensures)

pub returns : goal.returns
returns c =
    whole_request _ (issue_line _ _
    ∙ then_some _ (sym c.in_ok-n.ensures.read)
    ∙ then_some _ (sym c.in_ok-w.ensures.read)) c.in_ok-ended.ensures

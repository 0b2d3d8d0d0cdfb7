use Rattle.std.proofs.Common.{sym, ◌∙◌}
use Rattle.read_fields.proofs.Then.{then_some, then_no}
use Rattle.read_heads.proofs.Heads.{no_line, lines_follow, whole_request, tally_line}
use Rattle.read_heads.proofs.requests.tally.Goals as goal

pub returns-in_err-a : goal.returns-in_err-a
returns-in_err-a c =
    rw c.from_residual.ensures
    (no_line (tally_line _
    ∙ then_no _ (sym c.in_err-a.ensures.read)))

pub returns-in_err-m : goal.returns-in_err-m
returns-in_err-m c =
    rw c.from_residual-in_err-m.ensures
    (no_line (tally_line _
    ∙ then_some _ (sym c.in_ok-a.ensures.read)
    ∙ then_no _ (sym c.in_err-m.ensures.read)))

pub returns-in_err-ended : goal.returns-in_err-ended
returns-in_err-ended c =
    rw c.from_residual-in_err-ended.ensures
    (lines_follow _ (tally_line _
    ∙ then_some _ (sym c.in_ok-a.ensures.read)
    ∙ then_some _ (sym c.in_ok-m.ensures.read)) c.in_err-ended.ensures)

pub returns : goal.returns
returns c =
    whole_request _ (tally_line _
    ∙ then_some _ (sym c.in_ok-a.ensures.read)
    ∙ then_some _ (sym c.in_ok-m.ensures.read)) c.in_ok-ended.ensures

use Rattle.std.proofs.Common.{sym, ◌∙◌}
use Rattle.store_cells.proofs.CredentialRows.{row_left}
use Rattle.text_write.proofs.Lengths.{measured_as}
use Rattle.text_close.proofs.Texts.{gap_as, credential_as, measured_none}
use Rattle.text_close.proofs.row_length.Goals as goal

pub returns-then-left : goal.returns-then-left
returns-then-left c =
    let left = row_left _ _ c.kind_at.ensures c.is_none-left.ensures in
    measured_none (sym (gap_as _ _ (left ∙ c.if-left.true)))

pub returns : goal.returns
returns c =
    let left = row_left _ _ c.kind_at.ensures c.is_none-left.ensures in
    measured_as (credential_as _ _ (left ∙ c.if-left.false) c.credential_at.ensures) c.credential_length.ensures

use Rattle.std.proofs.Common.{sym, ◌∙◌}
use Rattle.store_cells.proofs.CredentialRows.{row_left}
use Rattle.text_write.proofs.Puts.{room_as, wrote_as}
use Rattle.text_close.proofs.Texts.{gap_as, credential_as, wrote_none}
use Rattle.text_close.proofs.put_row.Goals as goal

pub returns-then-left : goal.returns-then-left
returns-then-left c =
    let left = row_left _ _ c.kind_at.ensures c.is_none-left.ensures in
    wrote_none (sym (gap_as _ _ (left ∙ c.if-left.true)))

pub put_credential-requires : goal.put_credential-requires
put_credential-requires c =
    let left = row_left _ _ c.kind_at.ensures c.is_none-left.ensures in
    room_as (sym (credential_as _ _ (left ∙ c.if-left.false) c.credential_at.ensures)) c.requires.2

pub returns : goal.returns
returns c =
    let left = row_left _ _ c.kind_at.ensures c.is_none-left.ensures in
    wrote_as (credential_as _ _ (left ∙ c.if-left.false) c.credential_at.ensures) c.put_credential.ensures

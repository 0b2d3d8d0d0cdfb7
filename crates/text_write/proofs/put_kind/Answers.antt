-- The kind is one letter.
use Rattle.std.proofs.Common.{[], ◌∷◌, List, ℕ, ap, sym}
use Rattle.text_write.specs.Put.{ended}
use Rattle.text_write.proofs.Puts.{room_as, wrote_as}
use Rattle.text_write.proofs.put_kind.Goals as goal

abbrev field : List ℕ → List ℕ
field x = ended 44 (x ∷ [])

pub put_letter-requires : goal.put_letter-requires
put_letter-requires c = room_as (ap field (sym c.kind_letter.ensures)) c.requires

pub returns : goal.returns
returns c = wrote_as (ap field c.kind_letter.ensures) c.put_letter.ensures

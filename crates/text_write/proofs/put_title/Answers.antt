-- The first line in two parts: the edition's, and the counts.
use Rattle.std.proofs.Common.{[], ◌∷◌, List, ℕ}
use Rattle.request.specs.Text.{bytes}
use Rattle.snapshot.specs.declared.Title.{Title}
use Rattle.snapshot.specs.Snapshot.{edition_field, edition_fields, title_fields}
use Rattle.text_write.specs.Put.{Room, ended, counts}
use Rattle.text_write.proofs.Puts.{Fields, in_fields, first_room, part_room, wrote_parts}
use Rattle.text_write.proofs.put_title.Goals as goal

parts : (o : List ℕ) (t : Title) → Room o (ended 10 (title_fields t))
    → Fields o 10 (bytes "till" ∷ edition_field t.edition ∷ []) (counts t.next t.lines t.live)
unfolding title_fields edition_fields
parts o t h = in_fields _ _ _ tt tt h

pub put_edition-i-requires : goal.put_edition-i-requires
put_edition-i-requires c = first_room (parts _ c.args.title c.requires)

pub put_counts-j-requires : goal.put_counts-j-requires
put_counts-j-requires c = part_room (parts _ c.args.title c.requires) c.put_edition-i.ensures

pub returns : goal.returns
unfolding title_fields edition_fields
returns c = wrote_parts (parts _ c.args.title c.requires) c.put_edition-i.ensures c.put_counts-j.ensures

-- The line in two parts: the serial and the kind, and the fields after them.
use Rattle.std.proofs.Common.{[], ◌∷◌, List, ℕ}
use Rattle.request.specs.Write.{digits, minutes, kind_field}
use Rattle.ledger.specs.declared.Credential.{Credential}
use Rattle.snapshot.specs.Snapshot.{credential_fields}
use Rattle.text_write.specs.Put.{Room, ended}
use Rattle.text_write.proofs.Puts.{Fields, in_fields, first_room, part_room, wrote_parts}
use Rattle.text_write.proofs.put_credential.Goals as goal

parts : (o : List ℕ) (c : Credential) → Room o (ended 10 (credential_fields c))
    → Fields o 10 (digits c.serial ∷ kind_field c.kind ∷ []) (digits c.formula ∷ minutes c.interval)
unfolding credential_fields
parts o c h = in_fields _ _ _ tt tt h

pub put_serial-i-requires : goal.put_serial-i-requires
put_serial-i-requires c = first_room (parts _ c.args.c c.requires)

pub put_of-j-requires : goal.put_of-j-requires
put_of-j-requires c = part_room (parts _ c.args.c c.requires) c.put_serial-i.ensures

pub returns : goal.returns
unfolding credential_fields
returns c = wrote_parts (parts _ c.args.c c.requires) c.put_serial-i.ensures c.put_of-j.ensures

-- `put_field` meets its contract.
use mathlib.Core.List.{[], ◌∷◌}
use borrow.Author.Rules.{rules}
use Rattle.request.specs.Write.{digits}
use Rattle.text_write.specs.Put.{ended}
use Rattle.text_write.proofs.Puts.{Parts, in_ended, first_room, part_start, part_room, sum_fits, wrote_parts}
use Rattle.text_write.proofs.put_field.Statement.{statement}
use Rattle.text_write.proofs.put_field.Tie as tie

parts : (c : tie.Start)
    → Parts c.args.rest.now (ended c.args.stop (digits c.args.n ∷ []))
    (digits c.args.n) (c.args.stop ∷ [])
parts c = in_ended _ _ c.requires

pub put_field_spec : {M : Type 1} → statement M
put_field_spec =
    tie.close
    (tie.spec
    (λ c κs. first_room (parts c.before.before))
    (λ c. part_start (parts c.before.before.before.before.before) c.put_digits-i.ensures)
    (λ c. part_start (parts c.before.before.before.before.before) c.put_digits-i.ensures)
    (λ c. search rules)
    (λ c κs.
    part_room (parts c.before.before.before.before.before.before) c.put_digits-i.ensures)
    (λ c.
    sum_fits (parts c.before.before.before.before.before.before.before.before.before) c.put_digits-i.ensures
    c.put_byte-j.ensures c.well_formed.0.0)
    (λ c. search rules)
    (λ c.
    wrote_parts (parts c.before.before.before.before.before.before.before.before.before) c.put_digits-i.ensures
    c.put_byte-j.ensures))

-- `put_interval` meets its contract.
use mathlib.Core.List.{[], ◌∷◌}
use borrow.Author.Rules.{rules}
use Rattle.request.specs.Write.{digits, minutes}
use Rattle.text_write.proofs.Puts.{Fields, in_fields, first_room, part_start, part_room, sum_fits, wrote_parts}
use Rattle.text_write.proofs.put_interval.Statement.{statement}
use Rattle.text_write.proofs.put_interval.Tie as tie

parts : (c : tie.Start)
    → Fields c.args.rest.now c.args.stop (digits c.args.v.from ∷ digits c.args.v.to ∷ [])
    (digits c.args.v.first ∷ digits c.args.v.last ∷ [])
unfolding minutes
parts c = in_fields _ _ _ tt tt c.requires

put_fields_requires_2 : tie.Need-put_fields-j-requires
unfolding minutes
put_fields_requires_2 c κs =
    part_room (parts c.before.before.before.before.before.before) c.put_fields-i.ensures

returns : tie.Need-returns
unfolding minutes
returns c =
    wrote_parts (parts c.before.before.before.before.before.before.before.before.before) c.put_fields-i.ensures
    c.put_fields-j.ensures

pub put_interval_spec : {M : Type 1} → statement M
unfolding minutes
put_interval_spec =
    tie.close
    (tie.spec
    (λ c κs. first_room (parts c.before.before))
    (λ c. part_start (parts c.before.before.before.before.before) c.put_fields-i.ensures)
    (λ c. part_start (parts c.before.before.before.before.before) c.put_fields-i.ensures)
    (λ c. search rules)
    put_fields_requires_2
    (λ c.
    sum_fits (parts c.before.before.before.before.before.before.before.before.before) c.put_fields-i.ensures
    c.put_fields-j.ensures c.well_formed.0.0)
    (λ c. search rules)
    returns)

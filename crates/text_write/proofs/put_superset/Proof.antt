-- `put_superset` meets its contract.
use mathlib.Core.List.{[], ◌∷◌, ◌++◌}
use borrow.Author.Rules.{rules}
use Rattle.request.specs.Write.{minutes}
use Rattle.text_write.proofs.Puts.{Fields, in_fields, first_room, part_start, part_room, sum_fits, wrote_parts}
use Rattle.text_write.proofs.put_superset.Statement.{statement}
use Rattle.text_write.proofs.put_superset.Tie as tie

parts : (c : tie.Start)
    → Fields c.args.rest.now 10 ((103 ∷ []) ∷ [])
    (minutes c.args.v ++ minutes c.args.w)
unfolding minutes
parts c = in_fields _ _ _ tt tt c.requires

pub put_superset_spec : {M : Type 1} → statement M
put_superset_spec =
    tie.close
    (tie.spec
    (λ c κs. first_room (parts c.before.before))
    (λ c. part_start (parts c.before.before.before.before.before) c.put_letter-i.ensures)
    (λ c. part_start (parts c.before.before.before.before.before) c.put_letter-i.ensures)
    (λ c. search rules)
    (λ c κs.
    part_room (parts c.before.before.before.before.before.before) c.put_letter-i.ensures)
    (λ c.
    sum_fits (parts c.before.before.before.before.before.before.before.before.before) c.put_letter-i.ensures
    c.put_intervals-j.ensures c.well_formed.0.0)
    (λ c. search rules)
    (λ c.
    wrote_parts (parts c.before.before.before.before.before.before.before.before.before) c.put_letter-i.ensures
    c.put_intervals-j.ensures))

-- `put_triple` meets its contract.
use mathlib.Core.List.{[], ◌∷◌}
use borrow.Author.Rules.{rules}
use Rattle.request.specs.Write.{digits}
use Rattle.text_write.proofs.Puts.{Fields, in_fields, first_room, part_start, part_room, sum_fits, wrote_parts}
use Rattle.text_write.proofs.put_triple.Statement.{statement}
use Rattle.text_write.proofs.put_triple.Tie as tie

parts : (c : tie.Start)
    → Fields c.args.rest.now 10 ((110 ∷ []) ∷ digits c.args.l ∷ [])
    (digits c.args.m ∷ digits c.args.n ∷ [])
parts c = in_fields _ _ _ tt tt c.requires

pub put_triple_spec : {M : Type 1} → statement M
put_triple_spec =
    tie.close
    (tie.spec
    (λ c κs. first_room (parts c.before.before))
    (λ c. part_start (parts c.before.before.before.before.before) c.put_head-i.ensures)
    (λ c. part_start (parts c.before.before.before.before.before) c.put_head-i.ensures)
    (λ c. search rules)
    (λ c κs.
    part_room (parts c.before.before.before.before.before.before) c.put_head-i.ensures)
    (λ c.
    sum_fits (parts c.before.before.before.before.before.before.before.before.before) c.put_head-i.ensures
    c.put_fields-k.ensures c.well_formed.0.0)
    (λ c. search rules)
    (λ c.
    wrote_parts (parts c.before.before.before.before.before.before.before.before.before) c.put_head-i.ensures
    c.put_fields-k.ensures))

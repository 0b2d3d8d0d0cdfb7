-- `put_intervals` meets its contract.
use borrow.Author.Rules.{rules}
use Rattle.request.specs.Write.{minutes}
use Rattle.text_write.proofs.Puts.{Fields, in_fields, first_room, part_start, part_room, sum_fits, wrote_parts}
use Rattle.text_write.proofs.put_intervals.Statement.{statement}
use Rattle.text_write.proofs.put_intervals.Tie as tie

parts : (c : tie.Start) → Fields c.args.rest.now 10 (minutes c.args.v) (minutes c.args.w)
unfolding minutes
parts c = in_fields _ _ _ tt tt c.requires

pub put_intervals_spec : {M : Type 1} → statement M
put_intervals_spec =
    tie.close
    (tie.spec
    (λ c κs. first_room (parts c.before.before))
    (λ c. part_start (parts c.before.before.before.before.before) c.put_interval-i.ensures)
    (λ c. part_start (parts c.before.before.before.before.before) c.put_interval-i.ensures)
    (λ c. search rules)
    (λ c κs.
    part_room (parts c.before.before.before.before.before.before) c.put_interval-i.ensures)
    (λ c.
    sum_fits (parts c.before.before.before.before.before.before.before.before.before) c.put_interval-i.ensures
    c.put_interval-j.ensures c.well_formed.0.0)
    (λ c. search rules)
    (λ c.
    wrote_parts (parts c.before.before.before.before.before.before.before.before.before) c.put_interval-i.ensures
    c.put_interval-j.ensures))

-- `put_lines` meets its contract.
use mathlib.Core.Path.{refl}
use borrow.Author.Rules.{rules}
use Rattle.text_write.proofs.Puts.{Parts, first_room, part_start, part_room, sum_fits, wrote_parts}
use Rattle.text_close.specs.Lines.{formula_lines, row_lines, body_lines}
use Rattle.text_close.proofs.put_lines.Statement.{statement}
use Rattle.text_close.proofs.put_lines.Tie as tie

parts : (c : tie.Start)
    → Parts c.args.rest.now (body_lines c.args.store.now) (formula_lines c.args.store.now)
    (row_lines c.args.store.now)
parts c = record { joins = refl; fits = c.requires.1 }

pub put_lines_spec : {M : Type 1} → statement M
put_lines_spec =
    tie.close
    (tie.spec
    (λ c κs. (c.requires.0, first_room (parts c.before.before)))
    (λ c. part_start (parts c.before.before.before.before.before) c.put_formulas-i.ensures)
    (λ c. part_start (parts c.before.before.before.before.before) c.put_formulas-i.ensures)
    (λ c. search rules)
    (λ c κs.
    (c.requires.0, part_room (parts c.before.before.before.before.before.before) c.put_formulas-i.ensures))
    (λ c.
    sum_fits (parts c.before.before.before.before.before.before.before.before.before) c.put_formulas-i.ensures
    c.put_rows-j.ensures c.well_formed.0.0)
    (λ c. search rules)
    (λ c.
    wrote_parts (parts c.before.before.before.before.before.before.before.before.before) c.put_formulas-i.ensures
    c.put_rows-j.ensures))

-- `put_text` meets its contract.
use borrow.Author.Rules.{rules}
use Rattle.snapshot.specs.Snapshot.{text}
use Rattle.store.specs.Store.{ledger_of}
use Rattle.text_write.proofs.Puts.{Parts, first_room, part_start, part_room, sum_fits, wrote_parts}
use Rattle.text_close.specs.Lines.{title_text, body_lines}
use Rattle.text_close.proofs.Texts.{text_parts}
use Rattle.text_close.proofs.put_text.Statement.{statement}
use Rattle.text_close.proofs.put_text.Tie as tie

parts : (c : tie.Start)
    → Parts c.args.rest.now (text (ledger_of c.args.store.now)) (title_text c.args.store.now)
    (body_lines c.args.store.now)
parts c = record { joins = text_parts _; fits = c.requires.1 }

pub put_text_spec : {M : Type 1} → statement M
put_text_spec =
    tie.close
    (tie.spec
    (λ c κs. (c.requires.0, first_room (parts c.before.before)))
    (λ c. part_start (parts c.before.before.before.before.before) c.put_title-i.ensures)
    (λ c. part_start (parts c.before.before.before.before.before) c.put_title-i.ensures)
    (λ c. search rules)
    (λ c κs.
    (c.requires.0, part_room (parts c.before.before.before.before.before.before) c.put_title-i.ensures))
    (λ c.
    sum_fits (parts c.before.before.before.before.before.before.before.before.before) c.put_title-i.ensures
    c.put_lines-j.ensures c.well_formed.0.0)
    (λ c. search rules)
    (λ c.
    wrote_parts (parts c.before.before.before.before.before.before.before.before.before) c.put_title-i.ensures
    c.put_lines-j.ensures))

-- There is room for the next line, and it stands after those before it.
use Rattle.std.proofs.Common.{◌≡◌, List, ℕ, ◌+◌, ◌<◌, ◌≤◌, length, sym, ap, arith}
use Rattle.store_cells.specs.Layout.{line_count}
use Rattle.store.proofs.Views.{lines_length}
use Rattle.text_write.proofs.Puts.{Parts, room_as, wrote_as, part_start, part_room, sum_fits, wrote_parts}
use Rattle.text_close.specs.Lines.{formula_text, formula_texts}
use Rattle.text_close.proofs.Texts.{formula_lines_holds, formula_as, wrote_none, with_next_holds}
use Rattle.text_close.proofs.put_formulas.Goals as goal

room : (o l : List ℕ) (i : ℕ) → i < line_count l → length (formula_texts l (line_count l)) ≤ length o
    → Parts o (formula_texts l (i + 1)) (formula_texts l i) (formula_text l i)
room o l i h r = with_next_holds (formula_lines_holds l) o i _ h r

pub loop-i-init : goal.loop-i-init
loop-i-init c = wrote_none (formula_lines_holds _).none

pub slice_bounds-put_formula-count : goal.slice_bounds-put_formula-count
slice_bounds-put_formula-count c =
    part_start (room _ _ _ (omega (arith, lines_length c.args.store.now)) c.requires.1) c.loop-i.invariant

pub put_formula-at-requires : goal.put_formula-at-requires
put_formula-at-requires c =
    room_as (sym (formula_as _ _ c.line_at.ensures))
    (part_room (room _ _ _ (omega (arith, lines_length c.args.store.now)) c.requires.1) c.loop-i.invariant)

pub overflow_add-at : goal.overflow_add-at
overflow_add-at c =
    sum_fits (room _ _ _ (omega (arith, lines_length c.args.store.now)) c.requires.1) c.loop-i.invariant
    (wrote_as (formula_as _ _ c.line_at.ensures) c.put_formula-at.ensures) c.well_formed.0.0

pub loop-i-preserved : goal.loop-i-preserved
loop-i-preserved c =
    wrote_parts (room _ _ _ (omega (arith, lines_length c.args.store.now)) c.requires.1) c.loop-i.invariant
    (wrote_as (formula_as _ _ c.line_at.ensures) c.put_formula-at.ensures)

pub returns : goal.returns
returns c =
    let e : c.loop-i.i ≡ line_count c.args.store.now = omega (arith, lines_length c.args.store.now) in
    wrote_as (ap (formula_texts _) e) c.loop-i.invariant

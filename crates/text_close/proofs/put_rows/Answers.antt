-- There is room for the next line, and it stands after those before it.
use Rattle.std.proofs.Common.{◌≡◌, List, ℕ, ◌+◌, ◌<◌, ◌≤◌, length, ap, arith}
use Rattle.store_cells.specs.Layout.{row_count}
use Rattle.text_write.proofs.Puts.{Parts, wrote_as, part_start, part_room, sum_fits, wrote_parts}
use Rattle.text_close.specs.Lines.{row_text, row_texts}
use Rattle.text_close.proofs.Texts.{row_lines_holds, wrote_none, with_next_holds}
use Rattle.text_close.proofs.put_rows.Goals as goal

room : (o l : List ℕ) (i : ℕ) → i < row_count l → length (row_texts l (row_count l)) ≤ length o
    → Parts o (row_texts l (i + 1)) (row_texts l i) (row_text l i)
room o l i h r = with_next_holds (row_lines_holds l) o i _ h r

pub loop-i-init : goal.loop-i-init
loop-i-init c = wrote_none (row_lines_holds _).none

pub slice_bounds-put_row-count : goal.slice_bounds-put_row-count
slice_bounds-put_row-count c = part_start (room _ _ _ (omega arith) c.requires.1) c.loop-i.invariant

pub put_row-at-requires : goal.put_row-at-requires
put_row-at-requires c =
    (c.requires.0, omega arith, part_room (room _ _ _ (omega arith) c.requires.1) c.loop-i.invariant)

pub overflow_add-at : goal.overflow_add-at
overflow_add-at c =
    sum_fits (room _ _ _ (omega arith) c.requires.1) c.loop-i.invariant c.put_row-at.ensures c.well_formed.0.0

pub loop-i-preserved : goal.loop-i-preserved
loop-i-preserved c = wrote_parts (room _ _ _ (omega arith) c.requires.1) c.loop-i.invariant c.put_row-at.ensures

pub returns : goal.returns
returns c =
    let e : c.loop-i.i ≡ row_count c.args.store.now = omega arith in
    wrote_as (ap (row_texts _) e) c.loop-i.invariant

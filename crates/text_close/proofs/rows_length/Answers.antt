-- There are at most 4096 rows, so the sum fits.
use Rattle.std.proofs.Common.{◌≡◌, ap, arith}
use borrow.Author.Rules.{Fits-under}
use Rattle.store_cells.specs.Layout.{row_count}
use Rattle.text_write.proofs.Lengths.{measured_as}
use Rattle.text_close.specs.Lines.{row_texts}
use Rattle.text_close.proofs.Texts.{row_lines_holds, measured_none, measured_next, measured_within}
use Rattle.text_close.proofs.rows_length.Goals as goal

pub loop-i-init : goal.loop-i-init
loop-i-init c = measured_none (row_lines_holds _).none

pub overflow_add-at : goal.overflow_add-at
overflow_add-at c =
    let small = c.loop-i.invariant.small in
    Fits-under _ _ 278597 (omega (arith, small, c.row_length-at.ensures.small, c.requires.ordered.few)) tt

pub loop-i-preserved : goal.loop-i-preserved
loop-i-preserved c =
    measured_within (omega arith) (measured_next (row_lines_holds _) _ c.loop-i.invariant c.row_length-at.ensures)

pub returns : goal.returns
returns c =
    let e : c.loop-i.i ≡ row_count c.args.store.now = omega arith in
    measured_within (omega (arith, c.requires.ordered.few)) (measured_as (ap (row_texts _) e) c.loop-i.invariant)

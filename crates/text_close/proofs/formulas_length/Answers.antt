-- There are at most 200 lines, so the sum fits.
use Rattle.std.proofs.Common.{◌≡◌, ap, arith}
use borrow.Author.Rules.{Fits-under}
use Rattle.store_cells.specs.Layout.{line_count}
use Rattle.store.proofs.Views.{lines_length}
use Rattle.text_write.proofs.Lengths.{measured_as}
use Rattle.text_close.specs.Lines.{formula_texts}
use Rattle.text_close.proofs.Texts.{formula_lines_holds, formula_as, measured_none, measured_next, measured_within}
use Rattle.text_close.proofs.formulas_length.Goals as goal

pub loop-i-init : goal.loop-i-init
loop-i-init c = measured_none (formula_lines_holds _).none

pub overflow_add-at : goal.overflow_add-at
overflow_add-at c =
    let small = c.loop-i.invariant.small in
    Fits-under _ _ 18091
    (omega (arith, small, c.formula_length-at.ensures.small, lines_length c.args.store.now, c.requires.lines)) tt

pub loop-i-preserved : goal.loop-i-preserved
loop-i-preserved c =
    measured_within (omega arith) (measured_next (formula_lines_holds _) _ c.loop-i.invariant
    (measured_as (formula_as _ _ c.line_at.ensures) c.formula_length-at.ensures))

pub returns : goal.returns
returns c =
    let n = lines_length c.args.store.now in
    let e : c.loop-i.i ≡ line_count c.args.store.now = omega (arith, n) in
    measured_within (omega (arith, n, c.requires.lines)) (measured_as (ap (formula_texts _) e) c.loop-i.invariant)

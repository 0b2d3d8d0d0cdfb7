-- Each turn passes over a line.
use Rattle.std.proofs.Common.{sym, ◌∙◌, arith}
use Rattle.read_formulas.proofs.RowLines.{row_line, row_none}
use Rattle.text_read.proofs.PastLines.{past_start, past_turn, past_broken, past_end}
use Rattle.text_read.proofs.past_formulas.Goals as goal

pub loop-init : goal.loop-init
loop-init c = past_start _ _ _

pub returns-in_err-formula_line : goal.returns-in_err-formula_line
returns-in_err-formula_line c =
    rw c.from_residual.ensures
    (sym (c.loop.invariant ∙ past_broken _ _ _ _ (omega arith) (row_none _ (sym c.in_err-formula_line.ensures.read))))

pub loop-preserved : goal.loop-preserved
loop-preserved c =
    c.loop.invariant ∙ past_turn _ _ _ _ (omega arith) (row_line _ (sym c.in_ok-formula_line.ensures.read)).is

pub returns : goal.returns
returns c = sym (c.loop.invariant ∙ past_end _ _ _ _ (omega arith))

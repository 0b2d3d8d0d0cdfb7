-- Each turn takes a line.
use Rattle.std.proofs.Common.{sym, arith}
use Rattle.read_formulas.proofs.RowLines.{row_none}
use Rattle.text_open.proofs.Taking.{take_start, take_end, take_next, no_line, bad_line, line_asked}
use Rattle.text_open.proofs.Taking.{line_read, row_read}
use Rattle.text_open.proofs.take_lines.Goals as goal

pub loop-init : goal.loop-init
loop-init c = take_start _ c.requires

pub returns-in_err-row-clause-result_after : goal.returns-in_err-row-clause-result_after
returns-in_err-row-clause-result_after c =
    rw c.from_residual.ensures (no_line c.loop.invariant (omega arith) (row_none _ (sym c.in_err-row.ensures.read)))

pub returns-in_err-row-clause-good : goal.returns-in_err-row-clause-good
returns-in_err-row-clause-good c = c.loop.invariant.asked.good

pub take_line-requires : goal.take_line-requires
take_line-requires c = line_asked c.loop.invariant (omega arith) _ (row_read _ (sym c.in_ok-row.ensures.read))

pub returns-in_err-take_line-clause-result_after : goal.returns-in_err-take_line-clause-result_after
returns-in_err-take_line-clause-result_after c =
    rw c.from_residual-in_err-take_line.ensures
    (bad_line c.loop.invariant (omega arith) _ (line_read _ (sym c.in_ok-row.ensures.read))
    (sym c.in_err-take_line.ensures.result_after))

pub loop-preserved : goal.loop-preserved
loop-preserved c =
    take_next c.loop.invariant (omega arith) _ (line_read _ (sym c.in_ok-row.ensures.read))
    (sym c.in_ok-take_line.ensures.result_after) c.in_ok-take_line.ensures.good

pub returns-clause-result_after : goal.returns-clause-result_after
returns-clause-result_after c = take_end c.loop.invariant (omega arith)

pub returns-clause-good : goal.returns-clause-good
returns-clause-good c = c.loop.invariant.asked.good

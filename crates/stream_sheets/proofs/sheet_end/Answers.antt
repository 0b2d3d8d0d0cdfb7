-- The search goes on from what is skipped, byte by byte.
use Rattle.std.proofs.Common.{arith}
use Rattle.stream_sheets.proofs.EmptyLines.{any_before, end_first, end_at, end_on}
use Rattle.stream_sheets.proofs.sheet_end.Goals as goal

pub returns-then-fresh-piece : goal.returns-then-fresh-piece
returns-then-fresh-piece c = end_first c.args.piece.now c.args.fresh c.requires c.if-fresh-piece.true

pub loop-i-init : goal.loop-i-init
loop-i-init c =
    any_before c.args.fresh c.args.piece.now c.skip-i.result c.requires c.if-fresh-piece.false c.skip-i.ensures.none

pub returns-then-piece-i : goal.returns-then-piece-i
returns-then-piece-i c =
    end_at c.args.piece.now c.args.fresh c.loop-i.i (omega arith) (omega arith) c.loop-i.invariant c.if-piece-i.true

pub loop-i-preserved : goal.loop-i-preserved
loop-i-preserved c =
    end_on c.args.piece.now c.args.fresh c.loop-i.i (omega arith) (omega arith) c.loop-i.invariant c.if-piece-i.false

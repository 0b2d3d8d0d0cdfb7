-- The loop's invariant: no empty line stands in the blocks before.
use Rattle.std.proofs.Common.{◌*◌}
use Rattle.stream_sheets.specs.Ends.{Skipped}
use Rattle.stream_sheets.proofs.skip.Given as goal

abbrev pub invariant-loop-block : goal.invariant-loop-block
invariant-loop-block l = Skipped l.piece (64 * l.block)

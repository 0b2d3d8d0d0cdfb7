-- The loop's invariant: the state stands for some bytes that were read and some that were written, as many as were
-- noted. Its measure: the reads that are left.
use Rattle.std.proofs.Common.{◌≡◌, ◌-◌, length}
use Rattle.request.specs.Range.{max_bytes}
use Rattle.stream_console.specs.Console.{most_reads}
use Rattle.tillrun.specs.Program.{Going}
use Rattle.tillrun.proofs.play.Given as goal

abbrev pub invariant-loop-kiosk : goal.invariant-loop-kiosk
invariant-loop-kiosk l = Going l.kiosk l.run (length l.piece) × (length l.piece ≡ max_bytes)

abbrev pub decreases-loop-kiosk : goal.decreases-loop-kiosk
decreases-loop-kiosk l = most_reads - l.run.input.reads

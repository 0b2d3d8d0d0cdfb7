-- The loop's invariant: the bytes before the rest are taken. Its measure: how many are left.
use Rattle.std.proofs.Common.{◌≡◌, length}
use Rattle.stream.specs.Stream.{SameLent}
use Rattle.stream.proofs.Pieces.{Taking}
use Rattle.stream.proofs.Kiosk.feed.Given as goal

abbrev pub invariant-loop-rest : goal.invariant-loop-rest
invariant-loop-rest l =
    Taking l.fn.self l.piece l.rest l.self × (length l.self.text.now ≡ length l.fn.self.text.now)
    × SameLent l.fn.self l.self

abbrev pub decreases-loop-rest : goal.decreases-loop-rest
decreases-loop-rest l = length l.rest

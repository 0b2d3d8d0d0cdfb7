-- The loop's invariant: the word and the numbers before are written.
use Rattle.std.proofs.Common.{◌∷◌, map, take, ◌+◌, ◌*◌, ◌≤◌}
use Rattle.request.specs.Write.{digits, joined}
use Rattle.stream_print.specs.Printed.{Wrote}
use Rattle.stream_print.proofs.put_line.Given as goal

abbrev pub invariant-loop-n : goal.invariant-loop-n
invariant-loop-n l =
    Wrote l.fn.text l.at (joined (l.word ∷ map digits (take l.n-index l.numbers))) l.text l.i
    × (l.i ≤ l.at + 2 + 11 * l.n-index)

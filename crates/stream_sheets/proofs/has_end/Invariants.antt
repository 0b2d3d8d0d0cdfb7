-- The loop's invariant: some empty line is counted if one stands in the bytes before i.
use Rattle.std.proofs.Common.{◌≡◌, false, ◌<◌, take}
use lib.Dec.{ltb}
use Rattle.stream_sheets.specs.Sheets.{empty_line}
use Rattle.stream_sheets.proofs.has_end.Given as goal

abbrev pub invariant-loop-i : goal.invariant-loop-i
invariant-loop-i l = (l.found < l.i) × (ltb 0 l.found ≡ empty_line false (take l.i l.bytes))

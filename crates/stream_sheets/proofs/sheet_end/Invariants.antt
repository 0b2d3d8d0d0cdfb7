-- The loop's invariant: no empty line stands in the bytes before i.
use Rattle.std.proofs.Common.{◌≡◌, false, take}
use Rattle.stream_sheets.specs.Sheets.{empty_line}
use Rattle.stream_sheets.proofs.sheet_end.Given as goal

abbrev pub invariant-loop-i : goal.invariant-loop-i
invariant-loop-i l = empty_line l.fresh (take l.i l.piece) ≡ false

-- The lines of the rows before i are measured.
use Rattle.std.proofs.Common.{◌*◌}
use Rattle.text_write.specs.Put.{Measured}
use Rattle.text_close.specs.Lines.{row_texts}
use Rattle.text_close.proofs.rows_length.Given as goal

abbrev pub invariant-loop-i : goal.invariant-loop-i
invariant-loop-i l = Measured (row_texts l.store l.i) (l.i * 68) l.at

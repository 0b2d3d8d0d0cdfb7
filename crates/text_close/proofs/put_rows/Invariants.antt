-- The lines before i are written.
use Rattle.text_write.specs.Put.{Put}
use Rattle.text_close.specs.Lines.{row_texts}
use Rattle.text_close.proofs.put_rows.Given as goal

abbrev pub invariant-loop-i : goal.invariant-loop-i
invariant-loop-i l = Put l.fn.rest (row_texts l.store l.i) l.rest l.at

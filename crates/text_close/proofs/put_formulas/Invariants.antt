-- The lines before i are written.
use Rattle.text_write.specs.Put.{Put}
use Rattle.text_close.specs.Lines.{formula_texts}
use Rattle.text_close.proofs.put_formulas.Given as goal

abbrev pub invariant-loop-i : goal.invariant-loop-i
invariant-loop-i l = Put l.fn.rest (formula_texts l.store l.i) l.rest l.at

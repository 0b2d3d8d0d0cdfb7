-- The lines before i are measured.
use Rattle.std.proofs.Common.{◌*◌}
use Rattle.text_write.specs.Put.{Measured}
use Rattle.text_close.specs.Lines.{formula_texts}
use Rattle.text_close.proofs.formulas_length.Given as goal

abbrev pub invariant-loop-i : goal.invariant-loop-i
invariant-loop-i l = Measured (formula_texts l.store l.i) (l.i * 90) l.at

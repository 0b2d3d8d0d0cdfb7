-- Where the last minute is broken, nothing is passed.
use Rattle.std.proofs.Common.{refl}
use Rattle.read_formulas.proofs.formulas.interval.Goals as goal

pub returns-in_err-last-clause-kept : goal.returns-in_err-last-clause-kept
returns-in_err-last-clause-kept c = rw c.from_residual-in_err-last.ensures refl

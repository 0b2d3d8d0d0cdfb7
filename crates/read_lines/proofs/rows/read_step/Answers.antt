-- Where the line is broken, nothing is passed.
use Rattle.std.proofs.Common.{refl}
use Rattle.read_lines.proofs.rows.read_step.Goals as goal

pub returns-in_err-row-clause-kept : goal.returns-in_err-row-clause-kept
returns-in_err-row-clause-kept c = rw c.from_residual.ensures refl

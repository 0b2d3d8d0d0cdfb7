-- Where the form is broken, nothing is passed.
use Rattle.std.proofs.Common.{refl}
use Rattle.read_heads.proofs.requests.read_first.Goals as goal

pub returns-in_err-first-clause-kept : goal.returns-in_err-first-clause-kept
returns-in_err-first-clause-kept c = rw c.from_residual.ensures refl

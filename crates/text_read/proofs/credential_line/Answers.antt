-- Where the line is broken, nothing is passed.
use Rattle.std.proofs.Common.{refl}
use Rattle.text_read.proofs.credential_line.Goals as goal

pub returns-in_err-credential-clause-kept : goal.returns-in_err-credential-clause-kept
returns-in_err-credential-clause-kept c = rw c.from_residual.ensures refl

-- `lines_narrow` meets its contract.
use Rattle.steps.proofs.Narrow.{narrowing}
use Rattle.steps.proofs.lines_narrow.Statement.{statement}
use Rattle.steps.proofs.lines_narrow.Tie as tie

pub lines_narrow_spec : {M : Type 1} → statement M
lines_narrow_spec = tie.close (tie.spec (λ c. narrowing))

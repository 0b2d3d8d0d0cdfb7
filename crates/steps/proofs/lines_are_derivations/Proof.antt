-- `lines_are_derivations` meets its contract.
use Rattle.steps.proofs.Steps.{spelt, complete}
use Rattle.steps.proofs.lines_are_derivations.Statement.{statement}
use Rattle.steps.proofs.lines_are_derivations.Tie as tie

pub lines_are_derivations_spec : {M : Type 1} → statement M
lines_are_derivations_spec = tie.close (tie.spec (λ c. (spelt, complete)))

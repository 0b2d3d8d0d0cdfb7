-- `holders_go_along` meets its contract.
use Rattle.steps.proofs.Instances.{instances}
use Rattle.steps.proofs.holders_go_along.Statement.{statement}
use Rattle.steps.proofs.holders_go_along.Tie as tie

pub holders_go_along_spec : {M : Type 1} → statement M
holders_go_along_spec = tie.close (tie.spec (λ c. λ row f. instances))

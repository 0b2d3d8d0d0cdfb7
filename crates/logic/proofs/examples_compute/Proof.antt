-- `examples_compute` meets its contract.
use Rattle.logic.proofs.Examples.{examples}
use Rattle.logic.proofs.examples_compute.Statement.{statement}
use Rattle.logic.proofs.examples_compute.Tie as tie

pub examples_compute_spec : {M : Type 1} → statement M
examples_compute_spec = tie.close (tie.spec (λ c. examples))

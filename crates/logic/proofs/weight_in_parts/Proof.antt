-- `weight_in_parts` meets its contract.
use Rattle.logic.proofs.Weights.{weight_parts}
use Rattle.logic.proofs.weight_in_parts.Statement.{statement}
use Rattle.logic.proofs.weight_in_parts.Tie as tie

pub weight_in_parts_spec : {M : Type 1} → statement M
weight_in_parts_spec = tie.close (tie.spec (λ c. weight_parts))

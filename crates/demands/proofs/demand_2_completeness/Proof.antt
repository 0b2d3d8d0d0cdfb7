-- `demand_2_completeness` meets its contract.
use Rattle.demands.proofs.Completeness.{steps_complete, completeness}
use Rattle.demands.proofs.demand_2_completeness.Statement.{statement}
use Rattle.demands.proofs.demand_2_completeness.Tie as tie

pub demand_2_completeness_spec : {M : Type 1} → statement M
demand_2_completeness_spec = tie.close (tie.spec (λ c. (steps_complete, completeness)))

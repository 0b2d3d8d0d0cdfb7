-- `demand_3_sums` meets its contract.
use Rattle.demands.proofs.Demand3.{demand_3}
use Rattle.demands.proofs.demand_3_sums.Statement.{statement}
use Rattle.demands.proofs.demand_3_sums.Tie as tie

pub demand_3_sums_spec : {M : Type 1} → statement M
demand_3_sums_spec = tie.close (tie.spec (λ c. demand_3))

-- `demand_2_exactness` meets its contract.
use Rattle.demands.proofs.Exactness.{exactness}
use Rattle.demands.proofs.demand_2_exactness.Statement.{statement}
use Rattle.demands.proofs.demand_2_exactness.Tie as tie

pub demand_2_exactness_spec : {M : Type 1} → statement M
demand_2_exactness_spec = tie.close (tie.spec (λ c. exactness))

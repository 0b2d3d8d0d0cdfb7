-- `demand_2_soundness` meets its contract.
use Rattle.demands.proofs.Exactness.{soundness}
use Rattle.demands.proofs.demand_2_soundness.Statement.{statement}
use Rattle.demands.proofs.demand_2_soundness.Tie as tie

pub demand_2_soundness_spec : {M : Type 1} → statement M
demand_2_soundness_spec = tie.close (tie.spec (λ c. soundness))

-- `demand_2_accepted_calls` meets its contract.
use Rattle.demands.proofs.Demand1.{call_accepts}
use Rattle.demands.proofs.Effects.{effects, serials_once}
use Rattle.demands.proofs.demand_2_accepted_calls.Statement.{statement}
use Rattle.demands.proofs.demand_2_accepted_calls.Tie as tie

pub demand_2_accepted_calls_spec : {M : Type 1} → statement M
demand_2_accepted_calls_spec = tie.close (tie.spec (λ c. (call_accepts, (effects, serials_once))))

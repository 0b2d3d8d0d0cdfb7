-- `demand_1_first_check_answers` meets its contract.
use Rattle.demands.proofs.Demand1.{demand_1}
use Rattle.demands.proofs.demand_1_first_check_answers.Statement.{statement}
use Rattle.demands.proofs.demand_1_first_check_answers.Tie as tie

pub demand_1_first_check_answers_spec : {M : Type 1} → statement M
demand_1_first_check_answers_spec = tie.close (tie.spec (λ c. demand_1))

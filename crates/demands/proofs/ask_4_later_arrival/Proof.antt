-- `ask_4_later_arrival` meets its contract.
use Rattle.demands.proofs.Later.{later_arrival}
use Rattle.demands.proofs.ask_4_later_arrival.Statement.{statement}
use Rattle.demands.proofs.ask_4_later_arrival.Tie as tie

pub ask_4_later_arrival_spec : {M : Type 1} → statement M
ask_4_later_arrival_spec = tie.close (tie.spec (λ c. later_arrival))

-- `m10_plays` meets its contract.
use Rattle.hall.proofs.Halls.{m10_plays}
use Rattle.hall.proofs.m10_plays.Statement.{statement}
use Rattle.hall.proofs.m10_plays.Tie as tie

pub m10_plays_spec : {M : Type 1} → statement M
m10_plays_spec = tie.close (tie.spec (λ c. m10_plays))

-- `ranges_end` meets its contract.
use Rattle.request.proofs.Ends.{ranges_end}
use Rattle.request.proofs.ranges_end.Statement.{statement}
use Rattle.request.proofs.ranges_end.Tie as tie

pub ranges_end_spec : {M : Type 1} → statement M
ranges_end_spec = tie.close (tie.spec (λ c. ranges_end))

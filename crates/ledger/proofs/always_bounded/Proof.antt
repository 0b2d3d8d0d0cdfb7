-- `always_bounded` meets its contract.
use Rattle.ledger.proofs.Bounds.{bounded}
use Rattle.ledger.proofs.always_bounded.Statement.{statement}
use Rattle.ledger.proofs.always_bounded.Tie as tie

pub always_bounded_spec : {M : Type 1} → statement M
always_bounded_spec = tie.close (tie.spec (λ c. bounded))

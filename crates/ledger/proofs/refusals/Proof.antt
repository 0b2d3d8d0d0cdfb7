-- `refusals` meets its contract.
use Rattle.ledger.proofs.Answers.{refusals}
use Rattle.ledger.proofs.refusals.Statement.{statement}
use Rattle.ledger.proofs.refusals.Tie as tie

pub refusals_spec : {M : Type 1} → statement M
refusals_spec = tie.close (tie.spec (λ c. refusals))

-- `sessions_play` meets its contract.
use Rattle.ledger.proofs.Sessions.{sessions_play, later_play}
use Rattle.ledger.proofs.sessions_play.Statement.{statement}
use Rattle.ledger.proofs.sessions_play.Tie as tie

pub sessions_play_spec : {M : Type 1} → statement M
sessions_play_spec = tie.close (tie.spec (λ c. (sessions_play, later_play)))

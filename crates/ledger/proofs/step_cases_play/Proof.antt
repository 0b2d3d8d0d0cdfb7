-- `step_cases_play` meets its contract.
use Rattle.ledger.proofs.Cases.{step_cases_play, pause_cases_play, connective_cases_play, holder_cases_play}
use Rattle.ledger.proofs.step_cases_play.Statement.{statement}
use Rattle.ledger.proofs.step_cases_play.Tie as tie

pub step_cases_play_spec : {M : Type 1} → statement M
step_cases_play_spec =
    tie.close
    (tie.spec (λ c. (step_cases_play, (pause_cases_play, (connective_cases_play, holder_cases_play)))))

-- `cases_play` meets its contract.
use Rattle.ledger.proofs.Cases.{cases_play, formula_cases_play}
use Rattle.ledger.proofs.LastSerials.{idle_given, crowd_given, last_serials_play}
use Rattle.ledger.proofs.cases_play.Statement.{statement}
use Rattle.ledger.proofs.cases_play.Tie as tie

pub cases_play_spec : {M : Type 1} → statement M
cases_play_spec =
    tie.close
    (tie.spec (λ c. (cases_play, (formula_cases_play, (idle_given, (crowd_given, last_serials_play))))))

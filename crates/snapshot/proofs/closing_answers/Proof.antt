-- `closing_answers` meets its contract.
use Rattle.snapshot.proofs.Reopen.{close_answers, closes_and_opens}
use Rattle.snapshot.proofs.closing_answers.Statement.{statement}
use Rattle.snapshot.proofs.closing_answers.Tie as tie

pub closing_answers_spec : {M : Type 1} → statement M
closing_answers_spec = tie.close (tie.spec (λ c. (close_answers, closes_and_opens)))

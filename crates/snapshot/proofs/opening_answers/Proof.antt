-- `opening_answers` meets its contract.
use Rattle.snapshot.proofs.Reopen.{open_answers}
use Rattle.snapshot.proofs.opening_answers.Statement.{statement}
use Rattle.snapshot.proofs.opening_answers.Tie as tie

pub opening_answers_spec : {M : Type 1} → statement M
opening_answers_spec = tie.close (tie.spec (λ c. open_answers))

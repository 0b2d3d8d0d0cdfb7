-- `one_spelling` meets its contract.
use Rattle.request.proofs.Requests.{write_read, read_write}
use Rattle.request.proofs.one_spelling.Statement.{statement}
use Rattle.request.proofs.one_spelling.Tie as tie

pub one_spelling_spec : {M : Type 1} → statement M
one_spelling_spec = tie.close (tie.spec (λ c. (write_read, read_write)))

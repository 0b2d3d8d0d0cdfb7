-- `requests_are_short` meets its contract.
use Rattle.request.proofs.Requests.{longest_write, write_short}
use Rattle.request.proofs.requests_are_short.Statement.{statement}
use Rattle.request.proofs.requests_are_short.Tie as tie

pub requests_are_short_spec : {M : Type 1} → statement M
requests_are_short_spec = tie.close (tie.spec (λ c. (longest_write, write_short)))

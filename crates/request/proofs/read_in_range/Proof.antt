-- `read_in_range` meets its contract.
use Rattle.request.proofs.Requests.{read_in_range}
use Rattle.request.proofs.read_in_range.Statement.{statement}
use Rattle.request.proofs.read_in_range.Tie as tie

pub read_in_range_spec : {M : Type 1} → statement M
read_in_range_spec = tie.close (tie.spec (λ c. read_in_range))

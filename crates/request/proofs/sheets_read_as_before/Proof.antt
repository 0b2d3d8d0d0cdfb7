-- `sheets_read_as_before` meets its contract.
use Rattle.request.proofs.Wider.{sheets_as_before}
use Rattle.request.proofs.sheets_read_as_before.Statement.{statement}
use Rattle.request.proofs.sheets_read_as_before.Tie as tie

pub sheets_read_as_before_spec : {M : Type 1} → statement M
sheets_read_as_before_spec = tie.close (tie.spec (λ c. sheets_as_before))

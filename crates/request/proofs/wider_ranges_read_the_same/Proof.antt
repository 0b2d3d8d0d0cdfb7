-- `wider_ranges_read_the_same` meets its contract.
use Rattle.request.proofs.Digits.{number_wider}
use Rattle.request.proofs.wider_ranges_read_the_same.Statement.{statement}
use Rattle.request.proofs.wider_ranges_read_the_same.Tie as tie

pub wider_ranges_read_the_same_spec : {M : Type 1} → statement M
wider_ranges_read_the_same_spec = tie.close (tie.spec (λ c. number_wider))

-- `numbers_compute` meets its contract.
use Rattle.entry.proofs.Examples.{numbers_examples}
use Rattle.entry.proofs.numbers_compute.Statement.{statement}
use Rattle.entry.proofs.numbers_compute.Tie as tie

pub numbers_compute_spec : {M : Type 1} → statement M
numbers_compute_spec = tie.close (tie.spec (λ c. numbers_examples))

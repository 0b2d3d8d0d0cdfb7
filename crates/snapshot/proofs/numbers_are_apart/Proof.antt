-- `numbers_are_apart` meets its contract.
use Rattle.snapshot.proofs.Numbers.{numbers_apart}
use Rattle.snapshot.proofs.numbers_are_apart.Statement.{statement}
use Rattle.snapshot.proofs.numbers_are_apart.Tie as tie

pub numbers_are_apart_spec : {M : Type 1} → statement M
numbers_are_apart_spec = tie.close (tie.spec (λ c. numbers_apart))

-- `broken` meets its contract.
use Rattle.logic.specs.Interval.{broken}
use borrow.Author.Rules.{rules}
use Rattle.intervals.proofs.broken.Statement.{statement}
use Rattle.intervals.proofs.broken.Tie as tie

pub broken_spec : {M : Type 1} → statement M
unfolding broken
broken_spec = tie.close (tie.spec (λ c. search rules))

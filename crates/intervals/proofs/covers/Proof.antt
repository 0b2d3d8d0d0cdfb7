-- `covers` meets its contract.
use borrow.Author.Rules.{rules}
use Rattle.logic.specs.Interval.{covers}
use Rattle.intervals.proofs.covers.Statement.{statement}
use Rattle.intervals.proofs.covers.Tie as tie

pub covers_spec : {M : Type 1} → statement M
unfolding covers
covers_spec =
    tie.close (tie.spec (λ c. search rules) (λ c. search rules) (λ c. search rules) (λ c. search rules)
    (λ c. search rules) (λ c. search rules))

-- `has` meets its contract.
use Rattle.logic.specs.Interval.{has, in_break}
use borrow.Author.Rules.{rules}
use Rattle.intervals.proofs.has.Statement.{statement}
use Rattle.intervals.proofs.has.Tie as tie

pub has_spec : {M : Type 1} → statement M
unfolding has in_break
has_spec = tie.close (tie.spec (λ c. search rules))

-- `reversed` meets its contract.
use Rattle.logic.specs.Interval.{reversed}
use borrow.Author.Rules.{rules}
use Rattle.intervals.proofs.reversed.Statement.{statement}
use Rattle.intervals.proofs.reversed.Tie as tie

pub reversed_spec : {M : Type 1} → statement M
unfolding reversed
reversed_spec = tie.close (tie.spec (λ c. search rules))

-- `when_linear` meets its contract.
use borrow.Author.Rules.{rules}
use Rattle.formula_tally.proofs.when_linear.Statement.{statement}
use Rattle.formula_tally.proofs.when_linear.Tie as tie

pub when_linear_spec : {M : Type 1} → statement M
when_linear_spec =
    tie.close
    (tie.spec
    (λ c. search rules)
    (λ c. search rules)
    (λ c. rw c.in-Linear.is)
    (λ c. rw c.in-Unrestricted.is))

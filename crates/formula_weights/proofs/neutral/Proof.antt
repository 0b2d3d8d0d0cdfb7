-- `neutral` meets its contract.
use borrow.Author.Rules.{rules}
use Rattle.formula_weights.proofs.neutral.Statement.{statement}
use Rattle.formula_weights.proofs.neutral.Tie as tie

pub neutral_spec : {M : Type 1} → statement M
neutral_spec = tie.close (tie.spec (λ c κs. search rules) (λ c. rw c.weigh-w.ensures))

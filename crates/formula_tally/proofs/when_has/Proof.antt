-- `when_has` meets its contract.
use mathlib.Core.Path.{sym, ◌∙◌}
use borrow.Author.Rules.{rules}
use Rattle.formula_tally.proofs.when_has.Statement.{statement}
use Rattle.formula_tally.proofs.when_has.Tie as tie

pub when_has_spec : {M : Type 1} → statement M
when_has_spec =
    tie.close
    (tie.spec
    (λ c κs. search rules)
    (λ c. simp (sym c.has.ensures ∙ c.if-has.true))
    (λ c. simp (sym c.has.ensures ∙ c.if-has.false)))

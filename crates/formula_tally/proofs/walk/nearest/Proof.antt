-- `nearest` meets its contract.
use borrow.Author.Tests.{eq-eqb, ne_eqb}
use Rattle.formula_tally.proofs.walk.nearest.Statement.{statement}
use Rattle.formula_tally.proofs.walk.nearest.Tie as tie

pub nearest_spec : {M : Type 1} → statement M
nearest_spec =
    tie.close
    (tie.spec
    (λ c. simp (eq-eqb _ _ c.if-row-eq-SAYS.true))
    (λ c. simp (ne_eqb _ _ c.if-row-eq-SAYS.false)))

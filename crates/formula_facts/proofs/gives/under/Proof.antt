-- `under` meets its contract.
use borrow.Author.Tests.{eq-eqb, ne_eqb}
use Rattle.formula_facts.proofs.gives.under.Statement.{statement}
use Rattle.formula_facts.proofs.gives.under.Tie as tie

pub under_spec : {M : Type 1} → statement M
under_spec =
    tie.close (tie.spec (λ c. simp (eq-eqb _ _ c.if-principal-eq-HOUSE.true))
    (λ c. simp (ne_eqb _ _ c.if-principal-eq-HOUSE.false)))

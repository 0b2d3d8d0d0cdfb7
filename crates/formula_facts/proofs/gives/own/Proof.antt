-- `own` meets its contract.
use borrow.Author.Tests.{eq-eqb, ne_eqb}
use Rattle.formula_facts.proofs.gives.own.Statement.{statement}
use Rattle.formula_facts.proofs.gives.own.Tie as tie

pub own_spec : {M : Type 1} → statement M
own_spec =
    tie.close
    (tie.spec
    (λ c. simp (eq-eqb _ _ c.if-predicate-eq-SEAT.true))
    (λ c. simp (ne_eqb _ _ c.if-predicate-eq-SEAT.false, eq-eqb _ _ c.if-predicate-eq-PLACE.true))
    (λ c. simp (ne_eqb _ _ c.if-predicate-eq-SEAT.false, ne_eqb _ _ c.if-predicate-eq-PLACE.false)))

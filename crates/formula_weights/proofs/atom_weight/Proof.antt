-- `atom_weight` meets its contract.
use borrow.Author.Tests.{eq-eqb, ne_eqb}
use mathlib.Core.Bool.{and-false}
use Rattle.formula_weights.proofs.atom_weight.Statement.{statement}
use Rattle.formula_weights.proofs.atom_weight.Tie as tie

pub atom_weight_spec : {M : Type 1} → statement M
atom_weight_spec =
    tie.close
    (tie.spec
    (λ c. simp (eq-eqb _ _ c.if-of-session.true, eq-eqb _ _ c.if-predicate-eq-SEAT.true))
    (λ c. simp (
      eq-eqb _ _ c.if-of-session.true,
      ne_eqb _ _ c.if-predicate-eq-SEAT.false,
      eq-eqb _ _
          c.if-predicate-eq-PLACE.true,
    ))
    (λ c. simp (
      eq-eqb _ _ c.if-of-session.true,
      ne_eqb _ _ c.if-predicate-eq-SEAT.false,
      ne_eqb _ _
          c.if-predicate-eq-PLACE.false,
    ))
    (λ c. simp (ne_eqb _ _ c.if-of-session.false, and-false)))

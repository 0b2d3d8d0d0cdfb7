-- `atom` meets its contract.
use borrow.Author.Rules.{rules}
use borrow.Author.Tests.{eq-eqb, ne_eqb}
use Rattle.formula_tally.proofs.walk.atom.Statement.{statement}
use Rattle.formula_tally.proofs.walk.atom.Tie as tie

-- a seat, under the house's ⟨K⟩ or not
returns : tie.Need-returns-then-under
returns c =
    simp (c.if-row.true, eq-eqb _ _ c.if-row-session.true, eq-eqb _ _ c.if-row-eq-SEAT.true, c.if-under.true)

returns_2 : tie.Need-returns-then-row-eq-SEAT
returns_2 c =
    simp (c.if-row.true, eq-eqb _ _ c.if-row-session.true, eq-eqb _ _ c.if-row-eq-SEAT.true, c.if-under.false)

returns_3 : tie.Need-returns-then-row-eq-PLACE
returns_3 c =
    simp (
      c.if-row.true,
      eq-eqb _ _ c.if-row-session.true,
      ne_eqb _ _ c.if-row-eq-SEAT.false,
      eq-eqb _ _ c.if-row-eq-PLACE.true,
    )

returns_4 : tie.Need-returns-else-row-eq-PLACE
returns_4 c =
    simp (
      c.if-row.true,
      eq-eqb _ _ c.if-row-session.true,
      ne_eqb _ _ c.if-row-eq-SEAT.false,
      ne_eqb _ _ c.if-row-eq-PLACE.false,
    )

pub atom_spec : {M : Type 1} → statement M
atom_spec =
    tie.close
    (tie.spec
    (λ c. search rules)
    returns
    returns_2
    returns_3
    returns_4
    (λ c. simp (c.if-row.true, ne_eqb _ _ c.if-row-session.false))
    (λ c. simp c.if-row.false))

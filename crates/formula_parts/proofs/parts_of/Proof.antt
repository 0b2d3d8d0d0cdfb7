-- `parts_of` meets its contract.
use borrow.Author.Tests.{ne_eqb}
use Rattle.formula_parts.specs.Parts.{parts_of}
use Rattle.formula_parts.proofs.parts_of.Statement.{statement}
use Rattle.formula_parts.proofs.parts_of.Tie as tie

rest : tie.Need-returns-in_default
unfolding parts_of
rest c =
    let m = c.in_default.in_default-own.rest in
    let n = m.0.0.0.0 in
    simp (
      ne_eqb _ _ m.1,
      ne_eqb _ _ m.0.1,
      ne_eqb _ _ m.0.0.1,
      ne_eqb _ _ m.0.0.0.1,
      ne_eqb _ _ n.1,
      ne_eqb _ _ n.0.1,
      ne_eqb _ _ n.0.0.1,
      ne_eqb _ _ n.0.0.0.1,
      ne_eqb _ _ n.0.0.0.0.1,
    )

pub parts_of_spec : {M : Type 1} → statement M
unfolding parts_of
parts_of_spec =
    tie.close
    (tie.spec
    (λ c. rw c.in-116.is)
    (λ c. rw c.in-119.is)
    (λ c. rw c.in-112.is)
    (λ c. rw c.in-108.is)
    (λ c. rw c.in-117.is)
    (λ c. rw c.in-98.is)
    (λ c. rw c.in-104.is)
    (λ c. rw c.in-115.is)
    (λ c. rw c.in-113.is)
    rest)

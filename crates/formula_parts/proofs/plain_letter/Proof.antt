-- `plain_letter` meets its contract.
use borrow.Author.Tests.{ne_eqb}
use Rattle.formula_parts.proofs.plain_letter.Statement.{statement}
use Rattle.formula_parts.proofs.plain_letter.Tie as tie

rest : tie.Need-returns-in_default
rest c =
    let m = c.in_default.in_default-own.rest in
    simp (ne_eqb _ _ m.1, ne_eqb _ _ m.0.1, ne_eqb _ _ m.0.0.1, ne_eqb _ _ m.0.0.0.1)

pub plain_letter_spec : {M : Type 1} → statement M
plain_letter_spec =
    tie.close
    (tie.spec (λ c. rw c.in-97.is) (λ c. rw c.in-116.is) (λ c. rw c.in-115.is)
    (λ c. rw c.in-110.is) rest)

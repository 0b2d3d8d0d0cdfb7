-- `given` meets its contract.
use borrow.Author.Tests.{eq-eqb, ne_eqb}
use Rattle.formula_facts.proofs.given.Statement.{statement}
use Rattle.formula_facts.proofs.given.Tie as tie

pub given_spec : {M : Type 1} → statement M
given_spec =
    tie.close (tie.spec (λ c. simp (eq-eqb _ _ c.if-span-session.true))
    (λ c. simp (ne_eqb _ _ c.if-span-session.false)))

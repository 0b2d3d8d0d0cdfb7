-- `under` meets its contract.
use borrow.Author.Tests.{eq-eqb, ne_eqb}
use Rattle.formula_weights.specs.RowWeights.{under_weight}
use Rattle.formula_weights.proofs.under.Statement.{statement}
use Rattle.formula_weights.proofs.under.Tie as tie

returns : tie.Need-returns-then-letter-eq-BANG
unfolding under_weight
returns c = simp (eq-eqb _ _ c.if-letter-eq-BANG.true)

returns_2 : tie.Need-returns
unfolding under_weight
returns_2 c = simp (ne_eqb _ _ c.if-letter-eq-BANG.false)

pub under_spec : {M : Type 1} → statement M
under_spec = tie.close (tie.spec returns returns_2)

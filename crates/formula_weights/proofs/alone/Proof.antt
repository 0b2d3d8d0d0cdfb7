-- `alone` meets its contract.
use borrow.Author.Rules.{rules}
use Rattle.formula_weights.specs.RowWeights.{alone_weight}
use Rattle.formula_weights.proofs.alone.Statement.{statement}
use Rattle.formula_weights.proofs.alone.Tie as tie

returns : tie.Need-returns-then-row
unfolding alone_weight
returns c =
    simp (c.if-row.true, c.atom_weight.ensures)

returns_2 : tie.Need-returns
unfolding alone_weight
returns_2 c = simp c.if-row.false

pub alone_spec : {M : Type 1} → statement M
alone_spec = tie.close (tie.spec (λ c κs. search rules) returns returns_2)

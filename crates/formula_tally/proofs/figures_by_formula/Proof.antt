-- `figures_by_formula` meets its contract.
use Rattle.formula_tally.proofs.ByFormula.{by_formula}
use Rattle.formula_tally.proofs.figures_by_formula.Statement.{statement}
use Rattle.formula_tally.proofs.figures_by_formula.Tie as tie

pub figures_by_formula_spec : {M : Type 1} → statement M
figures_by_formula_spec = tie.close (tie.spec (λ c. by_formula))

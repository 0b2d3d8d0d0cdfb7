-- `reversed_row` meets its contract.
use mathlib.Core.Path.{refl, ap₂}
use mathlib.Core.Bool.{◌||◌}
use borrow.Author.Rules.{rules}
use Rattle.logic.specs.Interval.{reversed}
use Rattle.formula_parts.proofs.PartsOfRows.{row_tested}
use Rattle.formula_parts.proofs.reversed_row.Statement.{statement}
use Rattle.formula_parts.proofs.reversed_row.Tie as tie

returns : tie.Need-returns
unfolding reversed
returns c = row_tested reversed refl _ (ap₂ ◌||◌ c.before.reversed.ensures c.reversed-2.ensures)

pub reversed_row_spec : {M : Type 1} → statement M
reversed_row_spec = tie.close (tie.spec (λ c κs. search rules) (λ c κs. search rules) returns)

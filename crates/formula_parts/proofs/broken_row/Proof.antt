-- `broken_row` meets its contract.
use mathlib.Core.Path.{refl, ap₂}
use mathlib.Core.Bool.{◌||◌}
use borrow.Author.Rules.{rules}
use Rattle.logic.specs.Interval.{broken}
use Rattle.formula_parts.proofs.PartsOfRows.{row_tested}
use Rattle.formula_parts.proofs.broken_row.Statement.{statement}
use Rattle.formula_parts.proofs.broken_row.Tie as tie

returns : tie.Need-returns
unfolding broken
returns c = row_tested broken refl _ (ap₂ ◌||◌ c.before.broken.ensures c.broken-2.ensures)

pub broken_row_spec : {M : Type 1} → statement M
broken_row_spec = tie.close (tie.spec (λ c κs. search rules) (λ c κs. search rules) returns)

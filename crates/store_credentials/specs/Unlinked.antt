-- What stands before the rows are chained anew: no row is in a chain, all else is as it was.
use Rattle.std.specs.Prelude.{◌≡◌, List, ℕ, ◌<◌, ◌≤◌, length, get_or}
use Rattle.ledger.specs.Checks.{max_formulas}
use Rattle.store_cells.specs.Layout.{cells, link_base, formula_link, link_at}

-- for the formulas below i
pub record UnlinkedTo (l m : List ℕ) (i : ℕ) : Type 0 where
  pub long : length m ≡ cells
  pub rest : (k : ℕ) → k < link_base → get_or m k 0 ≡ get_or l k 0
  pub none : (n : ℕ) → n < i → link_at m (formula_link n) ≡ 0
  pub others : (n : ℕ) → i ≤ n → link_at m (formula_link n) ≡ link_at l (formula_link n)

abbrev pub Unlinked : List ℕ → List ℕ → Type 0
Unlinked l m = UnlinkedTo l m max_formulas

-- Document 02, ask 9: "The panel asks for every session after each booking." So that a tally goes through the rows of
-- one wording alone, the credential rows of each formula are chained (store_cells/specs/Layout). What the links are:
use Rattle.std.specs.Prelude.{◌≡◌, List, ℕ, zero, suc, ◌<◌, eqb}
use Rattle.logic.specs.Choice.{pick}
use Rattle.ledger.specs.Checks.{max_formulas}
use Rattle.store_cells.specs.Layout.{row_link, formula_link, link_at, of_at}

-- of the first k rows, where f gives the formula of a row, the last one of formula n: its number and one; 0 for none
unfoldable pub last_of : (ℕ → ℕ) → ℕ → ℕ → ℕ
last_of f n zero = 0
last_of f n (suc k) = pick (eqb (f k) n) (suc k) (last_of f n k)

-- the links of the first k rows, gaps too: a formula's leads to its last row, a row's to the last one before it that is
-- of the same formula
pub record Chained (l : List ℕ) (k : ℕ) : Type 0 where
  pub last : (n : ℕ) → n < max_formulas → link_at l (formula_link n) ≡ last_of (of_at l) n k
  pub before : (i : ℕ) → i < k → link_at l (row_link i) ≡ last_of (of_at l) (of_at l i) i

-- The ledger (document 01: the till) that a store's numbers stand for, and what holds of every store that the functions
-- leave.
use Rattle.std.specs.Prelude.{◌≡◌, List, Bool, ℕ, ◌≤◌, ◌<◌, length}
use Rattle.std.proofs.Math.Option.{some}
use Rattle.logic.specs.Formula.{Formula, size, plain, bit, unbound, quantified}
use Rattle.logic.specs.Counts.{balanced}
use Rattle.request.specs.Range.{serial}
use Rattle.steps.specs.declared.Row.{Row}
use Rattle.ledger.specs.Table.{form, names, row_of}
unfoldable pub use Rattle.ledger.specs.Rows.{line_of}
use Rattle.ledger.specs.Ledger.{Ledger, formula}
use Rattle.ledger.specs.Checks.{max_size, max_formulas, max_live}
use Rattle.ledger.specs.Bounds.{There, Bounded}
use Rattle.store.specs.Tab.{tab, present}
use Rattle.store.specs.Chain.{Chained}
use Rattle.store.specs.Groups.{Grouped}
use Rattle.logic.specs.Span.{Spans}
use Rattle.logic.specs.Packed.{counts}
use Rattle.store_cells.specs.declared.lines.Facts.{Facts}
use Rattle.store_cells.specs.Layout.{cells, max_rows, line_count, live_count, next_serial, row_count, row_at, size_at}
use Rattle.store_cells.specs.Layout.{plain_at}
use Rattle.store_cells.specs.Layout.{balanced_at, unbound_at, quantified_at, low_at, high_at, gives_at, credential_at}
use Rattle.store_cells.specs.Layout.{entry_at}

unfoldable pub ledger_of : List ℕ → Ledger
ledger_of l = record {
  lines = tab (line_count l) (λ i. line_of (row_at l i));
  live = present (tab (row_count l) (entry_at l));
  next = next_serial l;
}

-- the row of a line, no other numbers in it; a clause, and no invariant of `Row`, for rows are read from numbers that C
-- lends, of which `Good` alone says it
abbrev pub Canonical : Row → Type 0
Canonical r = row_of (line_of r) ≡ r

-- The credential rows in use, gaps too: serials rise from row to row and are below the next, and each row is of a
-- formula of the ledger; the live ones are counted, and the rows of each formula are chained.
pub record RowsOrdered (l : List ℕ) : Type 0 where
  pub few : row_count l ≤ max_rows
  pub counted : live_count l ≡ length (ledger_of l).live
  pub between : (i j : ℕ) → i < j → j < row_count l → (credential_at l i).serial < (credential_at l j).serial
  pub below : (i : ℕ) → i < row_count l → (credential_at l i).serial < next_serial l
  pub named : (i : ℕ) → i < row_count l → (credential_at l i).formula < line_count l
  pub chained : Chained l (row_count l)

-- A store that calls made: what is kept beside the lines is right, and the ledger has what every ledger that calls gave
-- has (`bounded`): lines name earlier lines, serials rise and are below the next, sizes are at most 64. It stays a
-- clause of contracts. As a ghost field of a struct it is refused, since nothing proves that it has but one proof; as
-- the invariant of a model it is known only where a field is opened, so that each function would have to ensure it;
-- both were tried. And of the array that C lends no such struct is made without a copy.
pub record Good (l : List ℕ) : Type 0 where
  pub long : length l ≡ cells
  pub lines : line_count l ≤ max_formulas
  pub ordered : RowsOrdered l
  pub canonical : (i : ℕ) → i < line_count l → Canonical (row_at l i)
  pub sizes : (i : ℕ) → i < line_count l → size_at l i ≡ size (formula (ledger_of l) i)
  pub plains : (i : ℕ) → i < line_count l → plain_at l i ≡ bit (plain (formula (ledger_of l) i))
  pub balances : (i : ℕ) → i < line_count l → balanced_at l i ≡ bit (balanced (formula (ledger_of l) i))
  pub unbounds : (i : ℕ) → i < line_count l → unbound_at l i ≡ bit (unbound (formula (ledger_of l) i))
  pub quantifieds : (i : ℕ) → i < line_count l → quantified_at l i ≡ bit (quantified (formula (ledger_of l) i))
  pub spans : (i : ℕ) → i < line_count l → Spans (formula (ledger_of l) i) (low_at l i) (high_at l i)
  pub givens : (i : ℕ) → i < line_count l → gives_at l i ≡ counts (low_at l i) (formula (ledger_of l) i)
  pub grouped : Grouped l
  pub bounded : Bounded (ledger_of l)

-- what a function that changes the store leaves: a good store that stands for the ledger t
pub record StandsFor (l : List ℕ) (t : Ledger) : Type 0 where
  pub good : Good l
  pub ledger : ledger_of l ≡ t

-- what is kept of a formula: its size, whether it is plain, balanced, has an unbound holder and has a `q`, two numbers
-- between which its sessions are, and what it gives of the lower one
pub record FactsOf (a : Formula) (v : Facts) : Type 0 where
  pub sized : v.size ≡ size a
  pub plain_kept : v.plain ≡ plain a
  pub balancedly : v.balanced ≡ balanced a
  pub unbound_kept : v.unbound ≡ unbound a
  pub quantified_kept : v.quantified ≡ quantified a
  pub spanned : Spans a v.low v.high
  pub given : v.gives ≡ counts v.low a

-- what the checks of a formula line have found before its row is added, with what is to be kept of its formula
pub record Wordable (l : List ℕ) (r : Row) (v : Facts) : Type 0 where
  pub good : Good l
  pub room : length (ledger_of l).lines < max_formulas
  pub canonical : Canonical r
  pub there : There (ledger_of l) (names (line_of r))
  pub facts : FactsOf (form (formula (ledger_of l)) (line_of r)) v
  pub small : v.size ≤ max_size

-- what the checks of an issue or a booking have found before a credential of formula n is given
pub record Givable (l : List ℕ) (n : ℕ) : Type 0 where
  pub good : Good l
  pub room : length (ledger_of l).live < max_live
  pub unused : (ledger_of l).next ≤ serial.last
  pub there : n < length (ledger_of l).lines

-- a live credential stands in row i
abbrev pub Occupied : List ℕ → ℕ → Type 0
Occupied l i = (i < row_count l) × (entry_at l i ≡ some (credential_at l i))

-- what moving the live credentials of l together leaves: the same ledger, and as many rows as are live
pub record Compacted (l m : List ℕ) : Type 0 where
  pub stands : StandsFor m (ledger_of l)
  pub rows : row_count m ≡ length (ledger_of l).live

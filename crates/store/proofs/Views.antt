-- What is read of a store is what its ledger has.
use mathlib.Core.Path.{◌≡◌, refl, sym, ap, ◌∙◌}
use mathlib.Core.List.{List}
use mathlib.Core.Bool.{Bool, true, false}
use Prim.Native.Nat.{ℕ, ◌<◌}
use native.Mathlib.Omega.{arith}
use native.Mathlib.Decide.{dec_lt}
use lib.Dec.{eqb}
use lib.ListN.{length}
use Rattle.logic.specs.Formula.{bit}
use Rattle.request.specs.Request.{Line}
use Rattle.ledger.specs.Table.{row_of}
use Rattle.ledger.specs.Ledger.{row}
use Rattle.store_cells.specs.Layout.{line_count, row_count, row_at, credential_at}
use Rattle.store.specs.Store.{line_of, ledger_of, Good}
use Rattle.store.proofs.Tabs.{length_tab, get_d_tab, get_d_past}
use Rattle.store.proofs.Search.{Only}
use Rattle.store_cells.proofs.CellWrites.{row_past}

-- what is kept of yes or no, read again
pub bit_one : (b : Bool) → eqb (bit b) 1 ≡ b
bit_one true = refl
bit_one false = refl

module _ (l : List ℕ) where
  pub lines_length : length (ledger_of l).lines ≡ line_count l
  unfolding ledger_of
  lines_length = length_tab (line_count l) (λ i. line_of (row_at l i))

  -- the rows of the ledger are those of the store, at every number
  pub row_is : Good l → (n : ℕ) → row (ledger_of l) n ≡ row_at l n
  unfolding ledger_of
  row_is g n = go (dec_lt n (line_count l))
    where
      go : Dec (n < line_count l) → row (ledger_of l) n ≡ row_at l n
      go (yes h) = ap row_of (get_d_tab (line_count l) (λ i. line_of (row_at l i)) n Line.one h) ∙ g.canonical n h
      go (no h) =
          ap row_of (get_d_past (line_count l) (λ i. line_of (row_at l i)) n Line.one (omega arith))
          ∙ sym (row_past l n (omega arith))

  pub rows_are : Good l → row (ledger_of l) ≡ row_at l
  rows_are g j n = row_is g n j

  module _ (g : Good l) (s : ℕ) where
    -- no other row has the serial of row i
    pub only_here : (i : ℕ) → i < row_count l → (credential_at l i).serial ≡ s
        → Only (credential_at l) s (row_count l) i
    only_here i q e = record { here = e; apart = λ k p n z. apart k p n z (dec_lt k i) }
      where
        apart : (k : ℕ) → k < row_count l → (k ≡ i → ⊥) → (credential_at l k).serial ≡ s → Dec (k < i) → ⊥
        apart k p n z (yes y) = omega (arith, g.ordered.between k i y q)
        apart k p n z (no y) = omega (arith, g.ordered.between i k (omega arith) p)

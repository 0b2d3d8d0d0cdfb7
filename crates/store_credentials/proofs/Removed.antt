-- What a credential that leaves does to the ledger that a store stands for. Of the array only the laws of rows in
-- store_cells/proofs are used.
use mathlib.Core.Path.{◌≡◌, refl, ap, ◌∙◌}
use mathlib.Core.List.{List}
use mathlib.Core.Option.{some}
use Prim.Native.Nat.{ℕ, suc, ◌-◌, ◌≤◌}
use native.Mathlib.Omega.{arith}
use lib.ListN.{length}
use Rattle.logic.proofs.Multisets.{ins_length}
use Rattle.ledger.specs.declared.Credential.{Credential}
use Rattle.ledger.specs.Ledger.{find, without_serial}
use Rattle.ledger.specs.Calls.{with_live}
use Rattle.ledger.proofs.Bounds.{without_bounded}
use Rattle.ledger.proofs.Credentials.{take_out}
use Rattle.store.specs.Tab.{tab, present}
use Rattle.store_cells.specs.Layout.{live_count, next_serial, row_count, credential_at, gap_at, entry_at}
use Rattle.store_cells.specs.Layout.{put_live_count}
use Rattle.store_cells.specs.Layout.{put_gap}
use Rattle.store.specs.Store.{ledger_of, RowsOrdered, Good, StandsFor, Occupied}
use Rattle.store_credentials.proofs.RowSerials.{without_row}
use Rattle.store_cells.proofs.CellWrites.{SameLines, lines_self, head_lines, head_same, Stays, stays_entry}
use Rattle.store_cells.proofs.CellWrites.{stays_serial, stays_credential, head_other, head_stays, head_links}
use Rattle.store_cells.proofs.CredentialRows.{entry_gap, gap_here, gap_stays, gap_serial, gap_of, gap_before, gap_lines}
use Rattle.store_cells.proofs.CredentialRows.{gap_links}
use Rattle.store.proofs.Chains.{chain_same}
use Rattle.store.proofs.Search.{find_row}
use Rattle.store.proofs.Views.{only_here}
use Rattle.store_credentials.proofs.Stands.{stands_live, ledger_live}

-- the credential that stands in a row is found by its serial
occupied_found : (l : List ℕ) → Good l → (i : ℕ) → Occupied l i
    → find (ledger_of l).live (credential_at l i).serial ≡ some (credential_at l i)
unfolding ledger_of entry_at
occupied_found l g i o =
    find_row _ (row_count l) (credential_at l) (gap_at l) i o.0 (only_here l g _ i o.0 refl) ∙ o.1

-- The store after the credential of a row has left.
module _ (l : List ℕ) (at : ℕ) (g : Good l) (o : Occupied l at) where
  abbrev marked : List ℕ
  marked = put_gap l at

  abbrev left : List ℕ
  left = put_live_count marked (live_count l - 1)

  abbrev s : ℕ
  s = (credential_at l at).serial

  there : find (ledger_of l).live s ≡ some (credential_at l at)
  there = occupied_found l g at o

  fewer : length (ledger_of l).live ≡ suc (length (without_serial (ledger_of l).live s))
  fewer = ins_length (take_out (ledger_of l).live s there).1

  -- so there is one to count less
  pub some_live : 1 ≤ live_count l
  some_live = omega (arith, g.ordered.counted, fewer)

  marked_lines : SameLines l marked
  marked_lines = gap_lines l at l (lines_self l g.long)

  left_lines : SameLines l left
  left_lines = head_lines l marked 1 (live_count l - 1) (omega arith) (omega arith) marked_lines

  left_stays : (i : ℕ) → Stays marked left i
  left_stays i f q = head_stays marked 1 _ i (omega arith) f q

  left_used : row_count left ≡ row_count l
  left_used = head_other marked 1 _ 3 (omega arith) ∙ gap_before l at 3 (omega arith)

  left_next : next_serial left ≡ next_serial l
  left_next = head_other marked 1 _ 2 (omega arith) ∙ gap_before l at 2 (omega arith)

  left_serial : (i : ℕ) → (credential_at left i).serial ≡ (credential_at l i).serial
  left_serial i = stays_serial marked left i (left_stays i) ∙ gap_serial l at i

  left_of_holds : (i : ℕ) → (credential_at left i).formula ≡ (credential_at l i).formula
  left_of_holds i =
      ap (λ (c : Credential). c.formula) (stays_credential marked left i (left_stays i)) ∙ gap_of l at i

  left_live : present (tab (row_count left) (entry_at left)) ≡ without_serial (ledger_of l).live s
  unfolding ledger_of entry_at
  left_live =
      rw left_used (without_row s (row_count l) (credential_at l) (gap_at l) (entry_at left) at o.0
      (only_here l g s at o.0 refl) o.1
      (stays_entry marked left at (left_stays at)
      ∙ entry_gap marked at (gap_here l at g.long (omega (arith, o.0, g.ordered.few))))
      (λ k n. stays_entry marked left k (left_stays k) ∙ stays_entry l marked k (gap_stays l at k n)))

  left_ledger : ledger_of left ≡ with_live (ledger_of l) (without_serial (ledger_of l).live s)
  unfolding ledger_of
  left_ledger = ledger_live l left g left_lines _ _ left_live left_next

  left_ordered : RowsOrdered left
  left_ordered = record {
    few = omega (arith, left_used, g.ordered.few);
    counted = rw left_ledger (omega (
      arith,
      head_same marked 1 (live_count l - 1) marked_lines.long (omega arith),
      g.ordered.counted,
      fewer,
    ));
    between = λ i j p q. omega (
      arith,
      left_serial i,
      left_serial j,
      g.ordered.between i j p (omega (arith, left_used)),
    );
    below = λ i q. omega (arith, left_serial i, left_next, g.ordered.below i (omega (arith, left_used)));
    named = λ i q. omega (arith, left_of_holds i, left_lines.count, g.ordered.named i (omega (arith, left_used)));
    chained = rw left_used (chain_same l left (row_count l) g.ordered.chained (λ i q. left_of_holds i)
        (λ k. head_links marked 1 _ k (omega arith) ∙ gap_links l at (omega (arith, o.0, g.ordered.few)) k));
  }

  left_stands : StandsFor left (with_live (ledger_of l) (without_serial (ledger_of l).live s))
  left_stands =
      stands_live l left g left_lines _ left_ordered left_ledger (without_bounded (ledger_of l) g.bounded _ there)

  -- by the stores that make it
  pub remove_done : {m₀ m₁ : List ℕ} {n : ℕ} → n ≡ live_count l → m₀ ≡ put_gap l at → m₁ ≡ put_live_count m₀ (n - 1)
      → StandsFor m₁ (with_live (ledger_of l) (without_serial (ledger_of l).live (credential_at l at).serial))
  remove_done a e₀ e₁ = rw (e₁, e₀, a) left_stands

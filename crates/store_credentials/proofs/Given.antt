-- What giving a credential does to the ledger that a store stands for. Of the array only the laws of rows in
-- store_cells/proofs are used.
use mathlib.Core.Path.{◌≡◌, ap, ◌∙◌}
use mathlib.Core.List.{List, [], ◌∷◌, ◌++◌}
use mathlib.Core.Option.{Option, some}
use Prim.Native.Nat.{ℕ, ◌+◌, ◌<◌}
use native.Mathlib.Omega.{arith}
use native.Mathlib.Decide.{dec_lt}
use lib.ListN.{length, length-append}
use Rattle.logic.specs.declared.Interval.{Interval}
use Rattle.request.specs.declared.Kind.{Kind}
use Rattle.ledger.specs.declared.Credential.{Credential}
use Rattle.ledger.specs.Ledger.{Ledger}
use Rattle.ledger.specs.Calls.{with_credential}
use Rattle.ledger.proofs.Bounds.{credential_bounded}
use Rattle.store.specs.Tab.{tab, present}
use Rattle.store_cells.specs.Layout.{max_rows, line_count, live_count, next_serial, row_count, credential_at, entry_at}
use Rattle.store_cells.specs.Layout.{put_row_count}
use Rattle.store_cells.specs.Layout.{put_live_count, put_next, put_credential, put_hint}
use Rattle.ledger.specs.Checks.{max_formulas}
use Rattle.store.specs.Chain.{Chained}
use Rattle.store.proofs.Chains.{chain_stays, chain_put}
use Rattle.store.specs.Store.{ledger_of, RowsOrdered, StandsFor, Givable}
use Rattle.store.proofs.Tabs.{tab_ext, present_next}
use Rattle.store_cells.proofs.CellWrites.{SameLines, lines_self, head_lines, head_same, Stays, stays_credential}
use Rattle.store_cells.proofs.CellWrites.{stays_entry}
use Rattle.store_cells.proofs.CellWrites.{stays_serial, head_other, head_stays, head_links}
use Rattle.store_cells.proofs.CredentialRows.{entry_there, credential_same, credential_there, credential_stays}
use Rattle.store_cells.proofs.CredentialRows.{credential_lines}
use Rattle.store.proofs.Views.{lines_length}
use Rattle.store_credentials.proofs.Stands.{stands_live, ledger_live, hint_stands}

-- another store of the same ledger has room for the credential too
pub still_givable : {l m : List ℕ} {n : ℕ} → Givable l n → StandsFor m (ledger_of l) → Givable m n
still_givable r s = record {
  good = s.good;
  room = rw s.ledger r.room;
  unused = rw s.ledger r.unused;
  there = rw s.ledger r.there;
}

-- The store after a credential is given.
abbrev given : List ℕ → Credential → List ℕ
given l c =
    put_next (put_live_count (put_row_count (put_credential l (row_count l) c) (row_count l + 1)) (live_count l + 1))
    (next_serial l + 1)

module _ (l : List ℕ) (k : Kind) (n : ℕ) (w : Interval) (r : Givable l n) (free : row_count l < max_rows) where
  abbrev fresh : Credential
  fresh = record { serial = next_serial l; kind = k; formula = n; interval = w }

  abbrev rowed : List ℕ
  rowed = put_credential l (row_count l) fresh

  abbrev used : List ℕ
  used = put_row_count rowed (row_count l + 1)

  abbrev counted : List ℕ
  counted = put_live_count used (live_count l + 1)

  abbrev m : List ℕ
  m = given l fresh

  rowed_lines : SameLines l rowed
  rowed_lines = credential_lines l (row_count l) fresh l (lines_self l r.good.long)

  used_lines : SameLines l used
  used_lines = head_lines l rowed 3 (row_count l + 1) (omega arith) (omega arith) rowed_lines

  counted_lines : SameLines l counted
  counted_lines = head_lines l used 1 (live_count l + 1) (omega arith) (omega arith) used_lines

  given_lines : SameLines l m
  given_lines = head_lines l counted 2 (next_serial l + 1) (omega arith) (omega arith) counted_lines

  given_used : row_count m ≡ row_count l + 1
  given_used =
      head_other counted 2 _ 3 (omega arith) ∙ head_other used 1 _ 3 (omega arith)
      ∙ head_same rowed 3 _ rowed_lines.long (omega arith)

  given_count : live_count m ≡ live_count l + 1
  given_count = head_other counted 2 _ 1 (omega arith) ∙ head_same used 1 _ used_lines.long (omega arith)

  given_next : next_serial m ≡ next_serial l + 1
  given_next = head_same counted 2 _ counted_lines.long (omega arith)

  given_stays : (i : ℕ) → Stays rowed m i
  given_stays i f q =
      head_stays counted 2 _ i (omega arith) f q ∙ head_stays used 1 _ i (omega arith) f q
      ∙ head_stays rowed 3 _ i (omega arith) f q

  old_stays : (i : ℕ) → i < row_count l → Stays l m i
  old_stays i h f q =
      given_stays i f q ∙ credential_stays l (row_count l) fresh i (omega arith) (omega arith) f q

  new_credential : credential_at m (row_count l) ≡ fresh
  new_credential =
      stays_credential rowed m (row_count l) (given_stays (row_count l))
      ∙ credential_same l (row_count l) fresh r.good.long free

  new_entry : entry_at m (row_count l) ≡ some fresh
  new_entry =
      stays_entry rowed m (row_count l) (given_stays (row_count l))
      ∙ entry_there rowed (row_count l) (credential_there l (row_count l) fresh r.good.long free)
      ∙ ap some (credential_same l (row_count l) fresh r.good.long free)

  given_live : present (tab (row_count m) (entry_at m)) ≡ (ledger_of l).live ++ (fresh ∷ [])
  unfolding ledger_of
  given_live =
      rw (given_used, present_next (row_count l) (entry_at m), new_entry)
      (ap (λ (xs : List (Option Credential)). present xs ++ (fresh ∷ []))
      (tab_ext (row_count l) (entry_at m) (entry_at l) (λ i q. stays_entry l m i (old_stays i q))))

  given_ledger : ledger_of m ≡ with_credential (ledger_of l) k n w
  unfolding ledger_of
  given_ledger = ledger_live l m r.good given_lines _ _ given_live given_next

  old_serial : (i : ℕ) → i < row_count l → (credential_at m i).serial ≡ (credential_at l i).serial
  old_serial i q = stays_serial l m i (old_stays i q)

  new_serial : (credential_at m (row_count l)).serial ≡ next_serial l
  new_serial = ap (λ (c : Credential). c.serial) new_credential

  given_below : (i : ℕ) → i < row_count m → Dec (i < row_count l) → (credential_at m i).serial < next_serial m
  given_below i q (yes h) = omega (arith, old_serial i h, r.good.ordered.below i h, given_next)
  given_below i q (no h) =
      let e : i ≡ row_count l = omega (arith, given_used) in
      rw e (omega (arith, new_serial, given_next))

  given_between : (i j : ℕ) → i < j → j < row_count m → Dec (j < row_count l)
      → (credential_at m i).serial < (credential_at m j).serial
  given_between i j p q (yes h) =
      omega (arith, old_serial i (omega arith), old_serial j h, r.good.ordered.between i j p h)
  given_between i j p q (no h) =
      let e : j ≡ row_count l = omega (arith, given_used) in
      let b : i < row_count l = omega arith in
      rw e (omega (arith, new_serial, old_serial i b, r.good.ordered.below i b))

  given_named : (i : ℕ) → i < row_count m → Dec (i < row_count l) → (credential_at m i).formula < line_count m
  given_named i q (yes h) =
      let e = ap (λ (c : Credential). c.formula) (stays_credential l m i (old_stays i h)) in
      omega (arith, e, r.good.ordered.named i h, given_lines.count)
  given_named i q (no h) =
      let e : i ≡ row_count l = omega (arith, given_used) in
      let d = ap (λ (c : Credential). c.formula) new_credential in
      rw e (omega (arith, d, r.there, lines_length l, given_lines.count))

  small : n < max_formulas
  small = omega (arith, r.there, lines_length l, r.good.lines)

  rowed_chained : Chained rowed (row_count l + 1)
  rowed_chained = chain_put l (row_count l) fresh r.good.long free small r.good.ordered.chained

  given_chained : Chained m (row_count l + 1)
  given_chained =
      chain_stays rowed m (row_count l + 1) rowed_chained (λ i q. given_stays i)
      (λ k. head_links counted 2 _ k (omega arith) ∙ head_links used 1 _ k (omega arith)
      ∙ head_links rowed 3 _ k (omega arith))

  given_length : length (ledger_of m).live ≡ length (ledger_of l).live + 1
  unfolding ledger_of
  given_length =
      ap (λ (t : Ledger). length t.live) given_ledger ∙ length-append (ledger_of l).live (fresh ∷ [])

  given_ordered : RowsOrdered m
  given_ordered = record {
    few = omega (arith, given_used);
    counted = omega (arith, given_count, r.good.ordered.counted, given_length);
    between = λ i j p q. given_between i j p q (dec_lt j (row_count l));
    below = λ i q. given_below i q (dec_lt i (row_count l));
    named = λ i q. given_named i q (dec_lt i (row_count l));
    chained = rw given_used given_chained;
  }

  give_stands : StandsFor m (with_credential (ledger_of l) k n w)
  give_stands =
      stands_live l m r.good given_lines _ given_ordered given_ledger
      (credential_bounded (ledger_of l) r.good.bounded k n w r.room r.unused)

  -- by the stores that make it
  pub give_done : {m₀ m₁ m₂ m₃ m₄ : List ℕ} {i c s : ℕ} → i ≡ row_count l → c ≡ live_count l → s ≡ next_serial l
      → m₀ ≡ put_credential l i (record { serial = s; kind = k; formula = n; interval = w })
      → m₁ ≡ put_row_count m₀ (i + 1) → m₂ ≡ put_live_count m₁ (c + 1) → m₃ ≡ put_next m₂ (s + 1)
      → m₄ ≡ put_hint m₃ s i → StandsFor m₄ (with_credential (ledger_of l) k n w)
  give_done a b d e₀ e₁ e₂ e₃ e₄ =
      rw (e₄, e₃, e₂, e₁, e₀, a, b, d) (hint_stands m (next_serial l) (row_count l) give_stands)

-- The look-up's answer: what a row that has the serial, or no row, makes of it, and what a caller has of it.
use mathlib.Core.Path.{◌≡◌, refl, sym, ap, subst, ◌∙◌}
use mathlib.Core.List.{List}
use mathlib.Core.Option.{none, some}
use mathlib.Core.Bool.{true, false}
use Prim.Native.Nat.{ℕ, ◌<◌}
use native.Mathlib.Omega.{arith}
use native.Mathlib.Decide.{dec_lt}
use Rattle.ledger.specs.Ledger.{find, is_none}
use Rattle.ledger.specs.Checks.{dead}
use Rattle.ledger.proofs.Answers.{some_none}
use Rattle.ledger.proofs.Firsts.{if_true, if_false, if_some, none_there}
use Rattle.store_cells.specs.Layout.{row_count, credential_at, gap_at, entry_at}
use Rattle.store_cells.proofs.CredentialRows.{entry_there, entry_gap}
use Rattle.store.specs.Store.{ledger_of, Good, Occupied}
use Rattle.store.proofs.Search.{find_none, find_row}
use Rattle.store.proofs.Views.{only_here}
use Rattle.std.specs.Prelude.{Option as Place, Some, None}
use Rattle.store_lookup.specs.Lookup.{LooksUp}

not_nothing : {i : ℕ} → Some i ≡ None → ⊥
not_nothing e = let z : ◌≡◌ {A = ℕ} 0 1 = cc in omega arith

module _ {l : List ℕ} (g : Good l) {n : ℕ} where
  -- a row that has the serial: what is found is what stands there
  row_found : (i : ℕ) → i < row_count l → (credential_at l i).serial ≡ n → find (ledger_of l).live n ≡ entry_at l i
  unfolding ledger_of entry_at
  row_found i q e = find_row n (row_count l) (credential_at l) (gap_at l) i q (only_here l g n i q e)

  -- rows of one serial are one
  same_row_holds : (i k : ℕ) → i < row_count l → (credential_at l i).serial ≡ n → k < row_count l
      → (credential_at l k).serial ≡ n
      → i ≡ k
  same_row_holds i k p e q f = go (dec_lt i k) (dec_lt k i)
    where
      go : Dec (i < k) → Dec (k < i) → i ≡ k
      go (yes y) d = absurd (omega (arith, g.ordered.between i k y q))
      go (no x) (yes y) = absurd (omega (arith, g.ordered.between k i y p))
      go (no x) (no y) = omega arith

  -- no row has the serial
  pub nowhere : ((k : ℕ) → k < row_count l → (credential_at l k).serial ≡ n → ⊥) → LooksUp l n None
  unfolding ledger_of entry_at
  nowhere h = record {
    check = sym (if_true 24 _ (ap is_none (find_none n (row_count l) (credential_at l) (gap_at l) h)));
    place = λ k. (λ e. absurd (not_nothing (sym e)), λ p. absurd (h k p.0.0 p.1));
  }

  -- row i has it
  module _ {i : ℕ} (q : i < row_count l) (e : (credential_at l i).serial ≡ n) where
    pub has_left : gap_at l i ≡ true → LooksUp l n None
    has_left z = record {
      check = sym (if_true 24 _ (ap is_none (row_found i q e ∙ entry_gap l i z)));
      place = λ k. (
        λ y. absurd (not_nothing (sym y)),
        λ s. absurd (some_none (sym s.0.1 ∙ ap (entry_at l) (sym (same_row_holds i k q e s.0.0 s.1))
            ∙ entry_gap l i z)),
      );
    }

    pub stands : gap_at l i ≡ false → LooksUp l n (Some i)
    stands z = record {
      check = sym (if_false 24 _ (ap is_none (row_found i q e ∙ entry_there l i z)));
      place = λ k. (
        λ y. let w : i ≡ k = cc in
            subst (λ (j : ℕ). Occupied l j × ((credential_at l j).serial ≡ n)) w ((q, entry_there l i z), e),
        λ s. ap Some (same_row_holds i k q e s.0.0 s.1),
      );
    }

  -- What a caller has of an answer

  pub is_dead : LooksUp l n None → dead (ledger_of l) n ≡ true
  is_dead h = if_some 24 _ (sym h.check)

  pub none_found : LooksUp l n None → find (ledger_of l).live n ≡ none
  none_found h = none_there (find (ledger_of l).live n) (is_dead h)

  module _ {i : ℕ} (h : LooksUp l n (Some i)) where
    pub occupied : Occupied l i
    occupied = ((h.place i).0 refl).0

    pub its_serial : (credential_at l i).serial ≡ n
    its_serial = ((h.place i).0 refl).1

    pub one_found : find (ledger_of l).live n ≡ some (credential_at l i)
    one_found = row_found i occupied.0 its_serial ∙ occupied.1

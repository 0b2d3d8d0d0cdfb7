-- What a search through the formula rows has found.
use mathlib.Core.Path.{◌≡◌, refl, ap, ◌∙◌}
use mathlib.Core.List.{List}
use mathlib.Core.Bool.{Bool, true, false, ◌&&◌, ◌||◌}
use lib.Dec.{eqb}
use Rattle.logic.specs.Interval.{same_interval}
use Prim.Native.Nat.{ℕ, zero, suc, ◌<◌}
use native.Mathlib.Omega.{arith}
use native.Mathlib.Nat.{le_of_suc-le-suc, not-suc-le-zero}
use Rattle.ledger.specs.Checks.{any_of, same_row}
use Rattle.store.specs.Tab.{tab}
use Rattle.steps.specs.declared.Row.{Row}
use Rattle.ledger.specs.Table.{row_of}
use Rattle.store_cells.specs.Layout.{line_count, row_at}
use Rattle.store.specs.Store.{ledger_of, Good}

-- the letter is tried after the numbers
letter_last : (l a b h f : Bool) → (l && (a && (b && (h && f)))) ≡ (a && ((b && (h && l)) && f))
letter_last true true true true f = refl
letter_last true true true false f = refl
letter_last true true false h f = refl
letter_last true false b h f = refl
letter_last false true true true f = refl
letter_last false true true false f = refl
letter_last false true false h f = refl
letter_last false false b h f = refl

pub in_turn : (x y : Row) → same_row x y ≡ (eqb x.a y.a && ((eqb x.b y.b && (eqb x.holder y.holder
    && eqb x.letter y.letter)) && (same_interval x.first y.first && same_interval x.second y.second)))
unfolding same_row
in_turn x y = letter_last (eqb x.letter y.letter) (eqb x.a y.a) (eqb x.b y.b) (eqb x.holder y.holder)
    (same_interval x.first y.first && same_interval x.second y.second)

-- a test of every one of f 0, f 1, .. and of one of them
module _ {A : Type 0} (p : A → Bool) where
  any_none : (n : ℕ) (f : ℕ → A) → ((k : ℕ) → k < n → p (f k) ≡ false) → any_of p (tab n f) ≡ false
  unfolding tab any_of
  any_none zero f h = refl
  any_none (suc n) f h =
      rw (h zero (omega arith)) (any_none n (λ k. f (suc k)) (λ k q. h (suc k) (omega arith)))

  any_at : (n : ℕ) (f : ℕ → A) (i : ℕ) → i < n → p (f i) ≡ true → any_of p (tab n f) ≡ true
  unfolding tab any_of
  any_at zero f i q e = absurd (not-suc-le-zero q)
  any_at (suc n) f zero q e = rw e
  any_at (suc n) f (suc i) q e = go (p (f zero)) (any_at n (λ k. f (suc k)) i (le_of_suc-le-suc q) e)
    where
      go : (b : Bool) → any_of p (tab n (λ k. f (suc k))) ≡ true → (b || any_of p (tab n (λ k. f (suc k)))) ≡ true
      go true h = refl
      go false h = h

-- a test of every row of a store, and of one of them, said of its lines
module _ (l : List ℕ) (g : Good l) (t : Row → Bool) where
  pub has_at : (i : ℕ) → i < line_count l → t (row_at l i) ≡ true → any_of (λ x. t (row_of x)) (ledger_of l).lines
      ≡ true
  unfolding ledger_of
  has_at i q e = any_at (λ x. t (row_of x)) (line_count l) _ i q (ap t (g.canonical i q) ∙ e)

  pub has_none : ((i : ℕ) → i < line_count l → t (row_at l i) ≡ false)
      → any_of (λ x. t (row_of x)) (ledger_of l).lines ≡ false
  unfolding ledger_of
  has_none h = any_none (λ x. t (row_of x)) (line_count l) _ (λ i q. ap t (g.canonical i q) ∙ h i q)

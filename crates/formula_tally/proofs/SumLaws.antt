-- Laws of f 0 + .. + f (n - 1).
use mathlib.Core.Path.{◌≡◌, refl, sym, ap, ap₂, ◌∙◌}
use Prim.Native.Nat.{ℕ, zero, suc, ◌+◌, ◌*◌, ◌-◌, ◌≤◌, ◌<◌}
use native.Mathlib.Omega.{arith}
use native.Mathlib.Numerals.{add-one}
use native.Mathlib.Nat.{add-zero, add-suc}
use Rattle.formula_tally.specs.ByFormula.{sum_to}

pub to_same : (n : ℕ) (f g : ℕ → ℕ) → ((k : ℕ) → k < n → f k ≡ g k) → sum_to n f ≡ sum_to n g
unfolding sum_to
to_same zero f g e = refl
to_same (suc n) f g e = ap₂ ◌+◌ (to_same n f g (λ k h. e k (omega arith))) (e n (omega arith))

pub to_plus : (n : ℕ) (f g : ℕ → ℕ) → sum_to n (λ k. f k + g k) ≡ sum_to n f + sum_to n g
unfolding sum_to
to_plus zero f g = refl
to_plus (suc n) f g = omega (arith, to_plus n f g)

pub to_zero : (n : ℕ) (f : ℕ → ℕ) → ((k : ℕ) → k < n → f k ≡ 0) → sum_to n f ≡ 0
unfolding sum_to
to_zero zero f e = refl
to_zero (suc n) f e = omega (arith, to_zero n f (λ k h. e k (omega arith)), e n (omega arith))

pub to_le : (n m : ℕ) (f : ℕ → ℕ) → ((k : ℕ) → k < n → f k ≤ m) → sum_to n f ≤ n * m
unfolding sum_to
to_le zero m f h = omega arith
to_le (suc n) m f h = omega (arith, to_le n m f (λ k l. h k (omega arith)), h n (omega arith))

-- one more
pub to_next : (n : ℕ) (f : ℕ → ℕ) → sum_to (n + 1) f ≡ sum_to n f + f n
unfolding sum_to
to_next n f = ap (λ (k : ℕ). sum_to k f) (add-one n)

-- n more
pub to_append : (m n : ℕ) (f : ℕ → ℕ) → sum_to (m + n) f ≡ sum_to m f + sum_to n (λ j. f (m + j))
unfolding sum_to
to_append m zero f = ap (λ (k : ℕ). sum_to k f) (add-zero m) ∙ (omega arith)
to_append m (suc n) f = ap (λ (k : ℕ). sum_to k f) (add-suc m n) ∙ (omega (arith, to_append m n f))

-- the first and the rest
pub to_first : (n : ℕ) (f : ℕ → ℕ) → sum_to (suc n) f ≡ f 0 + sum_to n (λ k. f (suc k))
unfolding sum_to
to_first zero f = omega arith
to_first (suc n) f = omega (arith, to_first n f)

-- nothing after n
pub to_end : (n m : ℕ) (f : ℕ → ℕ) → n ≤ m → ((k : ℕ) → n ≤ k → k < m → f k ≡ 0) → sum_to m f ≡ sum_to n f
to_end n m f le h =
    let e : n + (m - n) ≡ m = omega arith in
    ap (λ (k : ℕ). sum_to k f) (sym e) ∙ to_append n (m - n) f
    ∙ (omega (arith, to_zero (m - n) (λ j. f (n + j)) (λ j l. h (n + j) (omega arith) (omega arith))))

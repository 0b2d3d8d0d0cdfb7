-- Laws of a table in a flat list, for every base and width: what each cell is after a row is put, here or elsewhere.
use mathlib.Core.Path.{◌≡◌, refl, sym, ap, ◌∙◌}
use mathlib.Core.List.{List, [], ◌∷◌}
use Prim.Native.Nat.{ℕ, suc, ◌+◌, ◌*◌, ◌<◌, ◌≤◌}
use native.Mathlib.Omega.{arith}
use native.Mathlib.Nat.{add-suc, mul-le-mul_right, suc-mul}
use native.Mathlib.Numerals.{add-one}
use native.Mathlib.Decide.{dec_lt}
use lib.ListN.{length, get_or, set}
use lib.Seq.{sets, length-sets}
use Rattle.logic.specs.declared.Interval.{Interval}
use Rattle.intervals.specs.Numbers.{interval_cells, put_interval}
use Rattle.store_cells.specs.Layout.{cell, put_row}
use Rattle.logic.proofs.Stores.{sets_below, sets_above, sets_in}

-- numbers put one by one, each by its place in a row that starts at b, from the k-th on
abbrev pub stores : List ℕ → ℕ → ℕ → List ℕ → List ℕ
stores l b k [] = l
stores l b k (v ∷ vs) = stores (set l (b + k) v) b (suc k) vs

stores_sets : (l : List ℕ) (b k : ℕ) (vs : List ℕ) → stores l b k vs ≡ sets l (b + k) vs
stores_sets l b k [] = refl
stores_sets l b k (v ∷ vs) =
    stores_sets (set l (b + k) v) b (suc k) vs ∙ ap (λ (n : ℕ). sets (set l (b + k) v) n vs) (add-suc b k)

pub row_stored : (l : List ℕ) (b v : ℕ) (vs : List ℕ) → stores (set l b v) b 1 vs ≡ sets l b (v ∷ vs)
row_stored l b v vs = stores_sets (set l b v) b 1 vs ∙ ap (λ (n : ℕ). sets (set l b v) n vs) (add-one b)

-- an interval, by the places of its numbers in such a row
pub interval_stored : (l : List ℕ) (v : Interval) {m : List ℕ} (b k : ℕ) → m ≡ put_interval l (b + k) v
    → m ≡ stores l b k (interval_cells v)
interval_stored l v b k e = e ∙ sym (stores_sets l b k (interval_cells v))

-- rows do not overlap
row_gap : (w i k : ℕ) → k < i → k * w + w ≤ i * w
row_gap w i k h = let e = suc-mul k w in let m = mul-le-mul_right w h in omega arith

module _ (l : List ℕ) (b w i : ℕ) (vs : List ℕ) where
  pub length_put_row : length (put_row l b w i vs) ≡ length l
  unfolding put_row
  length_put_row = length-sets l _ vs

  pub row_same : (f : ℕ) → b + i * w + length vs ≤ length l → f < length vs
      → cell (put_row l b w i vs) b w i f ≡ get_or vs f 0
  unfolding put_row cell
  row_same f p h = sets_in 0 vs l (b + i * w) f p h

  pub put_below : (k : ℕ) → k < b → get_or (put_row l b w i vs) k 0 ≡ get_or l k 0
  unfolding put_row
  put_below k h = sets_below 0 vs l (b + i * w) k (omega arith)

  pub put_above : (k : ℕ) → b + i * w + length vs ≤ k → get_or (put_row l b w i vs) k 0 ≡ get_or l k 0
  unfolding put_row
  put_above k h = sets_above 0 vs l (b + i * w) k h

  pub row_other : length vs ≤ w → (k f : ℕ) → (k ≡ i → ⊥) → f < w → cell (put_row l b w i vs) b w k f ≡ cell l b w k f
  unfolding put_row cell
  row_other n k f h q = go (dec_lt k i)
    where
      go : Dec (k < i) → get_or (sets l (b + i * w) vs) (b + k * w + f) 0 ≡ get_or l (b + k * w + f) 0
      go (yes p) = sets_below 0 vs l (b + i * w) (b + k * w + f) (omega (arith, row_gap w i k p))
      go (no p) = sets_above 0 vs l (b + i * w) (b + k * w + f) (omega (arith, row_gap w k i (omega arith)))

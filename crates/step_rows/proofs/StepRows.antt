-- Step rows: what is put is read there, and nowhere else.
use mathlib.Core.Path.{◌≡◌, refl, sym, ap, ap₂, ◌∙◌}
use mathlib.Core.Logic.{◌⊎◌, inl, inr}
use mathlib.Core.List.{List, [], ◌∷◌, ◌++◌}
use Prim.Native.Nat.{ℕ, zero, suc, ◌+◌, ◌*◌, ◌<◌, ◌≤◌}
use native.Mathlib.Omega.{arith}
use native.Mathlib.Numerals.{add-one}
use native.Mathlib.Decide.{dec_lt}
use lib.ListN.{length, get_or}
use lib.Seq.{sets, length-sets}
use Rattle.request.specs.Request.{Step}
use Rattle.step_rows.specs.declared.StepRow.{StepRow}
use Rattle.step_rows.specs.StepRows.{step_width, step_place, step_row_at, put_step_row, step_of, step_at, steps_from}
use Rattle.logic.proofs.Stores.{sets_outside, sets_in}

abbrev cells : StepRow → List ℕ
cells r = let i = r.interval in r.op ∷ r.label ∷ r.high ∷ r.low ∷ i.from ∷ i.to ∷ i.first ∷ i.last ∷ []

pub length_put : (l : List ℕ) (k : ℕ) (r : StepRow) → length (put_step_row l k r) ≡ length l
unfolding put_step_row
length_put l k r = length-sets l (step_place k) (cells r)

row_put : (l : List ℕ) (k : ℕ) (r : StepRow) → step_place k + step_width ≤ length l
    → step_row_at (put_step_row l k r) k ≡ r
unfolding step_row_at put_step_row
row_put l k r h =
    let at : (f : ℕ) → f < step_width → get_or (sets l (step_place k) (cells r)) (step_place k + f) 0
    ≡ get_or (cells r) f 0 =
    λ f m. sets_in 0 (cells r) l (step_place k) f h m in
    let first : step_place k ≡ step_place k + 0 = omega arith in
    λ i. record {
      op = (ap (λ (n : ℕ). get_or (sets l (step_place k) (cells r)) n 0) first ∙ at 0 (omega arith)) i;
      label = at 1 (omega arith) i;
      high = at 2 (omega arith) i;
      low = at 3 (omega arith) i;
      interval = record {
        from = at 4 (omega arith) i;
        to = at 5 (omega arith) i;
        first = at 6 (omega arith) i;
        last = at 7 (omega arith) i;
      };
    }

row_kept : (l : List ℕ) (k j : ℕ) (r : StepRow) → (j ≡ k → ⊥) → step_row_at (put_step_row l k r) j ≡ step_row_at l j
unfolding step_row_at put_step_row
row_kept l k j r d =
    let kept : (f : ℕ) → f < step_width
    → get_or (sets l (step_place k) (cells r)) (step_place j + f) 0 ≡ get_or l (step_place j + f) 0 =
    λ f m. sets_outside 0 (cells r) l (step_place k) (step_place j + f) (apart f m (dec_lt j k)) in
    let first : step_place j + 0 ≡ step_place j = omega arith in
    λ i. record {
      op = (rw first at (kept 0 (omega arith))) i;
      label = kept 1 (omega arith) i;
      high = kept 2 (omega arith) i;
      low = kept 3 (omega arith) i;
      interval = record {
        from = kept 4 (omega arith) i;
        to = kept 5 (omega arith) i;
        first = kept 6 (omega arith) i;
        last = kept 7 (omega arith) i;
      };
    }
  where
    apart : (f : ℕ) → f < step_width → Dec (j < k)
        → (step_place j + f < step_place k) ⊎ (step_place k + step_width ≤ step_place j + f)
    apart f m (yes y) = inl (omega arith)
    apart f m (no y) = inr (omega (arith, y, d))

pub length_from : (l : List ℕ) (k n : ℕ) → length (steps_from l k n) ≡ n
unfolding steps_from
length_from l k zero = refl
length_from l k (suc n) = ap suc (length_from l (suc k) n)

-- the steps before stay, and the step that is put comes last
from_kept : (l : List ℕ) (k : ℕ) (r : StepRow) (j n : ℕ) → j + n ≤ k
    → steps_from (put_step_row l k r) j n ≡ steps_from l j n
unfolding steps_from
from_kept l k r j zero h = refl
from_kept l k r j (suc n) h =
    ap₂ ◌∷◌ (ap step_of (row_kept l k j r (λ e. omega arith))) (from_kept l k r (suc j) n (omega arith))

from_more : (l : List ℕ) (j n : ℕ) → steps_from l j (suc n) ≡ steps_from l j n ++ (step_at l (j + n) ∷ [])
unfolding steps_from
from_more l j zero =
    let e : j ≡ j + 0 = omega arith in
    ap (λ (k : ℕ). step_at l k ∷ []) e
from_more l j (suc n) =
    let e : suc j + n ≡ j + suc n = omega arith in
    ap (step_at l j ∷◌) (from_more l (suc j) n ∙ ap (λ (k : ℕ). steps_from l (suc j) n ++ (step_at l k ∷ [])) e)

pub steps_next : (l : List ℕ) (k : ℕ) (r : StepRow) → step_place k + step_width ≤ length l
    → steps_from l 0 k ++ (step_of r ∷ []) ≡ steps_from (put_step_row l k r) 0 (k + 1)
steps_next l k r h =
    let z : 0 + k ≡ k = omega arith in
    sym (rw (add-one, from_more (put_step_row l k r) 0 k, from_kept l k r 0 k (omega arith), z, row_put l k r h) refl)

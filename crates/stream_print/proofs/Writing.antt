-- Text written piece after piece: digits, and numbers after a word.
use mathlib.Core.Path.{◌≡◌, refl, sym, ap, ◌∙◌}
use mathlib.Core.List.{List, [], ◌∷◌, ◌++◌, append_assoc, map}
use Prim.Native.Nat.{ℕ, ◌+◌, ◌^◌, ◌≤◌, ◌<◌}
use native.Mathlib.Numerals.{add-one}
use native.Mathlib.Omega.{arith}
use lib.ListN.{length, take, get_or, length-append}
use lib.Seq.{take-suc}
use Rattle.request.specs.Write.{digits, joined}
use Rattle.request.proofs.Digits.{digits_length}
use Rattle.stream_print.specs.Printed.{Wrote}

pub wrote_then : {o x o₁ y o₂ : List ℕ} {at i j : ℕ} → Wrote o at x o₁ i → Wrote o₁ i y o₂ j → Wrote o at (x ++ y) o₂ j
wrote_then {o} {x} {o₁} {y} {at = at} v w = record {
  long = w.long ∙ v.long;
  end = omega (arith, length-append x y, v.end, w.end);
  text = w.text ∙ ap (λ (z : List ℕ). z ++ y) v.text ∙ append_assoc (take at o) x y;
}

pub wrote_as : {o x y o₁ : List ℕ} {at i : ℕ} → x ≡ y → Wrote o at x o₁ i → Wrote o at y o₁ i
wrote_as {o} {o₁ = o₁} {at = at} {i = i} e w = rw e at w

pub digits_few : (n : ℕ) → n < 2 ^ 32 → length (digits n) ≤ 10
digits_few n h = digits_length n 9 (omega arith)

-- a word and numbers, each after a comma: a number more
pub joined_snoc : (w : List ℕ) (ns : List ℕ) (n : ℕ)
    → joined (w ∷ map digits (ns ++ (n ∷ []))) ≡ joined (w ∷ map digits ns) ++ (44 ∷ digits n)
unfolding joined
joined_snoc w [] n = refl
joined_snoc w (m ∷ ns) n =
    ap (λ (t : List ℕ). w ++ (44 ∷ t)) (joined_snoc (digits m) ns n)
    ∙ sym (append_assoc w (44 ∷ joined (digits m ∷ map digits ns)) (44 ∷ digits n))

pub wrote_number : {o : List ℕ} {at : ℕ} (w ns : List ℕ) (i : ℕ) {o₁ o₂ : List ℕ} {j k : ℕ} → i < length ns
    → Wrote o at (joined (w ∷ map digits (take i ns))) o₁ j → Wrote o₁ j (44 ∷ digits (get_or ns i 0)) o₂ k
    → Wrote o at (joined (w ∷ map digits (take (i + 1) ns))) o₂ k
wrote_number w ns i h v t =
    wrote_as (sym (ap (λ (z : List ℕ). joined (w ∷ map digits z)) (rw add-one (take-suc ns i 0 h))
    ∙ joined_snoc w (take i ns) (get_or ns i 0)))
    (wrote_then v t)

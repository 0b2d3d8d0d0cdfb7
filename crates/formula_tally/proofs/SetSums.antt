-- Sums over the bits of a set: one bit after another, the lowest first; and over sets that have a bit for each number.
use mathlib.Core.Path.{◌≡◌, refl, sym, ap, ap₂, ◌∙◌}
use mathlib.Core.List.{List}
use mathlib.Core.Bool.{Bool, true, false}
use Prim.Native.Nat.{ℕ, zero, suc, ◌+◌, ◌-◌, ◌*◌, ◌/◌, ◌%◌, ◌^◌, ◌≤◌, ◌<◌}
use native.Mathlib.Omega.{arith}
use native.Mathlib.Nat.{pow-suc, div-one}
use lib.Dec.{eqb}
use lib.Pow.{shr-shr}
use lib.Bits.{bit_and, and_step, and_self, and_shr}
use lib.Count.{count_trailing_zeros, under}
use borrow.Author.Tests.{eqb-true, eq-eqb}
use Rattle.logic.specs.Multiset.{sum}
use Rattle.logic.proofs.Multisets.{perm_sum}
use Rattle.ledger.specs.Calls.{only}
use Rattle.labels.specs.Labels.{member, remove, ◌∋◌, later, prepend, pick}
use Rattle.labels.proofs.Sets.{removed, member_below}
use Rattle.labels.proofs.Pick.{pick_empty, pick_remove}
use Rattle.formula_tally.specs.ByFormula.{sum_to}
use Rattle.store_cells.specs.Layout.{set_lines, set_width}
use Rattle.formula_tally.specs.Sets.{over_set, over_sets}
use Rattle.formula_tally.proofs.SumLaws.{to_same, to_le, to_first, to_append, to_end}

-- Bits

-- a bit above the lowest
half_bit : (d k : ℕ) → d / 2 ^ suc k % 2 ≡ d / 2 / 2 ^ k % 2
half_bit d k =
    let e : 1 + k ≡ suc k = omega arith in
    ap (◌% 2) (sym (shr-shr d 1 k ∙ ap (λ (x : ℕ). d / 2 ^ x) e))

-- the lowest bit that is set
lowest_odd : (n d : ℕ) → 0 < d → d < 2 ^ n → d / 2 ^ count_trailing_zeros n d % 2 ≡ 1
unfolding count_trailing_zeros
lowest_odd zero d h l = absurd (omega arith)
lowest_odd (suc n) d h l =
    go (d % 2) refl (λ e. lowest_odd n (d / 2) (omega arith) (omega (arith, pow-suc 2 n)))
  where
    go : (r : ℕ) → d % 2 ≡ r → (d % 2 ≡ 0 → d / 2 / 2 ^ count_trailing_zeros n (d / 2) % 2 ≡ 1)
        → d / 2 ^ under r (count_trailing_zeros n (d / 2)) % 2 ≡ 1
    go zero e ih = half_bit d (count_trailing_zeros n (d / 2)) ∙ ih e
    go (suc r) e ih = ap (◌% 2) (div-one d) ∙ (omega arith)

pub lowest_in : (n d : ℕ) → 0 < d → d < 2 ^ n → d ∋ count_trailing_zeros n d
lowest_in n d h l = eq-eqb _ _ (lowest_odd n d h l)

-- it is what d & (d - 1) has not
lowest_off : (n d : ℕ) → 0 < d → d < 2 ^ n → bit_and d (d - 1) ≡ d - 2 ^ count_trailing_zeros n d
unfolding count_trailing_zeros
lowest_off zero d h l = absurd (omega arith)
lowest_off (suc n) d h l =
    go (d % 2) refl (λ e. lowest_off n (d / 2) (omega arith) (omega (arith, pow-suc 2 n)))
  where
    go : (r : ℕ) → d % 2 ≡ r → (d % 2 ≡ 0 → bit_and (d / 2) (d / 2 - 1) ≡ d / 2 - 2 ^ count_trailing_zeros n (d / 2))
        → bit_and d (d - 1) ≡ d - 2 ^ under r (count_trailing_zeros n (d / 2))
    go zero e ih =
        let t = count_trailing_zeros n (d / 2) in
        let half : (d - 1) / 2 ≡ d / 2 - 1 = omega arith in
        omega (arith, and_step d (d - 1), ap (bit_and (d / 2)) half, ih e, pow-suc 2 t)
    go (suc r) e ih =
        let half : (d - 1) / 2 ≡ d / 2 = omega arith in
        omega (arith, and_step d (d - 1), ap (bit_and (d / 2)) half, and_self (d / 2))

-- a bit of both is a bit of the first
pub and_member : (a b k : ℕ) → bit_and a b ∋ k → a ∋ k
and_member a b k h =
    let e = eqb-true (bit_and a b / 2 ^ k % 2) 1 h in
    eq-eqb (a / 2 ^ k % 2) 1 (omega (arith, and_shr a b k, and_step (a / 2 ^ k) (b / 2 ^ k)))

-- One set

-- its sum, as that of a list
over_list : (n d : ℕ) (f : ℕ → ℕ) → sum_to n (λ k. only (member d k) (f k)) ≡ sum (λ x. x) (pick f n d)
unfolding sum_to sum
over_list zero d f = refl
over_list (suc n) d f =
    to_first n (λ k. only (member d k) (f k))
    ∙ ap₂ ◌+◌ (ap (λ (x : ℕ). only (eqb (x % 2) 1) (f 0)) (div-one d))
    (to_same n _ _ (λ k l. ap (λ (x : ℕ). only (eqb x 1) (f (suc k))) (half_bit d k))
    ∙ over_list n (d / 2) (later f))
    ∙ go (d % 2) (omega arith) (pick (later f) n (d / 2))
  where
    go : (b : ℕ) → b ≤ 1 → (l : List ℕ) → only (eqb b 1) (f 0) + sum (λ x. x) l ≡ sum (λ x. x) (prepend b (f 0) l)
    go zero h l = omega arith
    go (suc zero) h l = refl
    go (suc (suc b)) h l = absurd (omega arith)

-- the lowest bit first
pub over_next : (d : ℕ) (f : ℕ → ℕ) → 0 < d → d < 2 ^ set_lines
    → over_set d f ≡ f (count_trailing_zeros set_lines d) + over_set (bit_and d (d - 1)) f
unfolding over_set sum
over_next d f h l =
    let k = count_trailing_zeros set_lines d in
    let m = lowest_in set_lines d h l in
    let rest : bit_and d (d - 1) ≡ remove d k = lowest_off set_lines d h l ∙ sym (removed d k m) in
    over_list set_lines d f ∙ sym (perm_sum (λ x. x) (pick_remove f set_lines d k (member_below d set_lines k l m) m))
    ∙ ap (f k +◌) (sym (over_list set_lines (remove d k) f) ∙ ap (λ (x : ℕ). over_set x f) (sym rest))

pub over_none : (f : ℕ → ℕ) → over_set 0 f ≡ 0
unfolding over_set sum
over_none f = over_list set_lines 0 f ∙ ap (sum (λ x. x)) (pick_empty f set_lines)

only_le : (b : Bool) {x m : ℕ} → x ≤ m → only b x ≤ m
only_le true h = h
only_le false h = omega arith

pub over_le : (d m : ℕ) (f : ℕ → ℕ) → ((k : ℕ) → f k ≤ m) → over_set d f ≤ set_lines * m
unfolding over_set
over_le d m f h = to_le set_lines m _ (λ k l. only_le (member d k) (h k))

-- where only numbers below n are in d, and f is 0 at those that are not
pub over_all : (d n : ℕ) (f : ℕ → ℕ) → n ≤ set_lines → ((k : ℕ) → d ∋ k → k < n)
    → ((k : ℕ) → k < n → member d k ≡ false → f k ≡ 0) → over_set d f ≡ sum_to n f
unfolding over_set
over_all d n f le within without =
    to_end n set_lines (λ k. only (member d k) (f k)) le (λ k h l. past k h (member d k) refl)
    ∙ to_same n _ _ (λ k h. here k h (member d k) refl)
  where
    past : (k : ℕ) → n ≤ k → (b : Bool) → member d k ≡ b → only b (f k) ≡ 0
    past k h true e = absurd (omega (arith, within k e))
    past k h false e = refl

    here : (k : ℕ) → k < n → (b : Bool) → member d k ≡ b → only b (f k) ≡ f k
    here k h true e = refl
    here k h false e = sym (without k h e)

-- Sets with a bit for each number

module _ (bits f : ℕ → ℕ) where
  -- what number k gives
  at : ℕ → ℕ
  at k = only (member (bits (k / set_lines)) (k % set_lines)) (f k)

  at_is : (w j : ℕ) → j < set_lines → only (member (bits w) j) (f (set_lines * w + j)) ≡ at (set_lines * w + j)
  unfolding at
  at_is w j h =
      let e : (set_lines * w + j) / set_lines ≡ w = omega arith in
      let q : (set_lines * w + j) % set_lines ≡ j = omega arith in
      ap₂ (λ (x y : ℕ). only (member (bits x) y) (f (set_lines * w + j))) (sym e) (sym q)

  blocks : (n : ℕ) → sum_to n (λ w. over_set (bits w) (λ j. f (set_lines * w + j))) ≡ sum_to (set_lines * n) at
  unfolding sum_to over_set
  blocks zero = refl
  blocks (suc n) =
      let e : set_lines * suc n ≡ set_lines * n + set_lines = omega arith in
      ap₂ ◌+◌ (blocks n) (to_same set_lines _ _ (λ j h. at_is n j h))
      ∙ sym (ap (λ (k : ℕ). sum_to k at) e ∙ to_append (set_lines * n) set_lines at)

  -- where only numbers below n have a bit, and f is 0 at those that have none
  pub sets_sum : (n : ℕ) → n ≤ set_lines * set_width
      → ((w j : ℕ) → w < set_width → j < set_lines → bits w ∋ j → set_lines * w + j < n)
      → ((k : ℕ) → k < n → member (bits (k / set_lines)) (k % set_lines) ≡ false → f k ≡ 0)
      → over_sets bits f ≡ sum_to n f
  unfolding at
  sets_sum n le within without =
      blocks set_width ∙ to_end n (set_lines * set_width) at le (λ k h l. past k h l _ refl)
      ∙ to_same n _ _ (λ k h. here k h _ refl)
    where
      past : (k : ℕ) → n ≤ k → k < set_lines * set_width → (b : Bool) → member (bits (k / set_lines)) (k % set_lines)
          ≡ b
          → only b (f k) ≡ 0
      past k h l true e = absurd (omega (arith, within (k / set_lines) (k % set_lines) (omega arith) (omega arith) e))
      past k h l false e = refl

      here : (k : ℕ) → k < n → (b : Bool) → member (bits (k / set_lines)) (k % set_lines) ≡ b → only b (f k) ≡ f k
      here k h true e = refl
      here k h false e = sym (without k h e)

-- Sets of labels: what membership, ⊑, remove, without and insert are as numbers, and by halves.
use mathlib.Core.Path.{◌≡◌, refl, sym, ap, ap₂, subst, ◌∙◌}
use Prim.Native.Nat.{ℕ, zero, suc, ◌+◌, ◌-◌, ◌*◌, ◌/◌, ◌%◌, ◌^◌, ◌≤◌, ◌<◌}
use native.Mathlib.Omega.{arith}
use native.Mathlib.Nat.{pow-suc}
use native.Mathlib.Decide.{dec_le}
use lib.Bits.{bit_and, and_le_r, and_comm, and_high, and_shifted, and_block, and_self, and_zero_r, or_disjoint}
use lib.Pow.{pow_pos, pow_mono}
use borrow.Author.Tests.{eqb-true, eq-eqb}
use Rattle.labels.specs.Labels.{subset, insert, without, remove, ◌∋◌, ◌⊑◌}

-- Numbers

pub subset_le : (s d : ℕ) → s ⊑ d → s ≤ d
subset_le s d h = omega (arith, eqb-true (bit_and s d) s h, and_le_r s d)

pub without_le : (d s : ℕ) → without d s ≤ d
without_le d s = omega arith

pub apart : (s d : ℕ) → s ⊑ d → without d s ≡ d - s
apart s d h = ap (λ (x : ℕ). d - x) (and_comm d s ∙ eqb-true (bit_and s d) s h)

and_bit : (d k : ℕ) → bit_and d (2 ^ k) ≡ (d / 2 ^ k % 2) * 2 ^ k
and_bit d k =
    let e : 1 + k ≡ suc k = omega arith in
    let p : 2 ^ (1 + k) - 2 ^ k ≡ 2 ^ k = ap (λ (x : ℕ). 2 ^ x - 2 ^ k) e ∙ (omega arith) in
    ap (bit_and d) (sym p) ∙ and_high d 1 k

-- one label as a subset
pub member_subset : (d k : ℕ) → d ∋ k → 2 ^ k ⊑ d
member_subset d k h =
    let e = eqb-true (d / 2 ^ k % 2) 1 h in
    eq-eqb (bit_and (2 ^ k) d) (2 ^ k)
    (and_comm (2 ^ k) d ∙ and_bit d k ∙ ap (λ (x : ℕ). x * 2 ^ k) e ∙ (omega arith))

one_of : (x p : ℕ) → x < 2 → zero < p → x * p ≡ p → x ≡ 1
one_of zero p h q e = absurd (omega arith)
one_of (suc zero) p h q e = refl
one_of (suc (suc x)) p h q e = absurd (omega arith)

pub subset_member : (d k : ℕ) → 2 ^ k ⊑ d → d ∋ k
subset_member d k h =
    let e = sym (and_bit d k) ∙ and_comm d (2 ^ k) ∙ eqb-true (bit_and (2 ^ k) d) (2 ^ k) h in
    eq-eqb (d / 2 ^ k % 2) 1 (one_of (d / 2 ^ k % 2) (2 ^ k) (omega arith) (pow_pos k) e)

pub removed : (d k : ℕ) → d ∋ k → remove d k ≡ d - 2 ^ k
removed d k h = apart (2 ^ k) d (member_subset d k h)

-- labels of a set below 2 ^ n are below n
pub member_below : (d n k : ℕ) → d < 2 ^ n → d ∋ k → k < n
member_below d n k h m = go (dec_le n k)
  where
    go : Dec (n ≤ k) → k < n
    go (yes l) = absurd (omega (arith, pow_mono l, subset_le (2 ^ k) d (member_subset d k m)))
    go (no l) = omega (arith, l)

pub only_member : (d k : ℕ) → d ≡ 2 ^ k → d ∋ k
only_member d k e = subst (λ (x : ℕ). x ∋ k) (sym e) (subset_member (2 ^ k) k (eq-eqb _ _ (and_self (2 ^ k))))

pub only_is : (d k : ℕ) → d ∋ k → remove d k ≡ 0 → d ≡ 2 ^ k
only_is d k m e = omega (arith, removed d k m, subset_le (2 ^ k) d (member_subset d k m))

-- A new label, above all those of the set

and_above : (d n : ℕ) → d < 2 ^ n → bit_and d (2 ^ n) ≡ 0
and_above d n h =
    let e : 2 ^ n ≡ 1 * 2 ^ n = omega arith in
    and_comm d (2 ^ n) ∙ ap (λ (x : ℕ). bit_and x d) e ∙ and_shifted 1 n d h

pub inserted : (d n : ℕ) → d < 2 ^ n → insert d n ≡ d + 2 ^ n
inserted d n h = or_disjoint d (2 ^ n) (and_above d n h)

pub insert_below : (d n : ℕ) → d < 2 ^ n → insert d n < 2 ^ suc n
insert_below d n h = omega (arith, inserted d n h, pow-suc 2 n)

and_inserted : (d n : ℕ) → d < 2 ^ n → bit_and (insert d n) (2 ^ n) ≡ 2 ^ n
and_inserted d n h =
    let a : insert d n ≡ 1 * 2 ^ n + d = inserted d n h ∙ (omega arith) in
    let b : 2 ^ n ≡ 1 * 2 ^ n + 0 = omega arith in
    ap₂ bit_and a b ∙ and_block n 1 1 d 0 h (pow_pos n) ∙ (omega (arith, and_zero_r d))

pub insert_member : (d n : ℕ) → d < 2 ^ n → insert d n ∋ n
insert_member d n h = subset_member (insert d n) n (eq-eqb _ _ (and_comm (2 ^ n) (insert d n) ∙ and_inserted d n h))

pub remove_insert : (d n : ℕ) → d < 2 ^ n → remove (insert d n) n ≡ d
remove_insert d n h = omega (arith, and_inserted d n h, inserted d n h)

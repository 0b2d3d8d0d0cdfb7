-- The signed weight against what is added and what is taken away, and balance in both forms.
use mathlib.Core.Path.{◌≡◌, refl, sym, ap, ap₂, ◌∙◌}
use mathlib.Core.Logic.{◌↔◌}
use mathlib.Core.List.{List, [], ◌∷◌}
use Prim.Native.Nat.{ℕ, ◌+◌}
use native.Mathlib.Omega.{arith}
use lib.IntN.{nat_abs, ℤ, pos, neg_ℤ, ◌+ℤ◌, ◌-ℤ◌, +ℤ_assoc, +ℤ_comm, +ℤ_invr, +ℤ_idr, pos-+ℤ-pos}
use lib.IntN.{neg_ℤ-+ℤ, neg_ℤ-neg_ℤ, -ℤ-+ℤ_cancel}
use Rattle.logic.specs.Formula.{Formula, atom, one, tensor, with, plus, lolli, implies, bang, at, says}
use Rattle.logic.specs.Formula.{superset, for_every}
use Rattle.logic.specs.Weight.{weight, counted, WellWeighed, BalancedFor}
use Rattle.logic.specs.Multiset.{sum}
use Rattle.logic.specs.Derives.{Hyp}
use Rattle.logic.specs.Counts.{up, down}
use Rattle.logic.specs.Statements.{WeightParts, total}

-- weighs 0, weigh alike and well weighed, on natural numbers
abbrev pub Level : ℕ → Formula → Type 0
Level s a = up s a ≡ down s a

abbrev pub Alike : ℕ → Formula → Formula → Type 0
Alike s a b = up s a + down s b ≡ up s b + down s a

abbrev pub Even : ℕ → Formula → Type 0
Even s (atom p t o) = Unit {0}
Even s one = Unit {0}
Even s (tensor a b) = Even s a × Even s b
Even s (with a b) = Even s a × Even s b × Alike s a b
Even s (plus a b) = Even s a × Even s b × Alike s a b
Even s (lolli a b) = Even s a × Even s b
Even s (implies a b) = Even s a × Even s b × Level s a
Even s (bang a) = Even s a × Level s a
Even s (at a i) = Even s a
Even s (says k a) = Even s a
Even s (superset i j) = Unit {0}
Even s (for_every a) = Even s a

-- the difference of two numbers
abbrev pub less : ℕ → ℕ → ℤ
less m n = pos m -ℤ pos n

regroup : (a b c d : ℤ) → (a +ℤ b) +ℤ (c +ℤ d) ≡ (a +ℤ c) +ℤ (b +ℤ d)
regroup a b c d =
    +ℤ_assoc a b (c +ℤ d)
    ∙ ap (a +ℤ◌) (sym (+ℤ_assoc b c d) ∙ ap (◌+ℤ d) (+ℤ_comm b c) ∙ +ℤ_assoc c b d)
    ∙ sym (+ℤ_assoc a c (b +ℤ d))

pub less_add : (m n p q : ℕ) → less m n +ℤ less p q ≡ less (m + p) (n + q)
less_add m n p q =
    regroup (pos m) (neg_ℤ (pos n)) (pos p) (neg_ℤ (pos q))
    ∙ ap₂ ◌+ℤ◌ (pos-+ℤ-pos m p) (sym (neg_ℤ-+ℤ (pos n) (pos q)) ∙ ap neg_ℤ (pos-+ℤ-pos n q))

less_neg : (m n : ℕ) → neg_ℤ (less m n) ≡ less n m
less_neg m n =
    neg_ℤ-+ℤ (pos m) (neg_ℤ (pos n)) ∙ ap (neg_ℤ (pos m) +ℤ◌) (neg_ℤ-neg_ℤ (pos n)) ∙ +ℤ_comm (neg_ℤ (pos m)) (pos n)

-- two differences are equal where the sums across are
pub less_eq : (m n p q : ℕ) → (less m n ≡ less p q) ↔ (m + q ≡ p + n)
less_eq m n p q = (to, from)
  where
    cancel : (x y z : ℕ) → less x y +ℤ (pos y +ℤ pos z) ≡ pos (x + z)
    cancel x y z =
        sym (+ℤ_assoc (less x y) (pos y) (pos z)) ∙ ap (◌+ℤ pos z) (-ℤ-+ℤ_cancel (pos x) (pos y)) ∙ pos-+ℤ-pos x z

    shift : (x y z : ℕ) → less x y ≡ less (x + z) (y + z)
    shift x y z = sym (+ℤ_idr (less x y)) ∙ ap (less x y +ℤ◌) (sym (+ℤ_invr (pos z))) ∙ less_add x y z z

    to : less m n ≡ less p q → m + q ≡ p + n
    to e =
        ap nat_abs (sym (cancel m n q) ∙ ap (◌+ℤ (pos n +ℤ pos q)) e ∙ ap (less p q +ℤ◌) (+ℤ_comm (pos n) (pos q))
        ∙ cancel p q n)

    from : m + q ≡ p + n → less m n ≡ less p q
    from e = let c : n + q ≡ q + n = omega arith in shift m n q ∙ ap₂ less e c ∙ sym (shift p q n)

pub weight_parts : WeightParts
unfolding weight up
weight_parts s (atom p t o) = sym (+ℤ_idr (pos (counted s p t)))
weight_parts s one = refl
weight_parts s (tensor a b) =
    ap₂ ◌+ℤ◌ (weight_parts s a) (weight_parts s b) ∙ less_add (up s a) (down s a) (up s b) (down s b)
weight_parts s (with a b) = weight_parts s a
weight_parts s (plus a b) = weight_parts s a
weight_parts s (lolli a b) =
    ap₂ ◌-ℤ◌ (weight_parts s b) (weight_parts s a)
    ∙ ap (less (up s b) (down s b) +ℤ◌) (less_neg (up s a) (down s a))
    ∙ less_add (up s b) (down s b) (down s a) (up s a)
weight_parts s (implies a b) = weight_parts s b
weight_parts s (bang a) = weight_parts s a
weight_parts s (at a i) = weight_parts s a
weight_parts s (says k a) = weight_parts s a
weight_parts s (superset i j) = refl
weight_parts s (for_every a) = weight_parts s a

-- what hypotheses add and take away
abbrev pub ups : ℕ → List Hyp → ℕ
ups s = sum (λ h. up s h.formula)

abbrev pub downs : ℕ → List Hyp → ℕ
downs s = sum (λ h. down s h.formula)

pub total_parts : (s : ℕ) (D : List Hyp) → total s D ≡ less (ups s D) (downs s D)
unfolding sum
total_parts s [] = refl
total_parts s (h ∷ D) =
    ap₂ ◌+ℤ◌ (weight_parts s h.formula) (total_parts s D)
    ∙ less_add (up s h.formula) (down s h.formula) (ups s D) (downs s D)

alike_is : (s : ℕ) (a b : Formula) → (weight s a ≡ weight s b) ↔ Alike s a b
alike_is s a b =
    let l = less_eq (up s a) (down s a) (up s b) (down s b) in
    (λ e. l.0 (sym (weight_parts s a) ∙ e ∙ weight_parts s b), λ h. weight_parts s a ∙ l.1 h ∙ sym (weight_parts s b))

level_is : (s : ℕ) (a : Formula) → (weight s a ≡ pos 0) ↔ Level s a
level_is s a =
    let l = less_eq (up s a) (down s a) 0 0 in
    (λ e. zeros (l.0 (sym (weight_parts s a) ∙ e)), λ h. weight_parts s a ∙ l.1 (sums h))
  where
    zeros : up s a + 0 ≡ 0 + down s a → Level s a
    zeros e = omega arith

    sums : Level s a → up s a + 0 ≡ 0 + down s a
    sums e = omega arith

×-is : {A B C D : Type 0} → A ↔ B → C ↔ D → (A × C) ↔ (B × D)
×-is e f = (λ x. (e.0 x.0, f.0 x.1), λ x. (e.1 x.0, f.1 x.1))

×₃-is : {A B C D E F : Type 0} → A ↔ B → C ↔ D → E ↔ F → (A × C × E) ↔ (B × D × F)
×₃-is e f g = (λ x. (e.0 x.0, f.0 x.1, g.0 x.2), λ x. (e.1 x.0, f.1 x.1, g.1 x.2))

same_unit : Unit {0} ↔ Unit {0}
same_unit = (λ x. x, λ x. x)

pub even_is : (s : ℕ) (a : Formula) → WellWeighed s a ↔ Even s a
even_is s (atom p t o) = same_unit
even_is s one = same_unit
even_is s (tensor a b) = ×-is (even_is s a) (even_is s b)
even_is s (with a b) = ×₃-is (even_is s a) (even_is s b) (alike_is s a b)
even_is s (plus a b) = ×₃-is (even_is s a) (even_is s b) (alike_is s a b)
even_is s (lolli a b) = ×-is (even_is s a) (even_is s b)
even_is s (implies a b) = ×₃-is (even_is s a) (even_is s b) (level_is s a)
even_is s (bang a) = ×-is (even_is s a) (level_is s a)
even_is s (at a i) = even_is s a
even_is s (says k a) = even_is s a
even_is s (superset i j) = same_unit
even_is s (for_every a) = even_is s a

pub balanced_is : (s : ℕ) (a : Formula) → BalancedFor s a ↔ (Level s a × Even s a)
balanced_is s a = (
  λ b. ((level_is s a).0 b.level, (even_is s a).0 b.even),
  λ h. record { level = (level_is s a).1 h.0; even = (even_is s a).1 h.1 },
)

-- A test and what it decides.
use mathlib.Core.Path.{◌≡◌, refl, ap, sym}
use mathlib.Core.Bool.{Bool, true, false, ◌&&◌, ◌||◌, not}
use Prim.Native.Nat.{ℕ, ◌≤◌, ◌<◌}
use mathlib.Core.Logic.{◌↔◌, ◌⊎◌, inl, inr}
use native.Mathlib.Omega.{arith}
use lib.Dec.{eqb, leb, ltb}
use borrow.Author.Tests.{eqb-true, eq-eqb, leb-true, le-leb, ltb-true, lt-ltb}
use Rattle.logic.specs.Formula.{bit}

pub no_truth : false ≡ true → ⊥
no_truth e = let z : ◌≡◌ {A = ℕ} (bit false) (bit true) = ap bit e in omega arith

-- what follows of the parts of a test
pub left_false : (a b : Bool) → (a || b) ≡ false → a ≡ false
left_false false b e = refl
left_false true b e = e

pub right_false : (a b : Bool) → (a || b) ≡ false → b ≡ false
right_false false b e = e
right_false true false e = refl
right_false true true e = e

pub left_true : (a b : Bool) → (a && b) ≡ true → a ≡ true
left_true true b e = refl
left_true false b e = e

pub right_true : (a b : Bool) → (a && b) ≡ true → b ≡ true
right_true true b e = e
right_true false true e = refl
right_true false false e = e

pub bit_le : (b : Bool) → bit b ≤ 1
bit_le true = omega arith
bit_le false = omega arith

abbrev pub Decides : Bool → Type 0 → Type 0
Decides b P = (b ≡ true) ↔ P

pub and_decides : {x y : Bool} {P Q : Type 0} → Decides x P → Decides y Q → Decides (x && y) (P × Q)
and_decides {x = true} p q = (λ e. (p.0 refl, q.0 e), λ h. q.1 h.1)
and_decides {x = false} p q = (λ e. absurd (no_truth e), λ h. absurd (no_truth (p.1 h.0)))

pub and₃_decides : {x y z : Bool} {P Q R : Type 0} → Decides x P → Decides y Q → Decides z R
    → Decides (x && (y && z)) (P × Q × R)
and₃_decides p q r =
    let d = and_decides p (and_decides q r) in
    (λ e. let w = d.0 e in (w.0, w.1.0, w.1.1), λ h. d.1 (h.0, (h.1, h.2)))

pub or_decides : {x y : Bool} {P Q : Type 0} → Decides x P → Decides y Q → Decides (x || y) (P ⊎ Q)
or_decides {x = true} p q = (λ e. inl (p.0 refl), λ h. refl)
or_decides {x = false} {y = y} {P = P} {Q = Q} p q = (λ e. inr (q.0 e), λ h. go h)
  where
    go : P ⊎ Q → y ≡ true
    go (inl a) = absurd (no_truth (p.1 a))
    go (inr b) = q.1 b

pub not_decides : {x : Bool} {P : Type 0} → Decides x P → Decides (not x) (P → ⊥)
not_decides {x = true} p = (λ e. absurd (no_truth e), λ h. absurd (h (p.0 refl)))
not_decides {x = false} p = (λ e. λ a. no_truth (p.1 a), λ h. refl)

pub not_false : {x : Bool} {P : Type 0} → Decides x P → (not x ≡ false) ↔ P
not_false {x = true} p = (λ e. p.0 refl, λ h. refl)
not_false {x = false} p = (λ e. absurd (no_truth (sym e)), λ h. absurd (no_truth (p.1 h)))

-- what has a test and cannot fail holds
pub not_not : {x : Bool} {P : Type 0} → Decides x P → ((P → ⊥) → ⊥) → P
not_not {x = true} p n = p.0 refl
not_not {x = false} p n = absurd (n (λ h. no_truth (p.1 h)))

pub decides_so : {x : Bool} {P Q : Type 0} → Decides x P → P ↔ Q → Decides x Q
decides_so p q = (λ e. q.0 (p.0 e), λ h. p.1 (q.1 h))

-- tests of the same
pub same_test : {x y : Bool} {P : Type 0} → Decides x P → Decides y P → x ≡ y
same_test {x = true} p q = sym (q.1 (p.0 refl))
same_test {x = false} {y = true} p q = p.1 (q.0 refl)
same_test {x = false} {y = false} p q = refl

pub yea : Decides true (Unit {0})
yea = (λ e. tt, λ u. refl)

pub nay : Decides false ⊥
nay = (no_truth, λ b. absurd b)

pub eq_decides : (m n : ℕ) → Decides (eqb m n) (m ≡ n)
eq_decides m n = (eqb-true m n, eq-eqb m n)

pub le_decides : (m n : ℕ) → Decides (leb m n) (m ≤ n)
le_decides m n = (leb-true m n, le-leb m n)

pub lt_decides : (m n : ℕ) → Decides (ltb m n) (m < n)
lt_decides m n = (ltb-true m n, lt-ltb m n)

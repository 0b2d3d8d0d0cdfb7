-- The tests of a formula decide what they are meant to: plain formulas are well weighed and weigh their seats and
-- places, and balanced holds for every session though only those that stand in the formula are tried.
use mathlib.Core.Path.{◌≡◌, refl, sym, subst}
use mathlib.Core.List.{List, [], ◌∷◌, ◌++◌}
use mathlib.Core.Bool.{Bool, true, false, ◌&&◌, ◌||◌}
use Prim.Native.Nat.{ℕ, ◌+◌}
use native.Mathlib.Omega.{arith}
use lib.Dec.{eqb}
use borrow.Author.Tests.{eqb-true}
use Rattle.logic.specs.Formula.{Formula, atom, one, tensor, with, plus, lolli, implies, bang, at, says}
use Rattle.logic.specs.Formula.{superset, for_every, bit, count, seats, places, plain}
use Rattle.logic.specs.Counts.{up, down, level, even, sessions_of, all_of, balanced}
use Rattle.logic.specs.Statements.{PlainWeighed, BalancedTest}
use Rattle.logic.proofs.Tests.{no_truth, Decides, and_decides, and₃_decides, yea, nay, eq_decides}
use Rattle.logic.proofs.Weights.{Level, Even, even_is, balanced_is}

-- only a, t, s
abbrev pub Plain : Formula → Type 0
Plain (atom p t o) = Unit {0}
Plain one = ⊥
Plain (tensor a b) = Plain a × Plain b
Plain (with a b) = ⊥
Plain (plus a b) = ⊥
Plain (lolli a b) = ⊥
Plain (implies a b) = ⊥
Plain (bang a) = ⊥
Plain (at a i) = ⊥
Plain (says k a) = Plain a
Plain (superset i j) = ⊥
Plain (for_every a) = ⊥

pub plain_decides : (a : Formula) → Decides (plain a) (Plain a)
unfolding plain
plain_decides (atom p t o) = yea
plain_decides one = nay
plain_decides (tensor a b) = and_decides (plain_decides a) (plain_decides b)
plain_decides (with a b) = nay
plain_decides (plus a b) = nay
plain_decides (lolli a b) = nay
plain_decides (implies a b) = nay
plain_decides (bang a) = nay
plain_decides (at a i) = nay
plain_decides (says k a) = plain_decides a
plain_decides (superset i j) = nay
plain_decides (for_every a) = nay

even_decides : (s : ℕ) (a : Formula) → Decides (even s a) (Even s a)
unfolding even
even_decides s (atom p t o) = yea
even_decides s one = yea
even_decides s (tensor a b) = and_decides (even_decides s a) (even_decides s b)
even_decides s (with a b) = and₃_decides (even_decides s a) (even_decides s b) (eq_decides _ _)
even_decides s (plus a b) = and₃_decides (even_decides s a) (even_decides s b) (eq_decides _ _)
even_decides s (lolli a b) = and_decides (even_decides s a) (even_decides s b)
even_decides s (implies a b) = and₃_decides (even_decides s a) (even_decides s b) (eq_decides _ _)
even_decides s (bang a) = and_decides (even_decides s a) (eq_decides _ _)
even_decides s (at a i) = even_decides s a
even_decides s (says k a) = even_decides s a
even_decides s (superset i j) = yea
even_decides s (for_every a) = even_decides s a

-- A session that does not stand in a formula weighs nothing there, and the formula is well weighed for it.
elem : ℕ → List ℕ → Bool
elem s [] = false
elem s (x ∷ xs) = eqb x s || elem s xs

elem_append : (s : ℕ) (xs ys : List ℕ) → elem s (xs ++ ys) ≡ false → (elem s xs ≡ false) × (elem s ys ≡ false)
unfolding elem
elem_append s [] ys e = (refl, e)
elem_append s (x ∷ xs) ys e = go (eqb x s) e (elem_append s xs ys)
  where
    go : (b : Bool) → (b || elem s (xs ++ ys)) ≡ false
        → (elem s (xs ++ ys) ≡ false → (elem s xs ≡ false) × (elem s ys ≡ false))
        → ((b || elem s xs) ≡ false) × (elem s ys ≡ false)
    go true e ih = absurd (no_truth (sym e))
    go false e ih = ih e

record Absent (s : ℕ) (a : Formula) : Type 0 where
  ups : up s a ≡ 0
  downs : down s a ≡ 0
  evens : Even s a

absent : (s : ℕ) (a : Formula) → elem s (sessions_of a) ≡ false → Absent s a
unfolding sessions_of up elem
absent s (atom p t o) e = record { ups = go (eqb p 1 || eqb p 2) (eqb t s) e; downs = refl; evens = tt }
  where
    go : (x y : Bool) → (y || false) ≡ false → bit (x && y) ≡ 0
    go true true e = absurd (no_truth (sym e))
    go true false e = refl
    go false y e = refl
absent s one e = record { ups = refl; downs = refl; evens = tt }
absent s (tensor a b) e =
    let h = elem_append s (sessions_of a) (sessions_of b) e in
    let x = absent s a h.0 in
    let y = absent s b h.1 in
    record {
      ups = omega (arith, x.ups, y.ups);
      downs = omega (arith, x.downs, y.downs);
      evens = (x.evens, y.evens);
    }
absent s (with a b) e =
    let h = elem_append s (sessions_of a) (sessions_of b) e in
    let x = absent s a h.0 in
    let y = absent s b h.1 in
    record {
      ups = x.ups;
      downs = x.downs;
      evens = (x.evens, y.evens, omega (arith, x.ups, y.ups, x.downs, y.downs));
    }
absent s (plus a b) e =
    let h = elem_append s (sessions_of a) (sessions_of b) e in
    let x = absent s a h.0 in
    let y = absent s b h.1 in
    record {
      ups = x.ups;
      downs = x.downs;
      evens = (x.evens, y.evens, omega (arith, x.ups, y.ups, x.downs, y.downs));
    }
absent s (lolli a b) e =
    let h = elem_append s (sessions_of a) (sessions_of b) e in
    let x = absent s a h.0 in
    let y = absent s b h.1 in
    record {
      ups = omega (arith, x.downs, y.ups);
      downs = omega (arith, x.ups, y.downs);
      evens = (x.evens, y.evens);
    }
absent s (implies a b) e =
    let h = elem_append s (sessions_of a) (sessions_of b) e in
    let x = absent s a h.0 in
    let y = absent s b h.1 in
    record { ups = y.ups; downs = y.downs; evens = (x.evens, y.evens, omega (arith, x.ups, x.downs)) }
absent s (bang a) e =
    let x = absent s a e in
    record { ups = x.ups; downs = x.downs; evens = (x.evens, omega (arith, x.ups, x.downs)) }
absent s (at a i) e = let x = absent s a e in record { ups = x.ups; downs = x.downs; evens = x.evens }
absent s (says k a) e = let x = absent s a e in record { ups = x.ups; downs = x.downs; evens = x.evens }
absent s (superset i j) e = record { ups = refl; downs = refl; evens = tt }
absent s (for_every a) e = let x = absent s a e in record { ups = x.ups; downs = x.downs; evens = x.evens }

all_elem : (f : ℕ → Bool) (xs : List ℕ) → all_of f xs ≡ true → (s : ℕ) → elem s xs ≡ true → f s ≡ true
unfolding all_of elem
all_elem f [] h s e = absurd (no_truth e)
all_elem f (x ∷ xs) h s e = go (f x) refl h (eqb x s) refl e (λ q. all_elem f xs q s)
  where
    go : (c : Bool) → f x ≡ c → (c && all_of f xs) ≡ true → (b : Bool) → eqb x s ≡ b → (b || elem s xs) ≡ true
        → (all_of f xs ≡ true → elem s xs ≡ true → f s ≡ true) → f s ≡ true
    go true p h true q e ih = subst (λ (y : ℕ). f y ≡ true) (eqb-true x s q) p
    go true p h false q e ih = ih h e
    go false p h b q e ih = absurd (no_truth h)

all_every : (f : ℕ → Bool) (xs : List ℕ) → ((s : ℕ) → f s ≡ true) → all_of f xs ≡ true
unfolding all_of
all_every f [] h = refl
all_every f (x ∷ xs) h = rw (h x) (all_every f xs h)

neutral_decides : (s : ℕ) (a : Formula) → Decides (level s a && even s a) (Level s a × Even s a)
neutral_decides s a = and_decides (eq_decides (up s a) (down s a)) (even_decides s a)

pub balanced_test : BalancedTest
unfolding balanced
balanced_test a = (
  λ h s. (balanced_is s a).1 (go s h (elem s (sessions_of a)) refl),
  λ h. all_every (λ s. level s a && even s a) (sessions_of a)
      (λ s. (neutral_decides s a).1 ((balanced_is s a).0 (h s))),
)
  where
    go : (s : ℕ) → all_of (λ s. level s a && even s a) (sessions_of a) ≡ true → (b : Bool) → elem s (sessions_of a) ≡ b
        → Level s a × Even s a
    go s h true e = (neutral_decides s a).0 (all_elem (λ s. level s a && even s a) (sessions_of a) h s e)
    go s h false e = let x = absent s a e in (omega (arith, x.ups, x.downs), x.evens)

-- What a plain formula weighs is its seats and places.
pub record PlainCounts (s : ℕ) (a : Formula) : Type 0 where
  pub ups : up s a ≡ seats s a + places s a
  pub downs : down s a ≡ 0
  pub evens : Even s a

pub plain_counts : (s : ℕ) (a : Formula) → Plain a → PlainCounts s a
unfolding up count
plain_counts s (atom p t o) h =
    record { ups = go (eqb p 1) (eqb p 2) (eqb t s) (λ x y. apart x y); downs = refl; evens = tt }
  where
    apart : eqb p 1 ≡ true → eqb p 2 ≡ true → ⊥
    apart x y = omega (arith, eqb-true p 1 x, eqb-true p 2 y)

    go : (x y z : Bool) → (x ≡ true → y ≡ true → ⊥) → bit ((x || y) && z) ≡ bit (x && z) + bit (y && z)
    go true true z f = absurd (f refl refl)
    go true false true f = refl
    go true false false f = refl
    go false true true f = refl
    go false true false f = refl
    go false false z f = refl
plain_counts s one h = absurd h
plain_counts s (tensor a b) h =
    let x = plain_counts s a h.0 in
    let y = plain_counts s b h.1 in
    record {
      ups = omega (arith, x.ups, y.ups);
      downs = omega (arith, x.downs, y.downs);
      evens = (x.evens, y.evens);
    }
plain_counts s (with a b) h = absurd h
plain_counts s (plus a b) h = absurd h
plain_counts s (lolli a b) h = absurd h
plain_counts s (implies a b) h = absurd h
plain_counts s (bang a) h = absurd h
plain_counts s (at a i) h = absurd h
plain_counts s (says k a) h =
    let x = plain_counts s a h in record { ups = x.ups; downs = x.downs; evens = x.evens }
plain_counts s (superset i j) h = absurd h
plain_counts s (for_every a) h = absurd h

pub plain_weighed : PlainWeighed
plain_weighed s a e = (even_is s a).1 (plain_counts s a ((plain_decides a).0 e)).evens

-- Plans over rows with holders put in (instance_row), by the rows as they were worded: a step knows its formula's
-- letter, so which of the row's numbers are parts.
use mathlib.Core.Path.{◌≡◌, refl, sym, ap, subst}
use mathlib.Core.Bool.{Bool, true, false, ◌&&◌, ◌||◌}
use Prim.Native.Nat.{ℕ}
use Prim.Native.Char.{Char, code}
use lib.Dec.{eqb}
use borrow.Author.Tests.{eqb-true}
use Rattle.logic.specs.declared.Interval.{Interval}
use Rattle.logic.specs.Interval.{contains}
use Rattle.labels.specs.Labels.{member, is_just}
use Rattle.steps.specs.declared.Row.{Row}
use Rattle.steps.specs.declared.Hypothesis.{Hypothesis}
use Rattle.steps.specs.declared.Goal.{Goal}
use Rattle.steps.specs.declared.Goal.TheVariants.{Holds}
use Rattle.steps.specs.declared.Plan.{Plan}
use Rattle.steps.specs.declared.Plan.TheVariants.{Closed}
use Rattle.steps.specs.Instance.{formula_of, holder_of, part_first, part_second, row_by, ◌after◌, instance_row}
use Rattle.steps.specs.Plans.{when, is, right, left, atomic, same_atom}

-- what stands under a test need be known only where it holds
when_holds : (b : Bool) {p q : Plan} → (b ≡ true → p ≡ q) → when b p ≡ when b q
unfolding when
when_holds true f = f refl
when_holds false f = refl

both : (a b : Bool) → (a && b) ≡ true → b ≡ true
both true b e = e
both false b e = cc

by_letter : (x : Row) (c : Char) (h : ℕ) (k : Row → Plan) → is x c ≡ true
    → k (row_by x.letter h x) ≡ k (row_by (code c) h x)
by_letter x c h k e = ap (λ (n : ℕ). k (row_by n h x)) (eqb-true x.letter (code c) e)

-- an atom's numbers are no parts
abbrev Atomic : Row → Type 0
Atomic x = (is x "a" || is x "n") ≡ true

no_parts : (c : ℕ) → (eqb c (code "a") || eqb c (code "n")) ≡ true → (part_first c ≡ false) × (part_second c ≡ false)
no_parts c e = go (eqb c (code "a")) (eqb-true c (code "a")) e
  where
    go : (b : Bool) → (b ≡ true → c ≡ code "a") → (b || eqb c (code "n")) ≡ true
        → (part_first c ≡ false) × (part_second c ≡ false)
    go true f h = let e = f refl in rw e (refl, refl)
    go false f h = let e = eqb-true c (code "n") h in rw e (refl, refl)

-- whether atoms are equal, but for their holders
abbrev alike : Row → Row → Bool → Bool
alike y x rest = eqb y.letter x.letter && (eqb y.a x.a && (eqb y.b x.b && rest))

as_worded : (x y : Row) (m n : ℕ) (rest : Bool) → Atomic x → alike (y after n) (x after m) rest ≡ alike y x rest
as_worded x y m n rest h = go (eqb y.letter x.letter) (eqb-true y.letter x.letter)
  where
    go : (b : Bool) → (b ≡ true → y.letter ≡ x.letter)
        → (b && (eqb (y after n).a (x after m).a && (eqb (y after n).b (x after m).b && rest)))
        ≡ (b && (eqb y.a x.a && (eqb y.b x.b && rest)))
    go true f =
        let p = no_parts x.letter h in
        let q = no_parts y.letter
        (subst (λ (c : ℕ). (eqb c (code "a") || eqb c (code "n")) ≡ true) (sym (f refl)) h) in
        rw (p.0, p.1, q.0, q.1) refl
    go false f = refl

module _ (row : ℕ → Row) (label : ℕ → Hypothesis) (R D : ℕ) (g : Goal) where
  pub right_worded : (n : ℕ) (i : Interval) (c : Char) (k : Row → Interval → Plan)
      → right (instance_row row) label R D g (Holds n i) c k
      ≡ when (is (row (formula_of n)) c) (k (row_by (code c) (holder_of n) (row (formula_of n))) i)
  unfolding right instance_row
  right_worded n i c k =
      let x = row (formula_of n) in
      when_holds (is x c) (by_letter x c (holder_of n) (λ y. k y i))

  pub left_worded : (l : ℕ) (c : Char) (k : Interval → Row → Plan)
      → left (instance_row row) label R D g l c k
      ≡ (let h = label l in let x = row (formula_of h.formula) in
      when (member D l && is x c) (k h.interval (row_by (code c) (holder_of h.formula) x)))
  unfolding left instance_row
  left_worded l c k =
      let h = label l in
      let x = row (formula_of h.formula) in
      when_holds (member D l && is x c)
      (λ e. by_letter x c (holder_of h.formula) (k h.interval) (both (member D l) (is x c) e))

  pub atomic_worded : (n : ℕ) (i : Interval) (l : ℕ)
      → atomic (instance_row row) label R D g (Holds n i)
      (λ x i. when (is_just D l
      && (same_atom (instance_row row) label R D g l x && contains (label l).interval i)) Closed)
      ≡ (let x = row (formula_of n) in let y = row (formula_of (label l).formula) in
      when (is x "a" || is x "n") (when (is_just D l
      && (alike y x (is x "a" || eqb (y after (label l).formula).holder (x after n).holder)
      && contains (label l).interval i)) Closed))
  unfolding atomic instance_row
  atomic_worded n i l =
      let x = row (formula_of n) in
      let y = row (formula_of (label l).formula) in
      when_holds (is x "a" || is x "n")
      (λ e. ap (λ (b : Bool). when (is_just D l && (b && contains (label l).interval i)) Closed)
      (as_worded x y n (label l).formula _ e))

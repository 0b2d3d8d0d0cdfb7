-- Rows with a holder put in unroll to formulas with the holder put in.
use mathlib.Core.Path.{◌≡◌, refl, sym, ap, ap₂, subst, fun_ext, ◌∙◌}
use mathlib.Core.Bool.{Bool, true, false, ◌&&◌}
use mathlib.Core.Option.{Option, none, some}
use Prim.Native.Nat.{ℕ, ◌+◌, ◌*◌, ◌/◌, ◌%◌, ◌<◌}
use Prim.Native.Char.{code}
use native.Mathlib.Omega.{arith}
use lib.Dec.{eqb, ltb}
use borrow.Author.Tests.{eqb-true, ltb-true}
use Rattle.logic.specs.Choice.{pick}
use Rattle.logic.specs.Formula.{Formula, atom, one, tensor, with, plus, lolli, implies, bang, at, says, superset}
use Rattle.logic.specs.Formula.{for_every, put_in, with_holder}
use Rattle.logic.proofs.Holders.{no_holder}
use Rattle.steps.specs.declared.Row.{Row}
use Rattle.steps.specs.Instance.{radix, ◌for◌, formula_of, holder_of, instance, part_first, part_second}
use Rattle.steps.specs.Instance.{row_by, ◌after◌, instance_row}
use Rattle.steps.specs.Unroll.{letter, made, Forms, Unrolls, SmallRow, Small}

-- the letter stays
letter_stays : (h : ℕ) (a : Formula) → letter (with_holder h a) ≡ letter a
unfolding with_holder put_in
letter_stays h (atom p s none) = refl
letter_stays h (atom p s (some k)) = refl
letter_stays h one = refl
letter_stays h (tensor a b) = refl
letter_stays h (with a b) = refl
letter_stays h (plus a b) = refl
letter_stays h (lolli a b) = refl
letter_stays h (implies a b) = refl
letter_stays h (bang a) = refl
letter_stays h (at a i) = refl
letter_stays h (says k a) = refl
letter_stays h (superset i j) = refl
letter_stays h (for_every a) = refl

-- the number of a formula for a holder, and of a formula as it was worded
pub instance_for : (f : ℕ → Formula) (n h : ℕ) → n < radix → instance f (n for h) ≡ with_holder h (f n)
unfolding instance
instance_for f n h l =
    let p : (n % radix + h * radix) % radix ≡ n = omega arith in
    let q : (n % radix + h * radix) / radix ≡ h = omega arith in
    ap₂ (λ (x y : ℕ). with_holder x (f y)) q p

pub instance_own : (f : ℕ → Formula) (n : ℕ) → n < radix → instance f n ≡ f n
unfolding instance
instance_own f n l =
    let p : n % radix ≡ n = omega arith in
    let q : n / radix ≡ 0 = omega arith in
    ap₂ (λ (x y : ℕ). with_holder x (f y)) q p ∙ no_holder (f n)

module _ {row : ℕ → Row} {f : ℕ → Formula} (u : Forms row f) (small : Small row) where
  part : (n h : ℕ) → n < radix → with_holder h (f n) ≡ instance f (n for h)
  part n h l = sym (instance_for f n h l)

  -- by the formula's own letter
  made_for : (h : ℕ) (x : Row) (a : Formula) → SmallRow (letter a) x → a ≡ made f (letter a) x
      → with_holder h a ≡ made (instance f) (letter a) (row_by (letter a) h x)
  unfolding with_holder put_in
  made_for h x (atom p s none) m q = q
  made_for h x (atom p s (some k)) m q = ap (with_holder h) q
  made_for h x one m q = refl
  made_for h x (tensor a b) m q =
      ap (with_holder h) q ∙ ap₂ tensor (part x.a h (m.first refl)) (part x.b h (m.second refl))
  made_for h x (with a b) m q =
      ap (with_holder h) q ∙ ap₂ with (part x.a h (m.first refl)) (part x.b h (m.second refl))
  made_for h x (plus a b) m q =
      ap (with_holder h) q ∙ ap₂ plus (part x.a h (m.first refl)) (part x.b h (m.second refl))
  made_for h x (lolli a b) m q =
      ap (with_holder h) q ∙ ap₂ lolli (part x.a h (m.first refl)) (part x.b h (m.second refl))
  made_for h x (implies a b) m q =
      ap (with_holder h) q ∙ ap₂ implies (part x.a h (m.first refl)) (part x.b h (m.second refl))
  made_for h x (bang a) m q = ap (with_holder h) q ∙ ap bang (part x.a h (m.first refl))
  made_for h x (at a i) m q =
      ap (with_holder h) q ∙ ap (λ (y : Formula). at y x.first) (part x.a h (m.first refl))
  made_for h x (says k a) m q = ap (with_holder h) q ∙ ap (says x.a) (part x.b h (m.second refl))
  made_for h x (superset i j) m q = q
  made_for h x (for_every a) m q = q ∙ ap for_every (sym (instance_own f x.a (m.bound refl)))

  formed : Forms (instance_row row) (instance f)
  unfolding instance instance_row
  formed = record {
    letters = λ m. letter_stays (holder_of m) (f (formula_of m)) ∙ u.letters (formula_of m);
    formed = λ m.
        let n = formula_of m in
        let e = u.letters n in
        subst (λ (c : ℕ). with_holder (holder_of m) (f n) ≡ made (instance f) c (row_by c (holder_of m) (row n))) e
        (made_for (holder_of m) (row n) (f n) (subst (λ (c : ℕ). SmallRow c (row n)) (sym e) (small.at n))
        (u.formed n ∙ ap (λ (c : ℕ). made f c (row n)) (sym e)));
  }

  open_for : (m h : ℕ) → (instance_row row m).letter ≡ code "q"
      → instance f ((instance_row row m).a for h) ≡ with_holder h (instance f (instance_row row m).a)
  unfolding instance_row
  open_for m h c =
      let x = row (formula_of m) in
      let l = (small.at (formula_of m)).bound c in
      let number : (x after m).a ≡ x.a =
      ap (λ (k : ℕ). pick (part_first k) (x.a for holder_of m) x.a) c in
      ap (λ (k : ℕ). instance f (k for h)) number
      ∙ instance_for f x.a h l
      ∙ ap (with_holder h) (sym (instance_own f x.a l))
      ∙ ap (λ (k : ℕ). with_holder h (instance f k)) (sym number)

  pub instances : Unrolls (instance_row row) (instance f)
  instances = record { forms = formed; opened = open_for }

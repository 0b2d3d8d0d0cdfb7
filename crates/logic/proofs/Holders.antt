-- A holder put in: where nothing changes, what is left unbound, and that the weights stay.
use mathlib.Core.Path.{◌≡◌, refl, ap, ap₂, sym, ◌∙◌}
use mathlib.Core.Bool.{Bool, true, false, ◌||◌}
use mathlib.Core.Option.{Option, none, some}
use Prim.Native.Nat.{ℕ, ◌+◌, ◌≤◌}
use native.Mathlib.Omega.{arith}
use lib.Dec.{eqb}
use borrow.Author.Tests.{eqb-true, ne_eqb}
use Rattle.logic.specs.Choice.{pick}
use Rattle.logic.specs.Formula.{Formula, atom, one, tensor, with, plus, lolli, implies, bang, at, says}
use Rattle.logic.specs.Formula.{superset, for_every, put_in, with_holder, is_bound, unbound}
use Rattle.logic.specs.Counts.{up, down}
use Rattle.logic.specs.Statements.{HolderPutIn, Holders}
use Rattle.logic.proofs.Tests.{no_truth, left_false, right_false}
use Rattle.logic.proofs.Weights.{Even, weight_parts, less_eq, even_is}

none_in : (o : Option ℕ) → put_in 0 o ≡ o
unfolding put_in
none_in none = refl
none_in (some k) = ap some (go (eqb k 0) refl)
  where
    go : (b : Bool) → eqb k 0 ≡ b → pick b 0 k ≡ k
    go true e = sym (eqb-true k 0 e)
    go false e = refl

pub no_holder : (a : Formula) → with_holder 0 a ≡ a
unfolding with_holder
no_holder (atom p t o) = ap (atom p t) (none_in o)
no_holder one = refl
no_holder (tensor a b) = ap₂ tensor (no_holder a) (no_holder b)
no_holder (with a b) = ap₂ with (no_holder a) (no_holder b)
no_holder (plus a b) = ap₂ plus (no_holder a) (no_holder b)
no_holder (lolli a b) = ap₂ lolli (no_holder a) (no_holder b)
no_holder (implies a b) = ap₂ implies (no_holder a) (no_holder b)
no_holder (bang a) = ap bang (no_holder a)
no_holder (at a i) = ap (λ (x : Formula). at x i) (no_holder a)
no_holder (says k a) = ap (says k) (no_holder a)
no_holder (superset i j) = refl
no_holder (for_every a) = refl

named_stays : (h : ℕ) (o : Option ℕ) → is_bound o ≡ false → put_in h o ≡ o
unfolding put_in
named_stays h none e = refl
named_stays h (some k) e = ap some (ap (λ (b : Bool). pick b h k) e)

nowhere : (h : ℕ) (a : Formula) → unbound a ≡ false → with_holder h a ≡ a
unfolding with_holder unbound
nowhere h (atom p t o) e = ap (atom p t) (named_stays h o e)
nowhere h one e = refl
nowhere h (tensor a b) e =
    ap₂ tensor (nowhere h a (left_false (unbound a) (unbound b) e))
    (nowhere h b (right_false (unbound a) (unbound b) e))
nowhere h (with a b) e =
    ap₂ with (nowhere h a (left_false (unbound a) (unbound b) e))
    (nowhere h b (right_false (unbound a) (unbound b) e))
nowhere h (plus a b) e =
    ap₂ plus (nowhere h a (left_false (unbound a) (unbound b) e))
    (nowhere h b (right_false (unbound a) (unbound b) e))
nowhere h (lolli a b) e =
    ap₂ lolli (nowhere h a (left_false (unbound a) (unbound b) e))
    (nowhere h b (right_false (unbound a) (unbound b) e))
nowhere h (implies a b) e =
    ap₂ implies (nowhere h a (left_false (unbound a) (unbound b) e))
    (nowhere h b (right_false (unbound a) (unbound b) e))
nowhere h (bang a) e = ap bang (nowhere h a e)
nowhere h (at a i) e = ap (λ (x : Formula). at x i) (nowhere h a e)
nowhere h (says k a) e = ap (says k) (nowhere h a e)
nowhere h (superset i j) e = refl
nowhere h (for_every a) e = refl

put_named : (h : ℕ) → 1 ≤ h → (o : Option ℕ) → is_bound (put_in h o) ≡ false
unfolding put_in
put_named h l none = refl
put_named h l (some k) = go (eqb k 0) refl
  where
    go : (b : Bool) → eqb k 0 ≡ b → eqb (pick b h k) 0 ≡ false
    go true e = ne_eqb h 0 (λ q. omega arith)
    go false e = e

neither : {x y : Bool} → x ≡ false → y ≡ false → (x || y) ≡ false
neither e f = rw (e, f)

everywhere : (h : ℕ) → 1 ≤ h → (a : Formula) → unbound (with_holder h a) ≡ false
unfolding with_holder unbound
everywhere h l (atom p t o) = put_named h l o
everywhere h l one = refl
everywhere h l (tensor a b) = neither (everywhere h l a) (everywhere h l b)
everywhere h l (with a b) = neither (everywhere h l a) (everywhere h l b)
everywhere h l (plus a b) = neither (everywhere h l a) (everywhere h l b)
everywhere h l (lolli a b) = neither (everywhere h l a) (everywhere h l b)
everywhere h l (implies a b) = neither (everywhere h l a) (everywhere h l b)
everywhere h l (bang a) = everywhere h l a
everywhere h l (at a i) = everywhere h l a
everywhere h l (says k a) = everywhere h l a
everywhere h l (superset i j) = refl
everywhere h l (for_every a) = refl

pub record SameWeight (s : ℕ) (a b : Formula) : Type 0 where
  pub ups : up s b ≡ up s a
  pub downs : down s b ≡ down s a
  pub evens : Even s a → Even s b

pub same_weight : (s h : ℕ) (a : Formula) → SameWeight s a (with_holder h a)
unfolding with_holder up
same_weight s h (atom p t o) = record { ups = refl; downs = refl; evens = λ e. e }
same_weight s h one = record { ups = refl; downs = refl; evens = λ e. e }
same_weight s h (tensor a b) =
    let x = same_weight s h a in
    let y = same_weight s h b in
    record {
      ups = omega (arith, x.ups, y.ups);
      downs = omega (arith, x.downs, y.downs);
      evens = λ e. (x.evens e.0, y.evens e.1);
    }
same_weight s h (with a b) =
    let x = same_weight s h a in
    let y = same_weight s h b in
    record {
      ups = x.ups;
      downs = x.downs;
      evens = λ e. (x.evens e.0, y.evens e.1, omega (arith, e.2, x.ups, x.downs, y.ups, y.downs));
    }
same_weight s h (plus a b) =
    let x = same_weight s h a in
    let y = same_weight s h b in
    record {
      ups = x.ups;
      downs = x.downs;
      evens = λ e. (x.evens e.0, y.evens e.1, omega (arith, e.2, x.ups, x.downs, y.ups, y.downs));
    }
same_weight s h (lolli a b) =
    let x = same_weight s h a in
    let y = same_weight s h b in
    record {
      ups = omega (arith, x.downs, y.ups);
      downs = omega (arith, x.ups, y.downs);
      evens = λ e. (x.evens e.0, y.evens e.1);
    }
same_weight s h (implies a b) =
    let x = same_weight s h a in
    let y = same_weight s h b in
    record {
      ups = y.ups;
      downs = y.downs;
      evens = λ e. (x.evens e.0, y.evens e.1, omega (arith, e.2, x.ups, x.downs));
    }
same_weight s h (bang a) =
    let x = same_weight s h a in
    record { ups = x.ups; downs = x.downs; evens = λ e. (x.evens e.0, omega (arith, e.1, x.ups, x.downs)) }
same_weight s h (at a i) = let x = same_weight s h a in record { ups = x.ups; downs = x.downs; evens = x.evens }
same_weight s h (says k a) = let x = same_weight s h a in record { ups = x.ups; downs = x.downs; evens = x.evens }
same_weight s h (superset i j) = record { ups = refl; downs = refl; evens = λ e. e }
same_weight s h (for_every a) = record { ups = refl; downs = refl; evens = λ e. e }

pub holders : Holders
holders h a = record {
  nowhere = nowhere h a;
  zero = no_holder a;
  everywhere = λ l. everywhere h l a;
  weights = λ s.
      let w = same_weight s h a in
      weight_parts s (with_holder h a)
      ∙ (less_eq (up s (with_holder h a)) (down s (with_holder h a)) (up s a) (down s a)).1
      (omega (arith, w.ups, w.downs))
      ∙ sym (weight_parts s a);
  weighed = λ s e. (even_is s (with_holder h a)).1 ((same_weight s h a).evens ((even_is s a).0 e));
}

-- A set that has one label and has label k is just k.
use mathlib.Core.Path.{◌≡◌, refl, sym, ap, ◌∙◌}
use mathlib.Core.Bool.{Bool, true, false, ◌&&◌, true≢false}
use Prim.Native.Nat.{ℕ, zero, suc, ◌+◌, ◌*◌, ◌/◌, ◌%◌, ◌^◌, ◌≤◌}
use native.Mathlib.Omega.{arith}
use native.Mathlib.Nat.{div-add-mod', mod-lt}
use lib.Dec.{eqb}
use lib.Pow.{pow_pos}
use lib.Count.{ones, ones_step, ones_cat}
use borrow.Author.Tests.{eqb-true, eqb-false, eq-eqb, ne_eqb}
use Rattle.labels.specs.Labels.{member, is_just, ◌∋◌}
use Rattle.labels.proofs.Sets.{only_member}

-- no label: the empty set
none : (f n : ℕ) → n ≤ f → ones n ≡ 0 → n ≡ 0
none zero n le e = omega arith
none (suc f) n le e =
    let s = ones_step n in
    omega (arith, none f (n / 2) (omega arith) (omega arith))

just : (d k : ℕ) → ones d ≡ 1 → d ∋ k → d ≡ 2 ^ k
just d k o h =
    let q = d / 2 ^ k in
    let r = d % 2 ^ k in
    let e : q * 2 ^ k + r ≡ d = div-add-mod' d (2 ^ k) in
    let c : ones d ≡ ones q + ones r = ap ones (sym e) ∙ ones_cat k q r (mod-lt d (pow_pos k)) in
    let b : q % 2 ≡ 1 = eqb-true _ _ h in
    let zq : q / 2 ≡ 0 = none (q / 2) (q / 2) (omega arith) (omega (arith, ones_step q)) in
    let zr : r ≡ 0 = none r r (omega arith) (omega (arith, ones_step q)) in
    let q1 : q ≡ 1 = omega arith in
    sym e ∙ ap (λ (n : ℕ). n * 2 ^ k + r) q1 ∙ (omega arith)

ones_only : (k : ℕ) → ones (2 ^ k) ≡ 1
unfolding ones
ones_only k =
    let e : 2 ^ k ≡ 1 * 2 ^ k + 0 = omega arith in
    ap ones e ∙ ones_cat k 1 0 (pow_pos k)

pub single : (d k : ℕ) → eqb (ones d) 1 && member d k ≡ is_just d k
single d k = go (eqb (ones d) 1) (member d k) refl refl
  where
    go : (a b : Bool) → eqb (ones d) 1 ≡ a → member d k ≡ b → a && b ≡ is_just d k
    go true true p q = sym (eq-eqb _ _ (just d k (eqb-true _ _ p) q))
    go true false p q = sym (ne_eqb _ _ (λ e. true≢false (sym (only_member d k e) ∙ q)))
    go false b p q = sym (ne_eqb _ _ (λ e. eqb-false _ _ p (ap ones e ∙ ones_only k)))

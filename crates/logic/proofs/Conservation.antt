-- What a derivation conserves, for a session left general.
use mathlib.Core.Path.{◌≡◌, refl, sym, ◌∙◌}
use mathlib.Core.List.{List}
use Prim.Native.Nat.{ℕ, ◌+◌}
use native.Mathlib.Omega.{arith}
use Rattle.logic.specs.Multiset.{Every, sum}
use Rattle.logic.specs.Derives.{Hyp, Judgment, Derives, same, ax, cp, tr, tl, or, ol, wr, w1, w2, p1, p2, pl}
use Rattle.logic.specs.Derives.{ll, ul, br, bl, hr, hl, sr, af, sl, gr, al}
use Rattle.logic.specs.Counts.{up, down}
use Rattle.logic.specs.Statements.{subject, Conservation}
use Rattle.logic.proofs.Multisets.{perm_sym, perm_sum, append_sum, perm_every, every_left, every_right}
use Rattle.logic.proofs.Multisets.{every_member, every_map}
use Rattle.logic.proofs.Weights.{Level, Even, ups, downs, weight_parts, total_parts, less_eq, even_is}
use Rattle.logic.proofs.Weights.{balanced_is}
use Rattle.logic.proofs.Holders.{same_weight}

module _ (s : ℕ) where
  abbrev pub EvenHyp : Hyp → Type 0
  EvenHyp h = Even s h.formula

  abbrev pub BalancedHyp : Hyp → Type 0
  BalancedHyp h = Level s h.formula × Even s h.formula

  abbrev up_of : Hyp → ℕ
  up_of h = up s h.formula

  abbrev down_of : Hyp → ℕ
  down_of h = down s h.formula

  pub conserved : {R D : List Hyp} {g : Judgment} → Derives R D g
      → Every BalancedHyp R → Every EvenHyp D → Even s (subject g)
      → ups s D + down s (subject g) ≡ up s (subject g) + downs s D
  unfolding up sum
  conserved (same m n d) r e g =
      omega (
        arith,
        perm_sum up_of n,
        perm_sum down_of n,
        conserved d (perm_every BalancedHyp (perm_sym m) r) (perm_every EvenHyp (perm_sym n) e) g,
      )
  conserved (ax c) r e g = omega arith
  conserved (cp m d) r e g =
      let b = every_member BalancedHyp m r in omega (arith, b.0, conserved d r (b.1, e) g)
  conserved (tr {D = D} {E = E} d f) r e g =
      omega (
        arith,
        append_sum up_of D E,
        append_sum down_of D E,
        conserved d r (every_left EvenHyp D E e) g.0,
        conserved f r (every_right EvenHyp D E e) g.1,
      )
  conserved (tl d) r e g = omega (arith, conserved d r (e.0.0, (e.0.1, e.1)) g)
  conserved or r e g = refl
  conserved (ol d) r e g = omega (arith, conserved d r e.1 g)
  conserved (wr d f) r e g = conserved d r e g.0
  conserved (w1 d) r e g = conserved d r (e.0.0, e.1) g
  conserved (w2 d) r e g = omega (arith, e.0.2, conserved d r (e.0.1, e.1) g)
  conserved (p1 d) r e g = conserved d r e g.0
  conserved (p2 d) r e g = omega (arith, g.2, conserved d r e g.1)
  conserved (pl d f) r e g = conserved d r (e.0.0, e.1) g
  conserved (ll {D = D} {E = E} o c d f) r e g =
      omega (
        arith,
        append_sum up_of D E,
        append_sum down_of D E,
        conserved d r (every_left EvenHyp D E e.1) e.0.0,
        conserved f r (e.0.1, every_right EvenHyp D E e.1) g,
      )
  conserved (ul o c d f) r e g = conserved f r (e.0.1, e.1) g
  conserved (br d) r e g = conserved d r tt g.0
  conserved (bl d) r e g = omega (arith, e.0.1, conserved d ((e.0.1, e.0.0), r) e.1 g)
  conserved (hr d) r e g = conserved d r e g
  conserved (hl d) r e g = conserved d r (e.0, e.1) g
  conserved (sr d) r e g = conserved d r e g
  conserved (af d) r e g = conserved d r e g
  conserved (sl c d) r e g = conserved d r (e.0, e.1) g
  conserved (gr c) r e g = refl
  conserved (al {a = a} {h = h} n d) r e g =
      let w = same_weight s h a in omega (arith, w.ups, w.downs, conserved d r (w.evens e.0, e.1) g)

pub conservation : Conservation
conservation s R D g x r d w =
    let c = conserved s x
    (every_map (λ h. (balanced_is s h.formula).0) R r)
    (every_map (λ h. (even_is s h.formula).0) D d)
    ((even_is s (subject g)).0 w) in
    total_parts s D
    ∙ (less_eq (ups s D) (downs s D) (up s (subject g)) (down s (subject g))).1 c
    ∙ sym (weight_parts s (subject g))

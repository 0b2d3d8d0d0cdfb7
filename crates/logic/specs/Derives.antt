-- Derivations: the ground rules of document 01 over hypotheses as multisets, in the form of Figure 1 and Appendix A of
-- the report (source document 000), without labels, shares or tables. Names are those of the step letters.
use mathlib.Core.List.{List, [], ◌∷◌, ◌++◌, Memᴰ}
use Rattle.std.proofs.Math.Option.{Option}
use Rattle.std.specs.Prelude.{ℕ, ◌+◌, length}
use Rattle.logic.specs.declared.Interval.{Interval}
use Rattle.logic.specs.Interval.{Window, ◌⊇◌, WellFormed}
use Rattle.logic.specs.Formula.{Formula, atom, one, tensor, with, plus, lolli, implies, bang, at, says}
use Rattle.logic.specs.Formula.{superset, for_every, IsHolder, with_holder}
use Rattle.logic.specs.Multiset.{Perm}

-- a hypothesis A[I]
pub record Hyp : Type 0 where
  pub formula : Formula
  pub interval : Window

infix 90 ◌⟦◌⟧
abbrev pub ◌⟦◌⟧ : Formula → Window → Hyp
◌⟦◌⟧ a i = record { formula = a; interval = i }

-- The right side of a sequent (document 01: a goal): "A at I", or "K affirms A at I".
pub data Judgment : Type 0 where
  holds : Formula → Window → Judgment
  affirms : ℕ → Formula → Window → Judgment

-- Derives R D g: g from the unrestricted hypotheses R (document 01: standing), used as often as wanted, and the linear
-- hypotheses D (single-use), each used just once. `same` leaves the order of hypotheses free and is no use of a rule.
-- The interval J that `ll` and `ul` choose is one: "A window from..to needs from ≤ to", and its break is 0,0 or
-- strictly inside. `al` "uses `q` at one named holder, 1 to 65,535, as ∀L of document 000 does": ∀ over holders, at
-- holder h, is its part after h is put in; "no step proves a `q`".
pub data Derives : List Hyp → List Hyp → Judgment → Type 0 where
  same : {R S D E : List Hyp} {g : Judgment} → Perm R S → Perm D E → Derives R D g → Derives S E g
  ax : {R : List Hyp} {p s : ℕ} {o : Option ℕ} {i j : Window}
      → i ⊇ j → Derives R (atom p s o ⟦ i ⟧ ∷ []) (holds (atom p s o) j)
  cp : {R D : List Hyp} {h : Hyp} {g : Judgment} → Memᴰ h R → Derives R (h ∷ D) g → Derives R D g
  tr : {R D E : List Hyp} {a b : Formula} {i : Window}
      → Derives R D (holds a i) → Derives R E (holds b i) → Derives R (D ++ E) (holds (tensor a b) i)
  tl : {R D : List Hyp} {a b : Formula} {i : Window} {g : Judgment}
      → Derives R (a ⟦ i ⟧ ∷ b ⟦ i ⟧ ∷ D) g → Derives R (tensor a b ⟦ i ⟧ ∷ D) g
  or : {R : List Hyp} {i : Window} → Derives R [] (holds one i)
  ol : {R D : List Hyp} {i : Window} {g : Judgment} → Derives R D g → Derives R (one ⟦ i ⟧ ∷ D) g
  wr : {R D : List Hyp} {a b : Formula} {i : Window}
      → Derives R D (holds a i) → Derives R D (holds b i) → Derives R D (holds (with a b) i)
  w1 : {R D : List Hyp} {a b : Formula} {i : Window} {g : Judgment}
      → Derives R (a ⟦ i ⟧ ∷ D) g → Derives R (with a b ⟦ i ⟧ ∷ D) g
  w2 : {R D : List Hyp} {a b : Formula} {i : Window} {g : Judgment}
      → Derives R (b ⟦ i ⟧ ∷ D) g → Derives R (with a b ⟦ i ⟧ ∷ D) g
  p1 : {R D : List Hyp} {a b : Formula} {i : Window} → Derives R D (holds a i) → Derives R D (holds (plus a b) i)
  p2 : {R D : List Hyp} {a b : Formula} {i : Window} → Derives R D (holds b i) → Derives R D (holds (plus a b) i)
  pl : {R D : List Hyp} {a b : Formula} {i : Window} {g : Judgment}
      → Derives R (a ⟦ i ⟧ ∷ D) g → Derives R (b ⟦ i ⟧ ∷ D) g → Derives R (plus a b ⟦ i ⟧ ∷ D) g
  ll : {R D E : List Hyp} {a b : Formula} {i j : Window} {g : Judgment}
      → WellFormed j → i ⊇ j → Derives R D (holds a j) → Derives R (b ⟦ j ⟧ ∷ E) g
      → Derives R (lolli a b ⟦ i ⟧ ∷ (D ++ E)) g
  ul : {R D : List Hyp} {a b : Formula} {i j : Window} {g : Judgment}
      → WellFormed j → i ⊇ j → Derives R [] (holds a j) → Derives R (b ⟦ j ⟧ ∷ D) g
      → Derives R (implies a b ⟦ i ⟧ ∷ D) g
  br : {R : List Hyp} {a : Formula} {i : Window} → Derives R [] (holds a i) → Derives R [] (holds (bang a) i)
  bl : {R D : List Hyp} {a : Formula} {i : Window} {g : Judgment}
      → Derives (a ⟦ i ⟧ ∷ R) D g → Derives R (bang a ⟦ i ⟧ ∷ D) g
  hr : {R D : List Hyp} {a : Formula} {i : Window} {j : Interval}
      → Derives R D (holds a j) → Derives R D (holds (at a j) i)
  hl : {R D : List Hyp} {a : Formula} {i : Window} {j : Interval} {g : Judgment}
      → Derives R (a ⟦ j ⟧ ∷ D) g → Derives R (at a j ⟦ i ⟧ ∷ D) g
  sr : {R D : List Hyp} {k : ℕ} {a : Formula} {i : Window}
      → Derives R D (affirms k a i) → Derives R D (holds (says k a) i)
  af : {R D : List Hyp} {k : ℕ} {a : Formula} {i : Window}
      → Derives R D (holds a i) → Derives R D (affirms k a i)
  sl : {R D : List Hyp} {k : ℕ} {a b : Formula} {i j : Window}
      → i ⊇ j → Derives R (a ⟦ i ⟧ ∷ D) (affirms k b j) → Derives R (says k a ⟦ i ⟧ ∷ D) (affirms k b j)
  gr : {R : List Hyp} {i j : Interval} {k : Window} → i ⊇ j → Derives R [] (holds (superset i j) k)
  al : {R D : List Hyp} {a : Formula} {i : Window} {g : Judgment} {h : ℕ}
      → IsHolder h → Derives R (with_holder h a ⟦ i ⟧ ∷ D) g → Derives R (for_every a ⟦ i ⟧ ∷ D) g

-- The rules by their step letters; `ll` and `ul` with the interval J that they choose, `al` with the holder.
pub data Letter : Type 0 where
  ax cp tr tl or ol wr w1 w2 p1 p2 pl : Letter
  ll ul : Window → Letter
  br bl hr hl sr af sl gr : Letter
  al : ℕ → Letter

-- The rules that a derivation uses, in the order of step lines: "first comes the whole of the first premise, then the
-- whole of the second."
unfoldable pub letters : {R D : List Hyp} {g : Judgment} → Derives R D g → List Letter
letters (Derives.same m n d) = letters d
letters (Derives.ax c) = Letter.ax ∷ []
letters (Derives.cp m d) = Letter.cp ∷ letters d
letters (Derives.tr d e) = Letter.tr ∷ (letters d ++ letters e)
letters (Derives.tl d) = Letter.tl ∷ letters d
letters Derives.or = Letter.or ∷ []
letters (Derives.ol d) = Letter.ol ∷ letters d
letters (Derives.wr d e) = Letter.wr ∷ (letters d ++ letters e)
letters (Derives.w1 d) = Letter.w1 ∷ letters d
letters (Derives.w2 d) = Letter.w2 ∷ letters d
letters (Derives.p1 d) = Letter.p1 ∷ letters d
letters (Derives.p2 d) = Letter.p2 ∷ letters d
letters (Derives.pl d e) = Letter.pl ∷ (letters d ++ letters e)
letters (Derives.ll {j = j} o c d e) = Letter.ll j ∷ (letters d ++ letters e)
letters (Derives.ul {j = j} o c d e) = Letter.ul j ∷ (letters d ++ letters e)
letters (Derives.br d) = Letter.br ∷ letters d
letters (Derives.bl d) = Letter.bl ∷ letters d
letters (Derives.hr d) = Letter.hr ∷ letters d
letters (Derives.hl d) = Letter.hl ∷ letters d
letters (Derives.sr d) = Letter.sr ∷ letters d
letters (Derives.af d) = Letter.af ∷ letters d
letters (Derives.sl c d) = Letter.sl ∷ letters d
letters (Derives.gr c) = Letter.gr ∷ []
letters (Derives.al {h = h} n d) = Letter.al h ∷ letters d

-- the uses of rules
abbrev pub uses : {R D : List Hyp} {g : Judgment} → Derives R D g → ℕ
uses x = length (letters x)

-- The labels taken: "Each part that replaces L, each copy and each part that joins R takes one."
unfoldable pub taken : {R D : List Hyp} {g : Judgment} → Derives R D g → ℕ
taken (Derives.same m n d) = taken d
taken (Derives.ax c) = 0
taken (Derives.cp m d) = 1 + taken d
taken (Derives.tr d e) = taken d + taken e
taken (Derives.tl d) = 2 + taken d
taken Derives.or = 0
taken (Derives.ol d) = taken d
taken (Derives.wr d e) = taken d + taken e
taken (Derives.w1 d) = 1 + taken d
taken (Derives.w2 d) = 1 + taken d
taken (Derives.p1 d) = taken d
taken (Derives.p2 d) = taken d
taken (Derives.pl d e) = 2 + (taken d + taken e)
taken (Derives.ll o c d e) = 1 + (taken d + taken e)
taken (Derives.ul o c d e) = 1 + (taken d + taken e)
taken (Derives.br d) = taken d
taken (Derives.bl d) = 1 + taken d
taken (Derives.hr d) = taken d
taken (Derives.hl d) = 1 + taken d
taken (Derives.sr d) = taken d
taken (Derives.af d) = taken d
taken (Derives.sl c d) = 1 + taken d
taken (Derives.gr c) = 0
taken (Derives.al n d) = 1 + taken d

-- The sessions of a line's atoms lie between two numbers where those of its parts do.
use mathlib.Core.Path.{◌≡◌, refl, sym, ap}
use mathlib.Core.Logic.{◌⊎◌, inl, inr}
use mathlib.Core.Bool.{Bool, true, false, ◌&&◌}
use Prim.Native.Nat.{ℕ, ◌<◌}
use native.Mathlib.Omega.{arith}
use lib.Dec.{eqb}
use borrow.Author.Tests.{ne_eqb}
use Rattle.logic.proofs.Tests.{no_truth}
use Rattle.logic.specs.Formula.{Formula, count, bit}
use Rattle.logic.specs.Span.{Spans}
use Rattle.logic.specs.Multiset.{Every}
use Rattle.request.specs.Request.{Line}
use Rattle.ledger.specs.Table.{form, names, row_of}
use Rattle.formula_parts.specs.Parts.{atomic}

-- an atom of another session
apart : (t s : ℕ) → (s < t) ⊎ (t < s) → t ≡ s → ⊥
apart t s (inl h) e = omega arith
apart t s (inr h) e = omega arith

atom_none : (x : Bool) (t s : ℕ) → (t ≡ s → ⊥) → bit (x && eqb t s) ≡ 0
atom_none true t s h = ap bit (ne_eqb t s h)
atom_none false t s h = refl

module _ (T : ℕ → Formula) where
  pub atom_line : (l : Line) → atomic (row_of l).letter ≡ true → Spans (form T l) (row_of l).b (row_of l).b
  unfolding count
  atom_line (Line.atom p t) e = λ q s o. atom_none (eqb p q) t s (apart t s o)
  atom_line Line.one e = λ q s o. refl
  atom_line (Line.tensor i j) e = absurd (no_truth e)
  atom_line (Line.with i j) e = absurd (no_truth e)
  atom_line (Line.plus i j) e = absurd (no_truth e)
  atom_line (Line.lolli i j) e = absurd (no_truth e)
  atom_line (Line.implies i j) e = absurd (no_truth e)
  atom_line (Line.bang i) e = absurd (no_truth e)
  atom_line (Line.at i w) e = absurd (no_truth e)
  atom_line (Line.says k i) e = absurd (no_truth e)
  atom_line (Line.superset v w) e = λ q s o. refl
  atom_line (Line.named p t k) e = λ q s o. atom_none (eqb p q) t s (apart t s o)
  atom_line (Line.for_every i) e = absurd (no_truth e)

  pub parts_line : (l : Line) (u v : ℕ) → atomic (row_of l).letter ≡ false → Every (λ k. Spans (T k) u v) (names l)
      → Spans (form T l) u v
  unfolding count
  parts_line (Line.atom p t) u v n e = absurd (no_truth (sym n))
  parts_line Line.one u v n e = λ q s o. refl
  parts_line (Line.tensor i j) u v n e = λ q s o. omega (arith, e.0 q s o, e.1.0 q s o)
  parts_line (Line.with i j) u v n e = λ q s o. omega (arith, e.0 q s o, e.1.0 q s o)
  parts_line (Line.plus i j) u v n e = λ q s o. omega (arith, e.0 q s o, e.1.0 q s o)
  parts_line (Line.lolli i j) u v n e = λ q s o. omega (arith, e.0 q s o, e.1.0 q s o)
  parts_line (Line.implies i j) u v n e = λ q s o. omega (arith, e.0 q s o, e.1.0 q s o)
  parts_line (Line.bang i) u v n e = λ q s o. e.0 q s o
  parts_line (Line.at i w) u v n e = λ q s o. e.0 q s o
  parts_line (Line.says k i) u v n e = λ q s o. e.0 q s o
  parts_line (Line.superset x y) u v n e = λ q s o. refl
  parts_line (Line.named p t k) u v n e = absurd (no_truth (sym n))
  parts_line (Line.for_every i) u v n e = λ q s o. e.0 q s o

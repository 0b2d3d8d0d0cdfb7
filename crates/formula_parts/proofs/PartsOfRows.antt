-- A row's parts are the numbers that its line names; size, plain and holders of the line's formula come from those of
-- its parts, the formulas T of these numbers.
use mathlib.Core.Path.{◌≡◌, refl, sym, ap, ◌∙◌}
use mathlib.Core.Bool.{Bool, false, ◌&&◌, ◌||◌, not, and-true, or-false}
use Prim.Native.Nat.{ℕ, ◌+◌}
use Prim.Native.Char.{code}
use native.Mathlib.Omega.{arith}
use lib.Dec.{eqb}
use Rattle.logic.specs.declared.Interval.{Interval}
use Rattle.logic.specs.Interval.{no_interval}
use Rattle.logic.specs.Formula.{Formula, size, plain, unbound, quantified}
use Rattle.logic.specs.Counts.{all_of}
use Rattle.logic.specs.Multiset.{sum}
use Rattle.request.specs.Request.{Line, line_intervals}
use Rattle.steps.specs.declared.Row.{Row}
use Rattle.ledger.specs.Table.{form, names, row_of}
use Rattle.ledger.specs.Checks.{any_of}
use Rattle.formula_parts.specs.Parts.{among, plains, parts_of}

pub parts_row : (l : Line) → parts_of (row_of l) ≡ names l
unfolding parts_of
parts_row (Line.atom p s) = refl
parts_row Line.one = refl
parts_row (Line.tensor i j) = refl
parts_row (Line.with i j) = refl
parts_row (Line.plus i j) = refl
parts_row (Line.lolli i j) = refl
parts_row (Line.implies i j) = refl
parts_row (Line.bang i) = refl
parts_row (Line.at i w) = refl
parts_row (Line.says k i) = refl
parts_row (Line.superset v w) = refl
parts_row (Line.named p s k) = refl
parts_row (Line.for_every i) = refl

-- a line's intervals are those of its row; one that it has not fails no test that `no_interval` passes
module _ (test : Interval → Bool) (none_passes : test no_interval ≡ false) where
  line_tested : (l : Line) → (test (row_of l).first || test (row_of l).second) ≡ any_of test (line_intervals l)
  unfolding any_of
  line_tested (Line.atom p s) = rw none_passes
  line_tested Line.one = rw none_passes
  line_tested (Line.tensor i j) = rw none_passes
  line_tested (Line.with i j) = rw none_passes
  line_tested (Line.plus i j) = rw none_passes
  line_tested (Line.lolli i j) = rw none_passes
  line_tested (Line.implies i j) = rw none_passes
  line_tested (Line.bang i) = rw none_passes
  line_tested (Line.at i w) = rw none_passes
  line_tested (Line.says k i) = rw none_passes
  line_tested (Line.superset v w) = ap (λ b. test v || b) (sym (or-false (test w)))
  line_tested (Line.named p s k) = rw none_passes
  line_tested (Line.for_every i) = rw none_passes

  pub row_tested : (x : Row) {r : Bool} → r ≡ (test x.first || test x.second)
      → (l : Line) → row_of l ≡ x → r ≡ any_of test (line_intervals l)
  row_tested x e l q = e ∙ rw (← q) (line_tested l)

-- f gives the parts' values
unfoldable pub size_row : (ℕ → ℕ) → Row → ℕ
size_row f r = 1 + sum f (parts_of r)

unfoldable pub plain_row : (ℕ → Bool) → Row → Bool
plain_row f r = among r.letter plains && all_of f (parts_of r)

-- "holder 0 outside `q`", and a `q`
unfoldable pub unbound_row : (ℕ → Bool) → Row → Bool
unbound_row f r =
    (eqb r.letter (code "n") && eqb r.holder 0)
    || (not (eqb r.letter (code "q")) && any_of f (parts_of r))

unfoldable pub quantified_row : (ℕ → Bool) → Row → Bool
quantified_row f r = eqb r.letter (code "q") || any_of f (parts_of r)

module _ (T : ℕ → Formula) where
  pub size_row_holds : (l : Line) → size (form T l) ≡ size_row (λ k. size (T k)) (row_of l)
  unfolding size size_row parts_of sum
  size_row_holds (Line.atom p s) = refl
  size_row_holds Line.one = refl
  size_row_holds (Line.tensor i j) = omega arith
  size_row_holds (Line.with i j) = omega arith
  size_row_holds (Line.plus i j) = omega arith
  size_row_holds (Line.lolli i j) = omega arith
  size_row_holds (Line.implies i j) = omega arith
  size_row_holds (Line.bang i) = omega arith
  size_row_holds (Line.at i w) = omega arith
  size_row_holds (Line.says k i) = omega arith
  size_row_holds (Line.superset v w) = refl
  size_row_holds (Line.named p s k) = refl
  size_row_holds (Line.for_every i) = omega arith

  pub plain_row_holds : (l : Line) → plain (form T l) ≡ plain_row (λ k. plain (T k)) (row_of l)
  unfolding plain plain_row parts_of all_of
  plain_row_holds (Line.atom p s) = refl
  plain_row_holds Line.one = refl
  plain_row_holds (Line.tensor i j) = sym (simp and-true)
  plain_row_holds (Line.with i j) = refl
  plain_row_holds (Line.plus i j) = refl
  plain_row_holds (Line.lolli i j) = refl
  plain_row_holds (Line.implies i j) = refl
  plain_row_holds (Line.bang i) = refl
  plain_row_holds (Line.at i w) = refl
  plain_row_holds (Line.says k i) = sym (and-true _)
  plain_row_holds (Line.superset v w) = refl
  plain_row_holds (Line.named p s k) = refl
  plain_row_holds (Line.for_every i) = refl

  pub unbound_row_holds : (l : Line) → unbound (form T l) ≡ unbound_row (λ k. unbound (T k)) (row_of l)
  unfolding unbound unbound_row parts_of any_of
  unbound_row_holds (Line.atom p s) = refl
  unbound_row_holds Line.one = refl
  unbound_row_holds (Line.tensor i j) = sym (simp or-false)
  unbound_row_holds (Line.with i j) = sym (simp or-false)
  unbound_row_holds (Line.plus i j) = sym (simp or-false)
  unbound_row_holds (Line.lolli i j) = sym (simp or-false)
  unbound_row_holds (Line.implies i j) = sym (simp or-false)
  unbound_row_holds (Line.bang i) = sym (or-false _)
  unbound_row_holds (Line.at i w) = sym (or-false _)
  unbound_row_holds (Line.says k i) = sym (or-false _)
  unbound_row_holds (Line.superset v w) = refl
  unbound_row_holds (Line.named p s k) = sym (or-false _)
  unbound_row_holds (Line.for_every i) = refl

  pub quantified_row_holds : (l : Line) → quantified (form T l) ≡ quantified_row (λ k. quantified (T k)) (row_of l)
  unfolding quantified quantified_row parts_of any_of
  quantified_row_holds (Line.atom p s) = refl
  quantified_row_holds Line.one = refl
  quantified_row_holds (Line.tensor i j) = sym (simp or-false)
  quantified_row_holds (Line.with i j) = sym (simp or-false)
  quantified_row_holds (Line.plus i j) = sym (simp or-false)
  quantified_row_holds (Line.lolli i j) = sym (simp or-false)
  quantified_row_holds (Line.implies i j) = sym (simp or-false)
  quantified_row_holds (Line.bang i) = sym (or-false _)
  quantified_row_holds (Line.at i w) = sym (or-false _)
  quantified_row_holds (Line.says k i) = sym (or-false _)
  quantified_row_holds (Line.superset v w) = refl
  quantified_row_holds (Line.named p s k) = refl
  quantified_row_holds (Line.for_every i) = refl

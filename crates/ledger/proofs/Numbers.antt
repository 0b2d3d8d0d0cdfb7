-- Numbers of equal lines, and of equal formulas: "no two lines equal, so equal number means equal formula".
use mathlib.Core.Path.{◌≡◌, refl, sym, ap, ap₂, ◌∙◌}
use mathlib.Core.List.{List, [], ◌∷◌, ◌++◌, map}
use mathlib.Core.Bool.{Bool, true, false}
use Prim.Native.Nat.{ℕ, zero, suc, ◌<◌}
use native.Mathlib.Omega.{arith}
use lib.Dec.{eqb}
use lib.ListN.{length, get_or, length-append}
use borrow.Author.Tests.{eqb-true, eqb-false}
use Rattle.logic.specs.declared.Interval.{Interval}
use Rattle.logic.specs.Interval.{no_interval}
use mathlib.Core.Option.{none, some}
use Rattle.logic.specs.Formula.{Formula, atom, one, tensor, with, plus, lolli, implies, bang, at, says, superset}
use Rattle.logic.specs.Formula.{for_every, size}
use Rattle.logic.specs.Multiset.{Every}
use Rattle.logic.proofs.Tests.{no_truth}
use Rattle.logic.proofs.Multisets.{every_map}
use Rattle.request.specs.Request.{Line}
use Rattle.steps.specs.declared.Row.{Row}
use Rattle.steps.specs.Unroll.{letter}
use Rattle.ledger.specs.Table.{form, names, row_of}
use Rattle.ledger.specs.Rows.{line_of}
use Rattle.ledger.specs.Ledger.{Ledger, formula}
use Rattle.ledger.specs.Checks.{any_of, same_line}
use Rattle.ledger.specs.Bounds.{line_at, There, Tabled}
use Rattle.ledger.proofs.Credentials.{any_none}
use Rattle.ledger.proofs.FormulaTable.{get_d_snoc}
use Rattle.ledger.proofs.SameLines.{line_of_row, same_line_holds}

-- no two of the lines are equal
abbrev pub Apart : List Line → Type 0
Apart ls =
    (m n : ℕ) → m < length ls → n < length ls → get_or ls m Line.one ≡ get_or ls n Line.one → m ≡ n

every_at : {A : Type 0} (P : A → Type 0) (xs : List A) (d : A) (n : ℕ) → Every P xs → n < length xs → P (get_or xs n d)
every_at P [] d n h l = absurd (omega arith)
every_at P (x ∷ xs) d zero h l = h.0
every_at P (x ∷ xs) d (suc n) h l = every_at P xs d n h.1 (omega arith)

pub apart_snoc : (ls : List Line) (l : Line) → Apart ls → any_of (same_line l) ls ≡ false → Apart (ls ++ (l ∷ []))
apart_snoc ls l a h m n lm ln e =
    go (eqb m (length ls)) refl (eqb n (length ls)) refl
    (sym (get_d_snoc ls l Line.one m) ∙ e ∙ get_d_snoc ls l Line.one n)
  where
    clash : (k : ℕ) → k < length ls → l ≡ get_or ls k Line.one → ⊥
    clash k q c =
        no_truth (sym (every_at _ ls Line.one k (any_none (same_line l) ls h) q) ∙ (same_line_holds l _).1 c)

    inside : (k : ℕ) → eqb k (length ls) ≡ false → k < length (ls ++ (l ∷ [])) → k < length ls
    inside k q c = omega (arith, eqb-false k (length ls) q, length-append ls (l ∷ []))

    go : (x : Bool) → eqb m (length ls) ≡ x → (y : Bool) → eqb n (length ls) ≡ y
        → ◌≡◌ {A = Line} (elim x as (λ z. Line) [ true ↦ l | false ↦ get_or ls m Line.one ])
        (elim y as (λ z. Line) [ true ↦ l | false ↦ get_or ls n Line.one ])
        → m ≡ n
    go true p true q c = eqb-true _ _ p ∙ sym (eqb-true _ _ q)
    go true p false q c = absurd (clash n (inside n q ln) c)
    go false p true q c = absurd (clash m (inside m p lm) (sym c))
    go false p false q c = a m n (inside m p lm) (inside n q ln) c

-- A formula gives its line again, but for the numbers of its parts

abbrev numbers : Formula → List ℕ
numbers (atom p s o) = p ∷ s ∷ []
numbers one = []
numbers (tensor a b) = []
numbers (with a b) = []
numbers (plus a b) = []
numbers (lolli a b) = []
numbers (implies a b) = []
numbers (bang a) = []
numbers (at a i) = []
numbers (says k a) = k ∷ []
numbers (superset i j) = []
numbers (for_every a) = []

abbrev windows : Formula → List Interval
windows (atom p s o) = []
windows one = []
windows (tensor a b) = []
windows (with a b) = []
windows (plus a b) = []
windows (lolli a b) = []
windows (implies a b) = []
windows (bang a) = []
windows (at a i) = i ∷ []
windows (says k a) = []
windows (superset i j) = i ∷ j ∷ []
windows (for_every a) = []

abbrev parts : Formula → List Formula
parts (atom p s o) = []
parts one = []
parts (tensor a b) = a ∷ b ∷ []
parts (with a b) = a ∷ b ∷ []
parts (plus a b) = a ∷ b ∷ []
parts (lolli a b) = a ∷ b ∷ []
parts (implies a b) = a ∷ b ∷ []
parts (bang a) = a ∷ []
parts (at a i) = a ∷ []
parts (says k a) = a ∷ []
parts (superset i j) = []
parts (for_every a) = a ∷ []

abbrev holder_in_holds : Formula → ℕ
holder_in_holds (atom p s none) = 0
holder_in_holds (atom p s (some h)) = h
holder_in_holds one = 0
holder_in_holds (tensor a b) = 0
holder_in_holds (with a b) = 0
holder_in_holds (plus a b) = 0
holder_in_holds (lolli a b) = 0
holder_in_holds (implies a b) = 0
holder_in_holds (bang a) = 0
holder_in_holds (at a i) = 0
holder_in_holds (says k a) = 0
holder_in_holds (superset i j) = 0
holder_in_holds (for_every a) = 0

-- the row, where its parts have these numbers
abbrev row_from : Formula → List ℕ → Row
row_from a ns = record {
  letter = letter a;
  a = get_or (numbers a ++ ns) 0 0;
  b = get_or (numbers a ++ ns) 1 0;
  holder = holder_in_holds a;
  first = get_or (windows a) 0 no_interval;
  second = get_or (windows a) 1 no_interval;
}

-- what is read off the formula of a line: its row, the formulas that it names, and that these are smaller
record ReadOff (T : ℕ → Formula) (l : Line) : Type 0 where
  row : row_of l ≡ row_from (form T l) (names l)
  named : parts (form T l) ≡ map T (names l)
  less : Every (λ i. size (T i) < size (form T l)) (names l)

read_off : (T : ℕ → Formula) (l : Line) → ReadOff T l
unfolding size
read_off T (Line.atom p s) = record { row = refl; named = refl; less = tt }
read_off T Line.one = record { row = refl; named = refl; less = tt }
read_off T (Line.tensor i j) = record { row = refl; named = refl; less = (omega arith, (omega arith, tt)) }
read_off T (Line.with i j) = record { row = refl; named = refl; less = (omega arith, (omega arith, tt)) }
read_off T (Line.plus i j) = record { row = refl; named = refl; less = (omega arith, (omega arith, tt)) }
read_off T (Line.lolli i j) = record { row = refl; named = refl; less = (omega arith, (omega arith, tt)) }
read_off T (Line.implies i j) = record { row = refl; named = refl; less = (omega arith, (omega arith, tt)) }
read_off T (Line.bang i) = record { row = refl; named = refl; less = (omega arith, tt) }
read_off T (Line.at i w) = record { row = refl; named = refl; less = (omega arith, tt) }
read_off T (Line.says k i) = record { row = refl; named = refl; less = (omega arith, tt) }
read_off T (Line.superset v w) = record { row = refl; named = refl; less = tt }
read_off T (Line.named p s k) = record { row = refl; named = refl; less = tt }
read_off T (Line.for_every i) = record { row = refl; named = refl; less = (omega arith, tt) }

module _ (t : Ledger) (b : Tabled t) (a : Apart t.lines) where
  abbrev T : ℕ → Formula
  T = formula t

  -- numbers of equal formulas of size less than f are equal
  abbrev OneTo : ℕ → Type 0
  OneTo f =
      (m n : ℕ) → size (T m) < f → m < length t.lines → n < length t.lines → T m ≡ T n → m ≡ n

  same_names : (f : ℕ) → OneTo f → (ms ns : List ℕ) → Every (λ i. size (T i) < f) ms → There t ms → There t ns
      → map T ms ≡ map T ns → ms ≡ ns
  same_names f h [] [] z p q e = refl
  same_names f h [] (n ∷ ns) z p q e = absurd (let x : ◌≡◌ {A = ℕ} 0 1 = cc in omega arith)
  same_names f h (m ∷ ms) [] z p q e = absurd (let x : ◌≡◌ {A = ℕ} 0 1 = cc in omega arith)
  same_names f h (m ∷ ms) (n ∷ ns) z p q e =
      ap₂ ◌∷◌ (h m n z.0 p.0 q.0 (cc)) (same_names f h ms ns z.1 p.1 q.1 (cc))

  pub one_number : (f : ℕ) → OneTo f
  one_number zero m n z lm ln e = absurd (omega arith)
  one_number (suc f) m n z lm ln e =
      let l = line_at t m in
      let k = line_at t n in
      let x = read_off T l in
      let y = read_off T k in
      let w : form T l ≡ form T k = sym (b.reads m) ∙ e ∙ b.reads n in
      let small : Every (λ i. size (T i) < f) (names l) =
      every_map (λ i h. omega (arith, ap size (b.reads m))) (names l) x.less in
      let ns : names l ≡ names k = same_names f (one_number f) (names l) (names k) small (b.refs m) (b.refs n)
      (sym x.named ∙ ap parts w ∙ y.named) in
      let r : row_of l ≡ row_of k = x.row ∙ ap₂ row_from w ns ∙ sym y.row in
      a m n lm ln (sym (line_of_row l) ∙ ap line_of r ∙ line_of_row k)

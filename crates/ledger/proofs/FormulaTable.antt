-- The table of formulas when a line is added: each formula is that of its line, over the formulas of the same table.
use mathlib.Core.Path.{◌≡◌, refl, sym, ap, ap₂, subst, ◌∙◌}
use mathlib.Core.List.{List, [], ◌∷◌, ◌++◌}
use mathlib.Core.Bool.{Bool, true, false}
use Prim.Native.Nat.{ℕ, zero, suc, ◌+◌, ◌<◌}
use native.Mathlib.Omega.{arith}
use lib.Dec.{eqb, eqb-zero-suc, eqb-suc-zero, eqb-suc-suc}
use lib.ListN.{length, get_or, length-append}
use borrow.Author.Tests.{ne_eqb}
use Rattle.logic.specs.Formula.{Formula, one, tensor, with, plus, lolli, implies, bang, at, says, for_every}
use Rattle.logic.specs.Multiset.{Every}
use Rattle.logic.proofs.Multisets.{every_map}
use Rattle.request.specs.Request.{Line}
use Rattle.ledger.specs.Table.{form, names, nth, build, formulas}
use Rattle.ledger.specs.Ledger.{Ledger, formula}
use Rattle.ledger.specs.Calls.{with_line}
use Rattle.ledger.specs.Bounds.{line_at, There, Tabled}

build_snoc : (acc : List Formula) (ls : List Line) (l : Line)
    → build acc (ls ++ (l ∷ [])) ≡ build acc ls ++ (form (nth (build acc ls)) l ∷ [])
unfolding build
build_snoc acc [] l = refl
build_snoc acc (x ∷ ls) l = build_snoc (acc ++ (form (nth acc) x ∷ [])) ls l

build_length : (acc : List Formula) (ls : List Line) → length (build acc ls) ≡ length acc + length ls
unfolding build
build_length acc [] = omega arith
build_length acc (l ∷ ls) =
    omega (arith, build_length (acc ++ (form (nth acc) l ∷ [])) ls, length-append acc (form (nth acc) l ∷ []))

pub formulas_length : (ls : List Line) → length (formulas ls) ≡ length ls
unfolding formulas
formulas_length ls = omega (arith, build_length [] ls)

pub get_d_snoc : {A : Type 0} (T : List A) (a d : A) (n : ℕ)
    → get_or (T ++ (a ∷ [])) n d ≡ elim (eqb n (length T)) as (λ z. A) [ true ↦ a | false ↦ get_or T n d ]
get_d_snoc [] a d zero = refl
get_d_snoc [] a d (suc n) = rw (eqb-suc-zero n)
get_d_snoc (b ∷ T) a d zero = rw (eqb-zero-suc (length T))
get_d_snoc (b ∷ T) a d (suc n) = rw (eqb-suc-suc n (length T)) (get_d_snoc T a d n)

-- the formulas with one line more
pub formula_snoc : (t : Ledger) (l : Line) (n : ℕ)
    → formula (with_line t l) n
    ≡ elim (eqb n (length t.lines)) as (λ z. Formula) [ true ↦ form (formula t) l | false ↦ formula t n ]
unfolding formulas
formula_snoc t l n =
    ap (λ (T : List Formula). nth T n) (build_snoc [] t.lines l)
    ∙ get_d_snoc (formulas t.lines) (form (formula t) l) one n
    ∙ ap (λ (k : ℕ). elim (eqb n k) as (λ z. Formula) [ true ↦ form (formula t) l | false ↦ formula t n ])
    (formulas_length t.lines)

pub formula_stays : (t : Ledger) (l : Line) (n : ℕ) → n < length t.lines → formula (with_line t l) n ≡ formula t n
formula_stays t l n le =
    formula_snoc t l n
    ∙ ap (λ (b : Bool). elim b as (λ z. Formula) [ true ↦ form (formula t) l | false ↦ formula t n ])
    (ne_eqb n _ (λ e. omega arith))

-- the formula of a line depends on the numbers that it names alone
form_agree : (f g : ℕ → Formula) (l : Line) → Every (λ k. f k ≡ g k) (names l) → form f l ≡ form g l
form_agree f g (Line.atom p s) h = refl
form_agree f g Line.one h = refl
form_agree f g (Line.tensor i j) h = ap₂ tensor h.0 h.1.0
form_agree f g (Line.with i j) h = ap₂ with h.0 h.1.0
form_agree f g (Line.plus i j) h = ap₂ plus h.0 h.1.0
form_agree f g (Line.lolli i j) h = ap₂ lolli h.0 h.1.0
form_agree f g (Line.implies i j) h = ap₂ implies h.0 h.1.0
form_agree f g (Line.bang i) h = ap bang h.0
form_agree f g (Line.at i w) h = ap (λ (a : Formula). at a w) h.0
form_agree f g (Line.says k i) h = ap (says k) h.0
form_agree f g (Line.superset v w) h = refl
form_agree f g (Line.named p s k) h = refl
form_agree f g (Line.for_every i) h = ap for_every h.0

pub line_tabled : (t : Ledger) (l : Line) → Tabled t → There t (names l) → Tabled (with_line t l)
line_tabled t l h r = record {
  reads = λ n. formula_snoc t l n ∙ go n (eqb n (length t.lines))
      ∙ sym (ap (form (formula (with_line t l))) (get_d_snoc t.lines l Line.one n));
  refs = λ n. subst (λ (k : Line). There (with_line t l) (names k)) (sym (get_d_snoc t.lines l Line.one n))
      (wider n (eqb n (length t.lines)));
}
  where
    stays : (k : Line) → There t (names k) → form (formula t) k ≡ form (formula (with_line t l)) k
    stays k r = form_agree _ _ k (every_map (λ i le. sym (formula_stays t l i le)) (names k) r)

    go : (n : ℕ) (b : Bool) → elim b as (λ z. Formula) [ true ↦ form (formula t) l | false ↦ formula t n ]
        ≡ form (formula (with_line t l)) (elim b as (λ z. Line) [ true ↦ l | false ↦ line_at t n ])
    go n true = stays l r
    go n false = h.reads n ∙ stays (line_at t n) (h.refs n)

    more : (k : Line) → There t (names k) → There (with_line t l) (names k)
    more k = every_map (λ i le. omega (arith, length-append t.lines (l ∷ []))) (names k)

    wider : (n : ℕ) (b : Bool)
        → There (with_line t l) (names (elim b as (λ z. Line) [ true ↦ l | false ↦ line_at t n ]))
    wider n true = more l r
    wider n false = more (line_at t n) (h.refs n)

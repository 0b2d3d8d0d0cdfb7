-- A sum over credentials is the sum, over formulas, of how often the formula occurs times its figure.
use mathlib.Core.Path.{◌≡◌, refl, sym, ap, ap₂, subst, ◌∙◌}
use mathlib.Core.List.{List, [], ◌∷◌}
use mathlib.Core.Bool.{Bool, true, false, not}
use Prim.Native.Nat.{ℕ, zero, suc, ◌+◌, ◌*◌, ◌-◌, ◌≤◌, ◌<◌}
use native.Mathlib.Omega.{arith}
use native.Mathlib.Nat.{add-mul, one-mul, zero-mul, mul-zero, mul-one}
use native.Mathlib.Decide.{dec_lt}
use lib.Dec.{eqb, ltb}
use lib.ListN.{length, get_or-eq_default}
use borrow.Author.Tests.{eqb-true, eqb-false, ne_eqb, eq-eqb, ltb-true, ltb-false}
use Rattle.logic.specs.Interval.{has}
use Rattle.logic.specs.Formula.{Formula, one, bit, count, seats, places, house_under, house_seats}
use Rattle.logic.specs.Multiset.{sum}
use Rattle.request.specs.declared.Kind.{Kind}
use Rattle.request.specs.declared.Kind.TheVariants.{Linear, Unrestricted}
use Rattle.ledger.specs.declared.Credential.{Credential}
use Rattle.ledger.specs.Table.{formulas}
use Rattle.ledger.specs.Ledger.{Ledger, formula, by_kind}
use Rattle.ledger.specs.Calls.{open_in, shut_in, open_seats, shut_seats, placed}
use Rattle.ledger.proofs.FormulaTable.{formulas_length}
use Rattle.formula_tally.specs.ByFormula.{with_of, without_of, singles_with, singles_without, sum_to, open_by, shut_by}
use Rattle.formula_tally.specs.ByFormula.{placed_by, ByFormula}
use Rattle.formula_tally.proofs.SumLaws.{to_same, to_plus, to_zero}

-- one formula's
miss : (v k n : ℕ) (x : ℕ) → (k ≡ n → ⊥) → (v * bit (eqb k n)) * x ≡ 0
miss v k n x h = ap (λ (b : Bool). (v * bit b) * x) (ne_eqb k n h) ∙ ap (◌* x) (mul-zero v) ∙ zero-mul x

hit : (v n : ℕ) (x : ℕ) → (v * bit (eqb n n)) * x ≡ v * x
hit v n x = ap (λ (b : Bool). (v * bit b) * x) (eq-eqb n n refl) ∙ ap (◌* x) (mul-one v)

below : (k n : ℕ) → k < suc n → (k ≡ n → ⊥) → k < n
below k n h d = go (ltb k n) refl
  where
    go : (b : Bool) → ltb k n ≡ b → k < n
    go true q = ltb-true k n q
    go false q = let l = ltb-false k n q in absurd (d (omega arith))

one_key : (v : ℕ) (f : ℕ → ℕ) (k n : ℕ) → k < n → sum_to n (λ j. (v * bit (eqb k j)) * f j) ≡ v * f k
unfolding sum_to
one_key v f k zero h = absurd (omega arith)
one_key v f k (suc n) h = go (eqb k n) refl (λ l. one_key v f k n l)
  where
    go : (b : Bool) → eqb k n ≡ b → (k < n → sum_to n (λ j. (v * bit (eqb k j)) * f j) ≡ v * f k)
        → sum_to n (λ j. (v * bit (eqb k j)) * f j) + (v * bit (eqb k n)) * f n ≡ v * f k
    go true q ih =
        let e = eqb-true k n q in
        let z = to_zero n (λ j. (v * bit (eqb k j)) * f j) (λ j l. miss v k j (f j) (λ d. omega arith)) in
        let w : (v * bit (eqb k n)) * f n ≡ v * f k =
        subst (λ (i : ℕ). (v * bit (eqb k i)) * f i ≡ v * f k) e (hit v k (f k)) in
        omega arith
    go false q ih =
        let d = eqb-false k n q in
        let w = miss v k n (f n) d in
        omega (arith, ih (below k n h d), w)

-- a weight u of each credential, and a figure f of formulas that a number past them does not have
module _ (u : Credential → ℕ) (f : ℕ → ℕ) (n : ℕ) (past : (k : ℕ) → n ≤ k → f k ≡ 0) where
  any_key : (v k : ℕ) → sum_to n (λ j. (v * bit (eqb k j)) * f j) ≡ v * f k
  any_key v k = go (dec_lt k n)
    where
      go : Dec (k < n) → sum_to n (λ j. (v * bit (eqb k j)) * f j) ≡ v * f k
      go (yes h) = one_key v f k n h
      go (no h) =
          to_zero n (λ j. (v * bit (eqb k j)) * f j) (λ j l. miss v k j (f j) (λ d. omega arith))
          ∙ sym (ap (v *◌) (past k (omega arith)) ∙ mul-zero v)

  pub by_key : (cs : List Credential)
      → sum (λ c. u c * f c.formula) cs ≡ sum_to n (λ k. sum (λ c. u c * bit (eqb c.formula k)) cs * f k)
  unfolding sum
  by_key [] = sym (to_zero n (λ k. 0 * f k) (λ k l. zero-mul (f k)))
  by_key (c ∷ cs) =
      ap₂ ◌+◌ (sym (any_key (u c) c.formula)) (by_key cs)
      ∙ sym (to_plus n (λ k. (u c * bit (eqb c.formula k)) * f k)
      (λ k. sum (λ c. u c * bit (eqb c.formula k)) cs * f k))
      ∙ to_same n _ _ (λ k l. sym (add-mul (u c * bit (eqb c.formula k)) _ (f k)))

sum_same : (f g : Credential → ℕ) → ((c : Credential) → f c ≡ g c) → (cs : List Credential) → sum f cs ≡ sum g cs
unfolding sum
sum_same f g e [] = refl
sum_same f g e (c ∷ cs) = ap₂ ◌+◌ (e c) (sum_same f g e cs)

sum_both : (f g h : Credential → ℕ) → ((c : Credential) → h c ≡ f c + g c) → (cs : List Credential)
    → sum h cs ≡ sum f cs + sum g cs
unfolding sum
sum_both f g h e [] = refl
sum_both f g h e (c ∷ cs) = omega (arith, e c, sum_both f g h e cs)

-- of a credential: 1 where it is linear and its interval has the minute, or has it not
abbrev has_one : ℕ → Credential → ℕ
has_one m c = by_kind c.kind (bit (has c.interval m)) 0

abbrev lacks_one : ℕ → Credential → ℕ
lacks_one m c = by_kind c.kind (bit (not (has c.interval m))) 0

open_is : (s : ℕ) (a : Formula) (k : Kind) (b : Bool) → by_kind k (open_in b s a) 0
    ≡ by_kind k (bit b) 0 * house_seats s a
open_is s a Linear true = sym (one-mul (house_seats s a))
open_is s a Linear false = sym (zero-mul (house_seats s a))
open_is s a Unrestricted b = sym (zero-mul (house_seats s a))

shut_is : (s : ℕ) (a : Formula) (k : Kind) (b : Bool) → by_kind k (shut_in b s a) 0
    ≡ by_kind k (bit b) 0 * (seats s a - house_seats s a) + by_kind k (bit (not b)) 0 * seats s a
shut_is s a Linear true = omega (arith, one-mul (seats s a - house_seats s a), zero-mul (seats s a))
shut_is s a Linear false = omega (arith, zero-mul (seats s a - house_seats s a), one-mul (seats s a))
shut_is s a Unrestricted b = omega (arith, zero-mul (seats s a - house_seats s a), zero-mul (seats s a))

places_is : (s : ℕ) (a : Formula) (k : Kind) (b : Bool) → by_kind k (places s a) 0
    ≡ by_kind k (bit b) 0 * places s a + by_kind k (bit (not b)) 0 * places s a
places_is s a Linear true = omega (arith, one-mul (places s a), zero-mul (places s a))
places_is s a Linear false = omega (arith, zero-mul (places s a), one-mul (places s a))
places_is s a Unrestricted b = omega (arith, zero-mul (places s a))

-- a number that no line has reads as 1, which has nothing
formula_past : (t : Ledger) (k : ℕ) → length t.lines ≤ k → formula t k ≡ one
formula_past t k le = get_or-eq_default (formulas t.lines) one {n = k} (omega (arith, formulas_length t.lines))

none_in_one : (s : ℕ) → (seats s one ≡ 0) × (places s one ≡ 0) × (house_seats s one ≡ 0)
unfolding count house_under
none_in_one s = (refl, refl, refl)

pub by_formula : ByFormula
unfolding open_seats shut_seats placed open_by shut_by placed_by singles_with singles_without with_of without_of
by_formula t s m =
    let n = length t.lines in
    let house : ℕ → ℕ = λ k. house_seats s (formula t k) in
    let seat : ℕ → ℕ = λ k. seats s (formula t k) in
    let other : ℕ → ℕ = λ k. seats s (formula t k) - house_seats s (formula t k) in
    let place : ℕ → ℕ = λ k. places s (formula t k) in
    let zero_seats : (k : ℕ) → n ≤ k → seat k ≡ 0 =
    λ k h. ap (seats s) (formula_past t k h) ∙ (none_in_one s).0 in
    let zero_house : (k : ℕ) → n ≤ k → house k ≡ 0 =
    λ k h. ap (house_seats s) (formula_past t k h) ∙ (none_in_one s).2 in
    let zero_other : (k : ℕ) → n ≤ k → other k ≡ 0 = λ k h. omega (arith, zero_seats k h) in
    let zero_places : (k : ℕ) → n ≤ k → place k ≡ 0 =
    λ k h. ap (places s) (formula_past t k h) ∙ (none_in_one s).1 in
    let cs = t.live in
    record {
      opens = sum_same _ (λ c. has_one m c * house c.formula) (λ c. open_is s _ c.kind (has c.interval m)) cs
          ∙ by_key (has_one m) house n zero_house cs;
      shuts = sum_both (λ c. has_one m c * other c.formula) (λ c. lacks_one m c * seat c.formula) _
          (λ c. shut_is s _ c.kind (has c.interval m)) cs
          ∙ ap₂ ◌+◌ (by_key (has_one m) other n zero_other cs) (by_key (lacks_one m) seat n zero_seats cs)
          ∙ sym (to_plus n _ _);
      places = sum_both (λ c. has_one m c * place c.formula) (λ c. lacks_one m c * place c.formula) _
          (λ c. places_is s _ c.kind (has c.interval m)) cs
          ∙ ap₂ ◌+◌ (by_key (has_one m) place n zero_places cs) (by_key (lacks_one m) place n zero_places cs)
          ∙ sym (to_plus n _ _)
          ∙ to_same n _ _ (λ k l. sym (add-mul _ _ (place k)));
    }

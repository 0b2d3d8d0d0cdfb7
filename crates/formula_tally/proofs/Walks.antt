-- The singles of a formula, along its chain.
use mathlib.Core.Path.{◌≡◌, refl, sym, ap, ◌∙◌}
use mathlib.Core.List.{List, [], ◌∷◌}
use mathlib.Core.Bool.{Bool, true, false, not}
use Prim.Native.Nat.{ℕ, suc, ◌+◌, ◌*◌, ◌-◌, ◌≤◌}
use native.Mathlib.Omega.{arith}
use native.Mathlib.Nat.{mul-zero, mul-one, zero-mul}
use lib.Dec.{eqb}
use lib.ListN.{length}
use borrow.Author.Tests.{eq-eqb, ne_eqb}
use Rattle.logic.specs.Interval.{has}
use Rattle.logic.specs.Formula.{bit}
use Rattle.logic.specs.Multiset.{sum}
use Rattle.logic.proofs.Multisets.{snoc_sum}
use Rattle.request.specs.declared.Kind.{Kind}
use Rattle.request.specs.declared.Kind.TheVariants.{Linear, Unrestricted}
use Rattle.ledger.specs.declared.Credential.{Credential}
use Rattle.ledger.specs.Ledger.{Ledger, by_kind}
use Rattle.ledger.specs.Calls.{only}
use Rattle.store_cells.specs.Layout.{row_count, credential_at, of_at}
use Rattle.store.specs.Tab.{tab}
use Rattle.store.specs.Chain.{last_of}
use Rattle.store.specs.Store.{ledger_of}
use Rattle.store.proofs.Tabs.{tab_snoc}
use Rattle.store.proofs.Live.{live_sum}
use Rattle.store.proofs.Chains.{last_le, last_of_holds, last_sum}
use Rattle.formula_tally.specs.ByFormula.{with_of, without_of, singles_with, singles_without}

-- One credential

pub inside_one : (k : Kind) (b : Bool) → only b (by_kind k 1 0) ≡ by_kind k (bit b) 0
inside_one Linear true = refl
inside_one Linear false = refl
inside_one Unrestricted true = refl
inside_one Unrestricted false = refl

pub outside_one : (k : Kind) (b : Bool) → by_kind k 1 0 - only b (by_kind k 1 0) ≡ by_kind k (bit (not b)) 0
outside_one Linear true = refl
outside_one Linear false = refl
outside_one Unrestricted true = refl
outside_one Unrestricted false = refl

pub at_most_one : (k : Kind) (b : Bool) → by_kind k (bit b) 0 ≤ 1
at_most_one Linear true = omega arith
at_most_one Linear false = omega arith
at_most_one Unrestricted b = omega arith

pub only_le : (b : Bool) (n : ℕ) → only b n ≤ n
only_le true n = omega arith
only_le false n = omega arith

pub one_at_most : (k : Kind) {n : ℕ} → n ≡ by_kind k 1 0 → n ≤ 1
one_at_most Linear e = omega arith
one_at_most Unrestricted e = omega arith

pub with_none : (m n : ℕ) (c : Credential) → c.kind ≡ Unrestricted → with_of m n c ≡ 0
unfolding with_of
with_none m n c e =
    ap (λ (k : Kind). by_kind k (bit (has c.interval m)) 0 * bit (eqb c.formula n)) e
    ∙ zero-mul (bit (eqb c.formula n))

pub without_none : (m n : ℕ) (c : Credential) → c.kind ≡ Unrestricted → without_of m n c ≡ 0
unfolding without_of
without_none m n c e =
    ap (λ (k : Kind). by_kind k (bit (not (has c.interval m))) 0 * bit (eqb c.formula n)) e
    ∙ zero-mul (bit (eqb c.formula n))

-- of formula n, or of another
module _ (m n : ℕ) (c : Credential) where
  with_here : c.formula ≡ n → with_of m n c ≡ by_kind c.kind (bit (has c.interval m)) 0
  unfolding with_of
  with_here e =
      ap (λ (b : Bool). by_kind c.kind (bit (has c.interval m)) 0 * bit b) (eq-eqb c.formula n e) ∙ mul-one _

  without_here : c.formula ≡ n → without_of m n c ≡ by_kind c.kind (bit (not (has c.interval m))) 0
  unfolding without_of
  without_here e =
      ap (λ (b : Bool). by_kind c.kind (bit (not (has c.interval m))) 0 * bit b) (eq-eqb c.formula n e)
      ∙ mul-one _

  with_away : (c.formula ≡ n → ⊥) → with_of m n c ≡ 0
  unfolding with_of
  with_away e =
      ap (λ (b : Bool). by_kind c.kind (bit (has c.interval m)) 0 * bit b) (ne_eqb c.formula n e) ∙ mul-zero _

  without_away : (c.formula ≡ n → ⊥) → without_of m n c ≡ 0
  unfolding without_of
  without_away e =
      ap (λ (b : Bool). by_kind c.kind (bit (not (has c.interval m))) 0 * bit b) (ne_eqb c.formula n e)
      ∙ mul-zero _

-- Along the chain: p is the next row and one, a and b are the counts over the rows from it on.
pub record Walked (l : List ℕ) (m n p a b : ℕ) : Type 0 where
  pub here : (i : ℕ) → p ≡ suc i → of_at l i ≡ n
  pub with : a + sum (with_of m n) (tab p (credential_at l)) ≡ sum (with_of m n) (tab (row_count l) (credential_at l))
  pub without : b + sum (without_of m n) (tab p (credential_at l))
      ≡ sum (without_of m n) (tab (row_count l) (credential_at l))
  pub few : a + b + p ≤ row_count l

module _ (l : List ℕ) (m n : ℕ) where
  -- a sum over the first k rows, from the last row of the formula
  with_last : {p : ℕ} (k : ℕ) → p ≡ last_of (of_at l) n k
      → sum (with_of m n) (tab p (credential_at l)) ≡ sum (with_of m n) (tab k (credential_at l))
  with_last k e =
      ap (λ (z : ℕ). sum (with_of m n) (tab z (credential_at l))) e
      ∙ sym (last_sum (with_of m n) (credential_at l) n (λ c. with_away m n c) k)

  without_last : {p : ℕ} (k : ℕ) → p ≡ last_of (of_at l) n k
      → sum (without_of m n) (tab p (credential_at l)) ≡ sum (without_of m n) (tab k (credential_at l))
  without_last k e =
      ap (λ (z : ℕ). sum (without_of m n) (tab z (credential_at l))) e
      ∙ sym (last_sum (without_of m n) (credential_at l) n (λ c. without_away m n c) k)

  pub walk_start : {p : ℕ} → p ≡ last_of (of_at l) n (row_count l) → Walked l m n p 0 0
  walk_start {p} e = record {
    here = λ i q. last_of_holds (of_at l) n (row_count l) i (sym e ∙ q);
    with = omega (arith, with_last (row_count l) e);
    without = omega (arith, without_last (row_count l) e);
    few = omega (arith, e, last_le (of_at l) n (row_count l));
  }

  -- the next row is counted
  pub walk_next : {p a b x y q : ℕ} (i : ℕ) (c : Credential) → Walked l m n p a b → p ≡ suc i → c ≡ credential_at l i
      → x ≡ by_kind c.kind (bit (has c.interval m)) 0 → y ≡ by_kind c.kind (bit (not (has c.interval m))) 0
      → x + y ≤ 1 → q ≡ last_of (of_at l) (of_at l i) i → Walked l m n q (a + x) (b + y)
  walk_next {p} {a} {b} {x} {y} {q} i c w e d ex ey le eq =
      let h = w.here i e in
      let f : c.formula ≡ n = ap (λ (z : Credential). z.formula) d ∙ h in
      let g : q ≡ last_of (of_at l) n i = eq ∙ ap (λ (z : ℕ). last_of (of_at l) z i) h in
      let u : x ≡ with_of m n (credential_at l i) = ex ∙ sym (with_here m n c f) ∙ ap (with_of m n) d in
      let v : y ≡ without_of m n (credential_at l i) = ey ∙ sym (without_here m n c f) ∙ ap (without_of m n) d in
      record {
        here = λ j z. last_of_holds (of_at l) n i j (sym g ∙ z);
        with = omega (
          arith,
          u,
          with_last i g,
          ap (λ (z : ℕ). sum (with_of m n) (tab z (credential_at l))) e
              ∙ ap (sum (with_of m n)) (tab_snoc i (credential_at l))
              ∙ snoc_sum (with_of m n) (tab i (credential_at l)) _,
          w.with,
        );
        without = omega (
          arith,
          v,
          without_last i g,
          ap (λ (z : ℕ). sum (without_of m n) (tab z (credential_at l))) e
              ∙ ap (sum (without_of m n)) (tab_snoc i (credential_at l))
              ∙ snoc_sum (without_of m n) (tab i (credential_at l)) _,
          w.without,
        );
        few = omega (arith, w.few, e, g, last_le (of_at l) n i);
      }

  pub with_all : {p a b : ℕ} → p ≡ 0 → Walked l m n p a b → a ≡ singles_with (ledger_of l) m n
  unfolding singles_with sum tab
  with_all e w = omega (
    arith,
    ap (λ (z : ℕ). sum (with_of m n) (tab z (credential_at l))) e,
    w.with,
    live_sum (with_of m n) (with_none m n) l,
  )

  pub without_all : {p a b : ℕ} → p ≡ 0 → Walked l m n p a b → b ≡ singles_without (ledger_of l) m n
  unfolding singles_without sum tab
  without_all e w = omega (
    arith,
    ap (λ (z : ℕ). sum (without_of m n) (tab z (credential_at l))) e,
    w.without,
    live_sum (without_of m n) (without_none m n) l,
  )

-- No formula has more singles than there are live credentials
module _ (m n : ℕ) where
  one_each : (c : Credential) → with_of m n c + without_of m n c ≤ 1
  unfolding with_of without_of
  one_each c = go c.kind (has c.interval m) (eqb c.formula n)
    where
      go : (k : Kind) (b e : Bool) → by_kind k (bit b) 0 * bit e + by_kind k (bit (not b)) 0 * bit e ≤ 1
      go Linear true true = omega arith
      go Linear true false = omega arith
      go Linear false true = omega arith
      go Linear false false = omega arith
      go Unrestricted b true = omega arith
      go Unrestricted b false = omega arith

  singles_in : (cs : List Credential) → sum (with_of m n) cs + sum (without_of m n) cs ≤ length cs
  unfolding sum
  singles_in [] = omega arith
  singles_in (c ∷ cs) = omega (arith, one_each c, singles_in cs)

  pub singles_few : (t : Ledger) → singles_with t m n + singles_without t m n ≤ length t.live
  unfolding singles_with singles_without
  singles_few t = singles_in t.live

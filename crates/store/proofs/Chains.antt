-- Laws of the chains of rows: what another store with the same rows has of them, one row more, and a sum over the rows
-- that sees one formula alone.
use mathlib.Core.Path.{◌≡◌, refl, sym, ap, subst, ◌∙◌}
use mathlib.Core.List.{List}
use Prim.Native.Nat.{ℕ, zero, suc, ◌+◌, ◌-◌, ◌<◌, ◌≤◌}
use native.Mathlib.Omega.{arith}
use native.Mathlib.Numerals.{add-one}
use native.Mathlib.Decide.{ℕ_discrete}
use borrow.Author.Tests.{eq-eqb, ne_eqb}
use lib.ListN.{length}
use Rattle.logic.specs.Multiset.{sum}
use Rattle.logic.proofs.Multisets.{snoc_sum}
use Rattle.ledger.specs.declared.Credential.{Credential}
use Rattle.ledger.specs.Checks.{max_formulas}
use Rattle.store_cells.specs.Layout.{cells, max_rows, row_link, formula_link, link_at, of_at, put_credential}
use Rattle.store_cells.proofs.CellWrites.{Stays, stays_credential}
use Rattle.store_cells.proofs.CredentialRows.{credential_same, credential_stays, credential_link, credential_last}
use Rattle.store_cells.proofs.CredentialRows.{credential_links}
use Rattle.store.specs.Tab.{tab}
use Rattle.store.specs.Chain.{last_of, Chained}
use Rattle.store.proofs.Tabs.{tab_snoc}

-- only the formulas of the rows count
last_ext : (f g : ℕ → ℕ) (n k : ℕ) → ((i : ℕ) → i < k → f i ≡ g i) → last_of f n k ≡ last_of g n k
unfolding last_of
last_ext f g n zero h = refl
last_ext f g n (suc k) h = cc (h k (omega arith), last_ext f g n k (λ i q. h i (omega arith)))

last_here : (f : ℕ → ℕ) (n k : ℕ) → f k ≡ n → last_of f n (suc k) ≡ suc k
unfolding last_of
last_here f n k e = rw (eq-eqb (f k) n e)

last_pass : (f : ℕ → ℕ) (n k : ℕ) → (f k ≡ n → ⊥) → last_of f n (suc k) ≡ last_of f n k
unfolding last_of
last_pass f n k e = rw (ne_eqb (f k) n e)

pub last_le : (f : ℕ → ℕ) (n k : ℕ) → last_of f n k ≤ k
unfolding last_of
last_le f n zero = omega arith
last_le f n (suc k) = go (ℕ_discrete (f k) n) (last_le f n k)
  where
    go : Dec (f k ≡ n) → last_of f n k ≤ k → last_of f n (suc k) ≤ suc k
    go (yes e) q = omega (arith, last_here f n k e)
    go (no e) q = omega (arith, last_pass f n k e)

-- a last row is of the formula
pub last_of_holds : (f : ℕ → ℕ) (n k i : ℕ) → last_of f n k ≡ suc i → f i ≡ n
unfolding last_of
last_of_holds f n zero i e = absurd (omega arith)
last_of_holds f n (suc k) i e = go (ℕ_discrete (f k) n) (last_of_holds f n k i)
  where
    go : Dec (f k ≡ n) → (last_of f n k ≡ suc i → f i ≡ n) → f i ≡ n
    go (yes h) r =
        let q : k ≡ i = omega (arith, last_here f n k h) in
        ap f (sym q) ∙ h
    go (no h) r = r (sym (last_pass f n k h) ∙ e)

-- no row is of the formula
pub last_none : (f : ℕ → ℕ) (n k : ℕ) → ((i : ℕ) → i < k → f i ≡ n → ⊥) → last_of f n k ≡ 0
unfolding last_of
last_none f n zero h = refl
last_none f n (suc k) h = last_pass f n k (h k (omega arith)) ∙ last_none f n k (λ i q. h i (omega arith))

-- Another store whose rows are of the same formulas, with the same links.
pub chain_same : (l m : List ℕ) (k : ℕ) → Chained l k → ((i : ℕ) → i < k → of_at m i ≡ of_at l i)
    → ((j : ℕ) → link_at m j ≡ link_at l j) → Chained m k
chain_same l m k c e q = record {
  last = λ n h. q (formula_link n) ∙ c.last n h ∙ last_ext (of_at l) (of_at m) n k (λ i p. sym (e i p));
  before = λ i h. q (row_link i) ∙ c.before i h
      ∙ last_ext (of_at l) (of_at m) (of_at l i) i (λ j p. sym (e j (omega arith)))
      ∙ ap (λ (n : ℕ). last_of (of_at m) n i) (sym (e i h));
}

-- Another store with the same rows.
pub chain_stays : (l m : List ℕ) (k : ℕ) → Chained l k → ((i : ℕ) → i < k → Stays l m i)
    → ((j : ℕ) → link_at m j ≡ link_at l j) → Chained m k
chain_stays l m k c s q =
    chain_same l m k c (λ i h. ap (λ (x : Credential). x.formula) (stays_credential l m i (s i h))) q

-- No row yet.
pub chain_none : (l : List ℕ) → ((n : ℕ) → n < max_formulas → link_at l (formula_link n) ≡ 0) → Chained l 0
unfolding last_of
chain_none l h = record { last = h; before = λ i q. absurd (omega arith) }

-- The link of a row that is known by its number and one.
pub chain_before : (l : List ℕ) (k p : ℕ) → Chained l k → 0 < p → p ≤ k
    → link_at l p ≡ last_of (of_at l) (of_at l (p - 1)) (p - 1)
chain_before l k p c h q =
    let e : p ≡ row_link (p - 1) = omega arith in
    ap (link_at l) e ∙ c.before (p - 1) (omega arith)

-- One row more.
module _ (l : List ℕ) (k : ℕ) (x : Credential) (long : length l ≡ cells) (h : k < max_rows)
    (q : x.formula < max_formulas) (c : Chained l k) where
  abbrev m : List ℕ
  m = put_credential l k x

  old_stays : (i : ℕ) → i < k → Stays l m i
  old_stays i p = credential_stays l k x i (omega arith) (omega arith)

  old_of : (i : ℕ) → i < k → of_at l i ≡ of_at m i
  old_of i p = ap (λ (y : Credential). y.formula) (sym (stays_credential l m i (old_stays i p)))

  new_of : of_at m k ≡ x.formula
  new_of = ap (λ (y : Credential). y.formula) (credential_same l k x long h)

  last_next : (n : ℕ) → n < max_formulas → link_at m (formula_link n) ≡ last_of (of_at m) n (suc k)
  last_next n p = go (ℕ_discrete n x.formula)
    where
      go : Dec (n ≡ x.formula) → link_at m (formula_link n) ≡ last_of (of_at m) n (suc k)
      go (yes e) =
          ap (λ (z : ℕ). link_at m (formula_link z)) e ∙ credential_last l k x long h q ∙ add-one k
          ∙ sym (last_here (of_at m) n k (new_of ∙ sym e))
      go (no e) =
          credential_links l k x h (formula_link n) (omega arith) (omega arith) ∙ c.last n p
          ∙ last_ext (of_at l) (of_at m) n k old_of
          ∙ sym (last_pass (of_at m) n k (λ z. e (sym z ∙ new_of)))

  before_next : (i : ℕ) → i < suc k → link_at m (row_link i) ≡ last_of (of_at m) (of_at m i) i
  before_next i p = go (ℕ_discrete i k)
    where
      go : Dec (i ≡ k) → link_at m (row_link i) ≡ last_of (of_at m) (of_at m i) i
      go (yes e) =
          ap (λ (z : ℕ). link_at m (row_link z)) e ∙ credential_link l k x long h ∙ c.last x.formula q
          ∙ last_ext (of_at l) (of_at m) x.formula k old_of
          ∙ ap (λ (n : ℕ). last_of (of_at m) n k) (sym new_of)
          ∙ ap (λ (z : ℕ). last_of (of_at m) (of_at m z) z) (sym e)
      go (no e) =
          credential_links l k x h (row_link i) (omega arith) (omega arith) ∙ c.before i (omega arith)
          ∙ last_ext (of_at l) (of_at m) (of_at l i) i (λ j z. old_of j (omega arith))
          ∙ ap (λ (n : ℕ). last_of (of_at m) n i) (old_of i (omega arith))

  pub chain_put : Chained (put_credential l k x) (k + 1)
  chain_put = subst (Chained m) (sym (add-one k)) (record { last = last_next; before = before_next })

-- A sum over the first k rows that sees formula n alone is one over the rows up to the last of that formula.
module _ (g : Credential → ℕ) (r : ℕ → Credential) (n : ℕ)
    (none : (c : Credential) → (c.formula ≡ n → ⊥) → g c ≡ 0) where
  pub last_sum : (k : ℕ) → sum g (tab k r) ≡ sum g (tab (last_of (λ i. (r i).formula) n k) r)
  unfolding last_of
  last_sum zero = refl
  last_sum (suc k) = go (ℕ_discrete (r k).formula n) (last_sum k)
    where
      go : Dec ((r k).formula ≡ n) → sum g (tab k r) ≡ sum g (tab (last_of (λ i. (r i).formula) n k) r)
          → sum g (tab (suc k) r) ≡ sum g (tab (last_of (λ i. (r i).formula) n (suc k)) r)
      go (yes e) s = ap (λ (z : ℕ). sum g (tab z r)) (sym (last_here (λ i. (r i).formula) n k e))
      go (no e) s =
          let a : sum g (tab (suc k) r) ≡ sum g (tab k r) =
          ap (sum g) (tab_snoc k r) ∙ snoc_sum g (tab k r) (r k) ∙ omega (arith, none (r k) e) in
          a ∙ s ∙ ap (λ (z : ℕ). sum g (tab z r)) (sym (last_pass (λ i. (r i).formula) n k e))

-- Tables of labels: what a table shows when labels are put into it, and when a premise begins.
use mathlib.Core.Path.{◌≡◌, refl, sym, ap, subst, ◌∙◌}
use mathlib.Core.List.{List, [], ◌∷◌, ◌++◌, map}
use Prim.Native.Nat.{ℕ, suc, ◌+◌, ◌<◌, ◌≤◌}
use native.Mathlib.Omega.{arith}
use native.Mathlib.Decide.{dec_lt, dec_le}
use lib.ListN.{length, get_or-append, length-map}
use lib.Seq.{get_or-append_seam}
use borrow.Author.Tests.{le-leb, lt-leb, ne_eqb, eq-eqb}
use Rattle.logic.specs.Formula.{Formula}
use Rattle.labels.specs.Labels.{insert}
use Rattle.steps.specs.declared.Row.{Row}
use Rattle.steps.specs.declared.Hypothesis.{Hypothesis}
use Rattle.steps.specs.declared.Sequent.{Sequent}
use Rattle.steps.specs.declared.Premise.{Premise}
use Rattle.steps.specs.Check.{max_labels, linears, joins, puts, adds, Beginning, full, begun, begin}
use Rattle.steps.specs.Labelling.{AnyTable, read_label, write_label, Shows as ShowsLabels}
use Rattle.steps.specs.Rule.{Branch}
use Rattle.steps.specs.Spells.{Labels, no_hyp, named, grown, adding, beginning, Room}
use Rattle.steps.specs.Spells.{begun as labels_begun}
use Rattle.steps.specs.Unroll.{Unrolls, hyp_of, goal_of, labelled_of}
use Rattle.steps.proofs.Labelling.{length_snoc, ext_grown, length_grown}
use Rattle.steps.proofs.Premises.{length_begun}
use Rattle.steps.proofs.Unroll.{branch_of}

-- what is put at a label is read there, and nowhere else
pub record Table {T : Type 0} (held : T → ℕ → Hypothesis) (put : T → ℕ → Hypothesis → T) : Type 1 where
  pub Good : T → Type 0
  pub stays : (t : T) (n : ℕ) (h : Hypothesis) → Good t → Good (put t n h)
  pub reads : (t : T) (n : ℕ) (h : Hypothesis) → Good t → n < max_labels → held (put t n h) n ≡ h
  pub keeps : (t : T) (n k : ℕ) (h : Hypothesis) → Good t → (k ≡ n → ⊥) → held (put t n h) k ≡ held t k

-- the table as a function
abbrev pub label_table : Table read_label write_label
label_table = record {
  Good = AnyTable;
  stays = λ t n h g. tt;
  reads = λ t n h g l. rw (eq-eqb n n refl, write_label);
  keeps = λ t n k h g d. rw (ne_eqb k n d, write_label);
}

module _ {row : ℕ → Row} {formula : ℕ → Formula} (u : Unrolls row formula) {T : Type 0} {held : T → ℕ → Hypothesis}
    {put : T → ℕ → Hypothesis → T} (table : Table held put) where
  abbrev pub Shows : T → ℕ → Labels → Type 0
  Shows = ShowsLabels u table.Good held

  pub shows_none : (t : T) → table.Good t → Shows t 0 []
  shows_none t g = record { good = g; next = refl; same = λ k l. absurd (omega arith) }

  pub shows_put : (t : T) (n : ℕ) (ls : Labels) (h : Hypothesis) → Shows t n ls → length ls < max_labels
      → Shows (put t n h) (suc n) (ls ++ (hyp_of u h ∷ []))
  shows_put t n ls h s room = record {
    good = table.stays t n h s.good;
    next = omega (arith, s.next, length_snoc ls (hyp_of u h));
    same = λ k l. go k l (dec_lt k (length ls));
  }
    where
      go : (k : ℕ) → k < length (ls ++ (hyp_of u h ∷ [])) → Dec (k < length ls)
          → named (ls ++ (hyp_of u h ∷ [])) k ≡ hyp_of u (held (put t n h) k)
      go k l (yes y) =
          get_or-append ls (hyp_of u h ∷ []) no_hyp k y ∙ s.same k y
          ∙ ap (hyp_of u) (sym (table.keeps t n k h s.good (λ z. omega (arith, s.next))))
      go k l (no y) =
          let z : k ≡ length ls = omega (arith, length_snoc ls (hyp_of u h), y) in
          let z' : k ≡ n = omega (arith, s.next) in
          ap (named (ls ++ (hyp_of u h ∷ []))) z ∙ get_or-append_seam ls (hyp_of u h) [] no_hyp
          ∙ ap (hyp_of u) (sym (table.reads t n h s.good (omega arith)) ∙ ap (held (put t n h)) (sym z'))

  pub shows_puts : (t : T) (n : ℕ) (ls : Labels) (hs : List Hypothesis) → Shows t n ls
      → length (grown ls (map (hyp_of u) hs)) ≤ max_labels
      → Shows (puts put t n hs) (n + length hs) (grown ls (map (hyp_of u) hs))
  shows_puts t n ls [] s room = subst (λ (m : ℕ). Shows t m ls) (omega arith) s
  shows_puts t n ls (h ∷ hs) s room =
      let ls' = ls ++ (hyp_of u h ∷ []) in
      let l = length_snoc ls (hyp_of u h) in
      let x = ext_grown ls' (map (hyp_of u) hs) in
      subst (λ (m : ℕ). Shows (puts put (put t n h) (suc n) hs) m (grown ls' (map (hyp_of u) hs))) (omega arith)
      (shows_puts (put t n h) (suc n) ls' hs (shows_put t n ls h s (omega (arith, x.longer))) room)

  adds_is : (ls : Labels) (hs : List Hypothesis) (n d : ℕ) → n ≡ length ls
      → adds n hs d ≡ adding ls (map (hyp_of u) hs) d
  adds_is ls [] n d e = refl
  adds_is ls (h ∷ hs) n d e =
      ap (λ (m : ℕ). adds (suc n) hs (insert d m)) e
      ∙ adds_is (ls ++ (hyp_of u h ∷ [])) hs (suc n) (insert d (length ls)) (omega (arith, length_snoc ls (hyp_of u h)))

  -- a premise begins, with labels in the table as they are taken on formulas; or there is no label left
  pub data Starts (ls : Labels) (r : ℕ) (p : Branch) : Beginning T → Type 0 where
    over : max_labels < length (labels_begun ls p) → Starts ls r p full
    within : {t : T} {n : ℕ} {q : Sequent} → Room ls p → beginning ls r p ≡ labelled_of u q
        → Shows t n (labels_begun ls p) → Starts ls r p (begun t n q)

  pub starts : (t : T) (n : ℕ) (ls : Labels) (r : ℕ) (p : Premise) → Shows t n ls
      → Starts ls r (branch_of u p) (begin put t n r p)
  unfolding begin
  starts t n ls r p s = go (dec_le (length (labels_begun ls (branch_of u p))) max_labels)
    where
      l : List Hypothesis
      l = linears p.fresh

      j : List Hypothesis
      j = joins p.fresh

      size : length (labels_begun ls (branch_of u p)) ≡ n + (length l + length j)
      size = omega (arith, s.next, length_begun ls (branch_of u p), length-map l (hyp_of u), length-map j (hyp_of u))

      size₁ : n + length l ≡ length (grown ls (map (hyp_of u) l))
      size₁ = omega (arith, s.next, length_grown ls (map (hyp_of u) l), length-map l (hyp_of u))

      go : Dec (Room ls (branch_of u p)) → Starts ls r (branch_of u p) (begin put t n r p)
      go (yes room) =
          let x = ext_grown (grown ls (map (hyp_of u) l)) (map (hyp_of u) j) in
          let s₁ = shows_puts t n ls l s (omega (arith, x.longer)) in
          let t₂ = puts put (puts put t n l) (n + length l) j in
          let s₂ = shows_puts (puts put t n l) (n + length l) (grown ls (map (hyp_of u) l)) j s₁ room in
          let e : n + length l + length j ≡ n + (length l + length j) = omega arith in
          rw (le-leb (n + (length l + length j)) max_labels (omega (arith, size)), begin)
          (within room (λ i. record {
            unrestricted = sym (adds_is (grown ls (map (hyp_of u) l)) j (n + length l) r size₁) i;
            linear = sym (adds_is ls l n p.linear s.next) i;
            goal = goal_of u p.goal;
          }) (subst (λ (m : ℕ). Shows t₂ m (labels_begun ls (branch_of u p))) e s₂))
      go (no more) =
          rw (lt-leb (n + (length l + length j)) max_labels (omega (arith, size, more)), begin)
          (over (omega (arith, more)))

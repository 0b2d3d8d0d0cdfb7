-- The holds of a booking take labels 0, 1, .. in order: what the step checker begins with.
use mathlib.Core.Path.{◌≡◌, refl, sym, ap, subst, subst₂, ◌∙◌}
use mathlib.Core.List.{List, [], ◌∷◌, ◌++◌, map, append-nil, append_assoc}
use mathlib.Core.Bool.{true, false}
use Prim.Native.Nat.{ℕ, suc, ◌+◌, ◌<◌, ◌≤◌}
use Prim.Native.Char.{code}
use native.Mathlib.Omega.{arith}
use lib.ListN.{length}
use Rattle.logic.specs.Formula.{Formula}
use Rattle.logic.specs.Derives.{Hyp, ◌⟦◌⟧}
use Rattle.logic.specs.Multiset.{Perm, Every}
use Rattle.logic.proofs.Multisets.{perm_refl, perm_sym, every_map}
use Rattle.logic.proofs.Tests.{no_truth}
use Rattle.request.specs.declared.Kind.{Kind}
use Rattle.request.specs.declared.Kind.TheVariants.{Linear, Unrestricted}
use Rattle.request.specs.Request.{Line}
use Rattle.labels.specs.Labels.{insert}
use Rattle.labels.proofs.Permutations.{perm_middle}
use Rattle.steps.specs.Check.{max_labels, puts}
use Rattle.steps.specs.Spells.{Labels}
use Rattle.steps.specs.declared.Row.{Row}
use Rattle.steps.specs.Instance.{radix, instance, part_first, part_second}
use Rattle.steps.specs.Unroll.{letter, made, Forms, Unrolls, SmallRow, hyp_of}
use Rattle.steps.proofs.Instances.{instance_own, instances}
use Rattle.steps.proofs.Labelling.{length_snoc}
use Rattle.steps.proofs.LabelTables.{label_table}
use Rattle.steps.proofs.HoldLabels.{Begins, begins_same, begins_none, add_linear, add_unrestricted}
use Rattle.ledger.specs.declared.Credential.{Credential}
use Rattle.ledger.specs.Table.{form, names, row_of}
use Rattle.ledger.specs.Ledger.{Ledger, formula, row, row_for, is_kind}
use Rattle.ledger.specs.Checks.{LabelTable, no_labels, write_label, hypothesis, labels_of, max_formulas}
use Rattle.ledger.specs.Bounds.{line_at, Tabled}
use Rattle.demands.specs.Demands.{hyp, hyps_of, start_labels}

-- The formulas of a ledger form the rows of its lines, and with holders put in unroll those with holders put in.

made_row : (f : ℕ → Formula) (l : Line) → made f (row_of l).letter (row_of l) ≡ form f l
made_row f (Line.atom p s) = refl
made_row f Line.one = refl
made_row f (Line.tensor i j) = refl
made_row f (Line.with i j) = refl
made_row f (Line.plus i j) = refl
made_row f (Line.lolli i j) = refl
made_row f (Line.implies i j) = refl
made_row f (Line.bang i) = refl
made_row f (Line.at i w) = refl
made_row f (Line.says k i) = refl
made_row f (Line.superset v w) = refl
made_row f (Line.named p s k) = refl
made_row f (Line.for_every i) = refl

letter_row : (f : ℕ → Formula) (l : Line) → letter (form f l) ≡ (row_of l).letter
letter_row f (Line.atom p s) = refl
letter_row f Line.one = refl
letter_row f (Line.tensor i j) = refl
letter_row f (Line.with i j) = refl
letter_row f (Line.plus i j) = refl
letter_row f (Line.lolli i j) = refl
letter_row f (Line.implies i j) = refl
letter_row f (Line.bang i) = refl
letter_row f (Line.at i w) = refl
letter_row f (Line.says k i) = refl
letter_row f (Line.superset v w) = refl
letter_row f (Line.named p s k) = refl
letter_row f (Line.for_every i) = refl

forms : (t : Ledger) → Tabled t → Forms (row t) (formula t)
forms t h = record {
  letters = λ i. ap letter (h.reads i) ∙ letter_row (formula t) (line_at t i);
  formed = λ i. h.reads i ∙ sym (made_row (formula t) (line_at t i));
}

smalls : {c : ℕ} {x : Row} → (part_first c ≡ true → x.a < radix) → (part_second c ≡ true → x.b < radix)
    → (c ≡ code "q" → x.a < radix) → SmallRow c x
smalls f s b = record { first = f; second = s; bound = b }

-- for a letter that has no such part
other : {A : Type 0} → false ≡ true → A
other e = absurd (no_truth e)

small_row : (l : Line) → Every (λ k. k < radix) (names l) → SmallRow (row_of l).letter (row_of l)
small_row (Line.atom p s) h = smalls other other (λ e. absurd (omega arith))
small_row Line.one h = smalls other other (λ e. absurd (omega arith))
small_row (Line.tensor i j) h = smalls (λ e. h.0) (λ e. h.1.0) (λ e. absurd (omega arith))
small_row (Line.with i j) h = smalls (λ e. h.0) (λ e. h.1.0) (λ e. absurd (omega arith))
small_row (Line.plus i j) h = smalls (λ e. h.0) (λ e. h.1.0) (λ e. absurd (omega arith))
small_row (Line.lolli i j) h = smalls (λ e. h.0) (λ e. h.1.0) (λ e. absurd (omega arith))
small_row (Line.implies i j) h = smalls (λ e. h.0) (λ e. h.1.0) (λ e. absurd (omega arith))
small_row (Line.bang i) h = smalls (λ e. h.0) other (λ e. absurd (omega arith))
small_row (Line.at i w) h = smalls (λ e. h.0) other (λ e. absurd (omega arith))
small_row (Line.says k i) h = smalls other (λ e. h.0) (λ e. absurd (omega arith))
small_row (Line.superset v w) h = smalls other other (λ e. absurd (omega arith))
small_row (Line.named p s k) h = smalls other other (λ e. absurd (omega arith))
small_row (Line.for_every i) h = smalls other other (λ e. h.0)

-- the formula of a number that may have a holder in it
abbrev pub formula_for : Ledger → ℕ → Formula
formula_for t m = instance (formula t) m

-- What a booking of these credentials asks of the ledger: its lines form a table, and they and the credentials name
-- formulas by their own numbers.
pub record Ready (t : Ledger) (cs : List Credential) : Type 0 where
  pub tabled : Tabled t
  pub lines : length t.lines ≤ max_formulas
  pub named : Every (λ c. c.formula < radix) cs

pub unrolls : (t : Ledger) → Tabled t → length t.lines ≤ max_formulas → Unrolls (row_for t) (formula_for t)
unrolls t h le = instances (forms t h) (record {
  at = λ n. small_row (line_at t n) (every_map (λ k l. omega arith) (names (line_at t n)) (h.refs n));
})

module _ (t : Ledger) (tb : Tabled t) (le : length t.lines ≤ max_formulas) where
  abbrev pub Started : LabelTable → ℕ → ℕ → ℕ → Labels → List Hyp → List Hyp → Type 0
  Started = Begins (unrolls t tb le) label_table

  -- the same list, put in front of what comes later
  moved : (h : Hyp) (hs D : List Hyp) → Perm (h ∷ (hs ++ D)) (hs ++ (h ∷ D))
  moved h hs D = perm_sym (perm_middle hs D (perm_refl (hs ++ D)))

  -- the hypothesis of a credential, by its formula's own number
  own : (c : Credential) → c.formula < radix → hyp_of (unrolls t tb le) (hypothesis c) ≡ hyp t c
  own c l = ap (λ (a : Formula). a ⟦ c.interval ⟧) (instance_own (formula t) c.formula l)

  start_from : (cs : List Credential) {f : LabelTable} {n r d : ℕ} {ls : Labels} {R D : List Hyp}
      → Every (λ c. c.formula < radix) cs → length ls + length cs ≤ max_labels → Started f n r d ls R D
      → Started (puts write_label f n (map hypothesis cs)) (n + length cs)
      (labels_of Unrestricted n cs r) (labels_of Linear n cs d) (ls ++ map (hyp t) cs)
      (hyps_of t Unrestricted cs ++ R) (hyps_of t Linear cs ++ D)
  unfolding labels_of hyps_of
  start_from [] {f} {n} {r} {d} {ls} {R} {D} k room b =
      subst₂ (λ (m : ℕ) (l : Labels). Started f m r d l R D) (omega arith) (sym (append-nil ls)) b
  start_from (c ∷ cs) {f} {n} {r} {d} {ls} {R} {D} k room b =
      go c.kind (λ r₁ d₁ R₁ D₁ b₁. start_from cs k.1 (omega (arith, length_snoc ls (hyp t c))) b₁)
    where
      first : Labels
      first = ls ++ (hyp t c ∷ [])

      f₁ : LabelTable
      f₁ = write_label f n (hypothesis c)

      -- at the labels after this one
      along : {r₁ d₁ : ℕ} {R₁ D₁ : List Hyp}
          → Started (puts write_label f₁ (suc n) (map hypothesis cs)) (suc n + length cs) r₁ d₁
          (first ++ map (hyp t) cs) R₁ D₁
          → Started (puts write_label f₁ (suc n) (map hypothesis cs)) (n + suc (length cs)) r₁ d₁
          (ls ++ (hyp t c ∷ map (hyp t) cs)) R₁ D₁
      along {r₁} {d₁} {R₁} {D₁} x =
          subst₂ (λ (m : ℕ) (l : Labels). Started (puts write_label f₁ (suc n) (map hypothesis cs)) m r₁ d₁ l R₁ D₁)
          (omega arith) (append_assoc ls (hyp t c ∷ []) (map (hyp t) cs)) x

      go : (k : Kind)
          → ((r₁ d₁ : ℕ) (R₁ D₁ : List Hyp) → Started f₁ (suc n) r₁ d₁ first R₁ D₁
          → Started (puts write_label f₁ (suc n) (map hypothesis cs)) (suc n + length cs)
          (labels_of Unrestricted (suc n) cs r₁) (labels_of Linear (suc n) cs d₁) (first ++ map (hyp t) cs)
          (hyps_of t Unrestricted cs ++ R₁) (hyps_of t Linear cs ++ D₁))
          → Started (puts write_label f₁ (suc n) (map hypothesis cs)) (n + suc (length cs))
          (labels_of Unrestricted (suc n) cs
          (elim (is_kind Unrestricted k) as (λ z. ℕ) [ true ↦ insert r n | false ↦ r ]))
          (labels_of Linear (suc n) cs (elim (is_kind Linear k) as (λ z. ℕ) [ true ↦ insert d n | false ↦ d ]))
          (ls ++ (hyp t c ∷ map (hyp t) cs))
          (elim (is_kind Unrestricted k) as (λ z. List Hyp)
          [ true ↦ hyp t c ∷ hyps_of t Unrestricted cs | false ↦ hyps_of t Unrestricted cs ] ++ R)
          (elim (is_kind Linear k) as (λ z. List Hyp)
          [ true ↦ hyp t c ∷ hyps_of t Linear cs | false ↦ hyps_of t Linear cs ] ++ D)
      go Linear ih =
          begins_same (unrolls t tb le) label_table (perm_refl (hyps_of t Unrestricted cs ++ R))
          (moved (hyp t c) (hyps_of t Linear cs) D)
          (along (ih r (insert d n) R (hyp t c ∷ D)
          (subst (λ (h : Hyp). Started f₁ (suc n) r (insert d n) (ls ++ (h ∷ [])) R (h ∷ D)) (own c k.0)
          (add_linear (unrolls t tb le) label_table (hypothesis c) b (omega arith)))))
      go Unrestricted ih =
          begins_same (unrolls t tb le) label_table (moved (hyp t c) (hyps_of t Unrestricted cs) R)
          (perm_refl (hyps_of t Linear cs ++ D))
          (along (ih (insert r n) d (hyp t c ∷ R) D
          (subst (λ (h : Hyp). Started f₁ (suc n) (insert r n) d (ls ++ (h ∷ [])) (h ∷ R) D) (own c k.0)
          (add_unrestricted (unrolls t tb le) label_table (hypothesis c) b (omega arith)))))

  -- what a booking of these credentials begins with
  pub start : (cs : List Credential) → Every (λ c. c.formula < radix) cs → length cs ≤ max_labels
      → Started (puts write_label no_labels 0 (map hypothesis cs)) (length cs)
      (labels_of Unrestricted 0 cs 0) (labels_of Linear 0 cs 0) (start_labels t cs)
      (hyps_of t Unrestricted cs) (hyps_of t Linear cs)
  start cs k room =
      let f = puts write_label no_labels 0 (map hypothesis cs) in
      let r = labels_of Unrestricted 0 cs 0 in
      let d = labels_of Linear 0 cs 0 in
      let b = start_from cs k (omega arith) (begins_none (unrolls t tb le) label_table no_labels tt) in
      let n : 0 + length cs ≡ length cs = omega arith in
      subst₂ (λ (R D : List Hyp). Started f (length cs) r d (start_labels t cs) R D)
      (append-nil (hyps_of t Unrestricted cs)) (append-nil (hyps_of t Linear cs))
      (subst (λ (m : ℕ). Started f m r d (start_labels t cs) (hyps_of t Unrestricted cs ++ [])
      (hyps_of t Linear cs ++ []))
      n b)

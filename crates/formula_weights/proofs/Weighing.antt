-- A row's weight and its sessions, from those of its parts.
use mathlib.Core.Path.{◌≡◌, refl, sym, ap, subst, fun_ext, ◌∙◌}
use mathlib.Core.List.{List, [], ◌∷◌, ◌++◌, map}
use mathlib.Core.Bool.{Bool, true, false, ◌&&◌, ◌||◌, and-true}
use Prim.Native.Nat.{ℕ, ◌+◌, ◌≤◌, ◌<◌}
use Prim.Native.Char.{code}
use native.Mathlib.Omega.{arith}
use lib.Dec.{eqb}
use lib.ListN.{length}
use borrow.Author.Tests.{eqb-true, eq-eqb, ne_eqb}
use Rattle.logic.specs.Choice.{pick}
use Rattle.logic.specs.Formula.{Formula, atom, one, tensor, with, plus, lolli, implies, bang, at, says, superset}
use Rattle.logic.specs.Formula.{for_every, size}
use Rattle.logic.specs.Counts.{up, down, even, level, sessions_of, all_of, balanced}
use Rattle.logic.specs.Multiset.{sum, Every}
use Rattle.logic.proofs.Tests.{bit_le, no_truth}
use Rattle.request.specs.Request.{Line}
use Rattle.steps.specs.declared.Row.{Row}
use Rattle.ledger.specs.Table.{form, names, row_of}
use Rattle.ledger.specs.Ledger.{formula}
use Rattle.ledger.specs.Bounds.{There, line_at}
use Rattle.store_cells.specs.Layout.{row_at}
use Rattle.store.specs.Store.{line_of, ledger_of, Good}
use Rattle.store.proofs.Views.{row_is}
use Rattle.store.proofs.LinesOfRows.{line_of_row}
use Rattle.formula_parts.specs.declared.Parts.{Parts}
use Rattle.formula_parts.specs.Parts.{parts_of, numbers, atomic}
use Rattle.formula_facts.specs.Facts.{Formable}
use Rattle.formula_facts.proofs.Named.{parts_are, parts_there, parts_size}
use Rattle.formula_weights.specs.declared.Weight.{Weight}
use Rattle.std.specs.Prelude.{Option as Maybe, Some, Result, Ok, Err}
use Rattle.std.specs.Result.{IsErr}
use Rattle.formula_weights.specs.RowWeights.{weight_of, alone_weight, under_weight, joined_weight, Light}
use Rattle.formula_weights.specs.RowWeights.{Sure, Tries}

abbrev pub Tried : Type 0
Tried = Result (Maybe ℕ) ℕ

-- by the parts' weights, and by their sessions
abbrev pub weighed : ℕ → Row → List Weight → Weight
weighed s r [] = alone_weight s r
weighed s r (x ∷ []) = under_weight r.letter x
weighed s r (x ∷ y ∷ zs) = joined_weight r.letter x y

abbrev pub gathered : Row → List (List ℕ) → List ℕ
gathered r [] = pick (atomic r.letter) (r.b ∷ []) []
gathered r (x ∷ []) = x
gathered r (x ∷ y ∷ zs) = x ++ y

-- b is what the test says of the part, where there is one
abbrev Alike : (ℕ → Bool) → List ℕ → Bool → Type 0
Alike f [] b = Unit {0}
Alike f (k ∷ []) b = f k ≡ b
Alike f (k ∷ j ∷ ns) b = Unit {0}

-- !, @, ⟨K⟩ and ∀ are balanced if their part is
bang_balanced : (a : Formula) → balanced a ≡ balanced (bang a)
unfolding balanced sessions_of up even
bang_balanced a = ap (λ (f : ℕ → Bool). all_of f (sessions_of a)) (fun_ext (λ s. twice (level s a) (even s a)))
  where
    twice : (x e : Bool) → (x && e) ≡ (x && (e && x))
    twice true e = sym (and-true e)
    twice false e = refl

module _ (T : ℕ → Formula) where
  balance_row : (l : Line) → Alike (λ k. balanced (T k)) (parts_of (row_of l)) (balanced (form T l))
  unfolding parts_of balanced sessions_of up even
  balance_row (Line.atom p t) = tt
  balance_row Line.one = tt
  balance_row (Line.tensor i j) = tt
  balance_row (Line.with i j) = tt
  balance_row (Line.plus i j) = tt
  balance_row (Line.lolli i j) = tt
  balance_row (Line.implies i j) = tt
  balance_row (Line.bang i) = bang_balanced (T i)
  balance_row (Line.at i w) = refl
  balance_row (Line.says k i) = refl
  balance_row (Line.superset v w) = tt
  balance_row (Line.named p t k) = tt
  balance_row (Line.for_every i) = refl

  weight_row : (s : ℕ) (l : Line)
      → weighed s (row_of l) (map (λ k. weight_of s (T k)) (parts_of (row_of l))) ≡ weight_of s (form T l)
  unfolding parts_of alone_weight under_weight joined_weight up even
  weight_row s (Line.atom p t) = refl
  weight_row s Line.one = refl
  weight_row s (Line.tensor i j) = refl
  weight_row s (Line.with i j) = refl
  weight_row s (Line.plus i j) = refl
  weight_row s (Line.lolli i j) = refl
  weight_row s (Line.implies i j) = refl
  weight_row s (Line.bang i) = refl
  weight_row s (Line.at i w) = refl
  weight_row s (Line.says k i) = refl
  weight_row s (Line.superset v w) = refl
  weight_row s (Line.named p t k) = refl
  weight_row s (Line.for_every i) = refl

  sessions_row : (l : Line)
      → gathered (row_of l) (map (λ k. sessions_of (T k)) (parts_of (row_of l))) ≡ sessions_of (form T l)
  unfolding parts_of sessions_of
  sessions_row (Line.atom p t) = refl
  sessions_row Line.one = refl
  sessions_row (Line.tensor i j) = refl
  sessions_row (Line.with i j) = refl
  sessions_row (Line.plus i j) = refl
  sessions_row (Line.lolli i j) = refl
  sessions_row (Line.implies i j) = refl
  sessions_row (Line.bang i) = refl
  sessions_row (Line.at i w) = refl
  sessions_row (Line.says k i) = refl
  sessions_row (Line.superset v w) = refl
  sessions_row (Line.named p t k) = refl
  sessions_row (Line.for_every i) = refl

-- the number of a part of a formula of size t: what is asked before its row is read, and that it is smaller
pub record Part (l : List ℕ) (t k : ℕ) : Type 0 where
  pub there : Good l × (k < length (ledger_of l).lines)
  pub less : size (formula (ledger_of l) k) < t

each_part : (l : List ℕ) {t : ℕ} → Good l → (ns : List ℕ) → There (ledger_of l) ns
    → sum (λ k. size (formula (ledger_of l) k)) ns < t → Every (Part l t) ns
unfolding sum
each_part l g [] h s = tt
each_part l g (k ∷ ns) h s =
    (record { there = (g, h.0); less = omega arith }, each_part l g ns h.1 (omega arith))

-- of a row whose formula has size t, the numbers of its parts, and its weight and its sessions from theirs
pub record Parted (l : List ℕ) (r : Row) (t : ℕ) (ns : List ℕ) : Type 0 where
  pub each : Every (Part l t) ns
  pub weight : (s : ℕ) → weighed s r (map (λ k. weight_of s (formula (ledger_of l) k)) ns)
      ≡ weight_of s (form (formula (ledger_of l)) (line_of r))
  pub sessions : gathered r (map (λ k. sessions_of (formula (ledger_of l) k)) ns)
      ≡ sessions_of (form (formula (ledger_of l)) (line_of r))
  pub balance : Alike (λ k. balanced (formula (ledger_of l) k)) ns (balanced (form (formula (ledger_of l)) (line_of r)))

module _ (r : Row) (p : Parts) (e : numbers p ≡ parts_of r) (l : List ℕ) (f : Formable l r) where
  pub parted : {t : ℕ} → size (form (formula (ledger_of l)) (line_of r)) ≡ t → {q : Parts} → p ≡ q
      → Parted l r t (numbers q)
  parted m {q} g = record {
    each =
        each_part l f.good (numbers q) (parts_there r p q e g l f) (omega (arith, parts_size r p q e g l f, m));
    weight = λ s. at_parts (λ x ns. weighed s x (map (λ k. weight_of s (formula (ledger_of l) k)) ns))
        ∙ weight_row (formula (ledger_of l)) s (line_of r);
    sessions =
        at_parts (λ x ns. gathered x (map (λ k. sessions_of (formula (ledger_of l) k)) ns))
        ∙ sessions_row (formula (ledger_of l)) (line_of r);
    balance =
        subst (λ (ns : List ℕ). Alike (λ k. balanced (formula (ledger_of l) k)) ns
        (balanced (form (formula (ledger_of l)) (line_of r)))) (sym (at_parts (λ x ns. ns)))
        (balance_row (formula (ledger_of l)) (line_of r));
  }
    where
      at_parts : {A : Type 0} (h : Row → List ℕ → A)
          → h r (numbers q) ≡ h (row_of (line_of r)) (parts_of (row_of (line_of r)))
      at_parts h = ap (h r) (parts_are r p q e g) ∙ ap (λ (x : Row). h x (parts_of x)) (sym f.canonical)

-- no formula weighs more than its size
weight_le : (s : ℕ) (a : Formula) → up s a + down s a ≤ size a
unfolding up size
weight_le s (atom p t o) = omega (arith, bit_le ((eqb p 1 || eqb p 2) && eqb t s))
weight_le s one = omega arith
weight_le s (tensor a b) = omega (arith, weight_le s a, weight_le s b)
weight_le s (with a b) = omega (arith, weight_le s a, weight_le s b)
weight_le s (plus a b) = omega (arith, weight_le s a, weight_le s b)
weight_le s (lolli a b) = omega (arith, weight_le s a, weight_le s b)
weight_le s (implies a b) = omega (arith, weight_le s a, weight_le s b)
weight_le s (bang a) = omega (arith, weight_le s a)
weight_le s (at a i) = omega (arith, weight_le s a)
weight_le s (says k a) = omega (arith, weight_le s a)
weight_le s (superset i j) = omega arith
weight_le s (for_every a) = omega (arith, weight_le s a)

-- of the row of a part
module _ {l : List ℕ} {t n : ℕ} (p : Part l t n) {r : Row} (e : r ≡ row_at l n) where
  line_is : line_at (ledger_of l) n ≡ line_of r
  line_is = sym (line_of_row _) ∙ ap line_of (row_is l p.there.0 n ∙ sym e)

  part_is : form (formula (ledger_of l)) (line_of r) ≡ formula (ledger_of l) n
  part_is = ap (form (formula (ledger_of l))) (sym line_is) ∙ sym (p.there.0.bounded.tabled.reads n)

  -- what a call for the part asks
  pub part_asked : (size (form (formula (ledger_of l)) (line_of r)) < t) × Formable l r
  part_asked = (
    omega (arith, p.less, ap size part_is),
    record {
      good = p.there.0;
      canonical = ap row_of (sym line_is) ∙ row_is l p.there.0 n ∙ sym e;
      there = subst (λ (x : Line). There (ledger_of l) (names x)) line_is (p.there.0.bounded.tabled.refs n);
    },
  )

  pub part_weight : (s : ℕ) {x : Weight} → x ≡ weight_of s (form (formula (ledger_of l)) (line_of r))
      → x ≡ weight_of s (formula (ledger_of l) n)
  part_weight s h = h ∙ ap (weight_of _) part_is

  -- no formula of a store weighs much
  pub part_light : (s : ℕ) {x : Weight} → x ≡ weight_of s (form (formula (ledger_of l)) (line_of r)) → Light x
  part_light s h =
      let b = weight_le s (formula (ledger_of l) n) in
      let m = p.there.0.bounded.sizes n in
      subst Light (sym (part_weight s h)) (record { up = omega (arith, b, m); down = omega (arith, b, m) })

  pub part_tries : (f : ℕ → Bool) {x : Tried} → Tries f (sessions_of (form (formula (ledger_of l)) (line_of r))) x
      → Tries f (sessions_of (formula (ledger_of l) n)) x
  part_tries f {x} h = subst (λ (a : Formula). Tries f (sessions_of a) x) part_is h

-- a test of the sessions, from its answers for the parts'
module _ (f : ℕ → Bool) where
  all_append : (xs ys : List ℕ) → all_of f (xs ++ ys) ≡ (all_of f xs && all_of f ys)
  unfolding all_of
  all_append [] ys = refl
  all_append (x ∷ xs) ys = go (f x) (all_append xs ys)
    where
      go : (b : Bool) → all_of f (xs ++ ys) ≡ (all_of f xs && all_of f ys)
          → (b && all_of f (xs ++ ys)) ≡ ((b && all_of f xs) && all_of f ys)
      go true e = e
      go false e = refl

  pub tries_at : {ss zs : List ℕ} {x : Tried} → ss ≡ zs → Tries f ss x → Tries f zs x
  tries_at {x = x} e h = subst (λ (xs : List ℕ). Tries f xs x) e h

  -- of one session
  pub tries_so : (s : ℕ) → f s ≡ true → Tries f (s ∷ []) (Ok (Some s))
  unfolding all_of
  tries_so s e = record { all = sym (and-true (f s) ∙ e); sure = e }

  pub tries_not : (s : ℕ) → f s ≡ false → Tries f (s ∷ []) (Err s)
  unfolding all_of
  tries_not s e = record { all = sym (and-true (f s) ∙ e); sure = tt }

  -- of a row without parts
  pub tries_atom : (r : Row) {x : Tried} → atomic r.letter ≡ true → Tries f (r.b ∷ []) x → Tries f (gathered r []) x
  tries_atom r e h = rw e h

  pub tries_other : (r : Row) (x : Maybe ℕ) → atomic r.letter ≡ false → Sure f x → Tries f (gathered r []) (Ok x)
  unfolding all_of
  tries_other r x n h = rw n (record { all = refl; sure = h })

  -- of two parts: what the left one is not, both are not, whichever session the answer names; if it is, the right one
  -- decides
  module _ (xs ys : List ℕ) where
    pub tries_left : {s : ℕ} → Tries f xs (Err s) → (x : Tried) → IsErr x → Tries f (xs ++ ys) x
    tries_left h (Ok x) e = absurd (no_truth e)
    tries_left h (Err s) e = record { all = sym (all_append xs ys ∙ rw (sym h.all)); sure = tt }

    pub tries_right : {x : Maybe ℕ} {y : Tried} → Tries f xs (Ok x) → Tries f ys y → Tries f (xs ++ ys) y
    tries_right h k = record { all = k.all ∙ sym (all_append xs ys ∙ rw (sym h.all)); sure = k.sure }

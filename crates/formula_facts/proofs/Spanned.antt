-- The span of a row's formula: its sessions, and what it has of the lowest.
use mathlib.Core.Path.{◌≡◌, refl, sym, ap, ap₂, subst, ◌∙◌}
use mathlib.Core.Logic.{inl}
use mathlib.Core.Bool.{Bool, true, false, ◌&&◌}
use Prim.Native.Nat.{ℕ, ◌+◌, ◌*◌, ◌%◌, ◌≤◌}
use Prim.Native.Char.{code}
use native.Mathlib.Omega.{arith}
use native.Mathlib.Nat.{add-zero}
use native.Mathlib.Decide.{ℕ_discrete}
use lib.Dec.{eqb}
use borrow.Author.Tests.{eq-eqb, ne_eqb, eqb-true}
use Rattle.logic.specs.Choice.{pick}
use Rattle.logic.specs.Formula.{Formula, says, size, count, seat, place, house, seats, places, house_under, bit}
use Rattle.logic.specs.Multiset.{Every, sum}
use Rattle.logic.specs.Packed.{place_unit, house_unit, under_unit, counts, house_in, under_in}
use Rattle.logic.specs.Span.{Spans}
use Rattle.logic.proofs.Packed.{counts_le, counts_none, Unpacked, unpacked}
use Rattle.logic.proofs.Spans.{wider}
use Rattle.logic.proofs.Tests.{no_truth}
use Rattle.request.specs.Request.{Line}
use Rattle.steps.specs.declared.Row.{Row}
use Rattle.ledger.specs.Table.{form, names, row_of}
use Rattle.ledger.specs.Checks.{max_size}
use Rattle.store.specs.Store.{line_of, Canonical}
use Rattle.formula_parts.specs.Parts.{atomic}
use Rattle.formula_parts.proofs.Sessions.{atom_line, parts_line}
use Rattle.formula_facts.specs.declared.Span.{Span}
use Rattle.formula_facts.specs.Gives.{own_counts, said_counts, most_gives, SpanOf, given_of, BothOf}

-- Formulas together

module _ (a : Formula) (x : Span) (w : SpanOf a x) where
  -- of a session no higher than its lowest
  given_counts : (s : ℕ) → s ≤ x.low → given_of x s ≡ counts s a
  given_counts s h = go (ℕ_discrete x.low s)
    where
      go : Dec (x.low ≡ s) → given_of x s ≡ counts s a
      go (yes e) = rw (eq-eqb _ _ e) (w.given ∙ ap (λ (t : ℕ). counts t a) e)
      go (no e) = rw (ne_eqb _ _ e) (sym (counts_none s a w.between (inl (omega arith))))

  pub gives_small : size a ≤ max_size → x.gives ≤ most_gives
  gives_small h = omega (arith, w.given, counts_le x.low a)

pub given_le : (x : Span) (s : ℕ) → given_of x s ≤ x.gives
given_le x s = go (eqb x.low s)
  where
    go : (b : Bool) → pick b x.gives 0 ≤ x.gives
    go true = omega arith
    go false = omega arith

module _ (a b : Formula) (x y z : Span) (v : SpanOf a x) (w : SpanOf b y) (o : BothOf x y z) where
  pub first_spans : Spans a z.low z.high
  first_spans = wider a o.lows.0 o.highs.0 v.between

  pub second_spans : Spans b z.low z.high
  second_spans = wider b o.lows.1 o.highs.1 w.between

  pub both_given : z.gives ≡ counts z.low a + counts z.low b
  both_given = o.given ∙ ap₂ ◌+◌ (given_counts a x v _ o.lows.0) (given_counts b y w _ o.lows.1)

-- An atom's counts, of its own session
own_counts_holds : (p t : ℕ)
    → bit (eqb p seat && eqb t t) + place_unit * bit (eqb p place && eqb t t)
    + house_unit * bit (false && (eqb p seat && eqb t t)) + under_unit * bit (true && (eqb p seat && eqb t t))
    ≡ own_counts p
own_counts_holds p t = go (eqb t t) (eqb p seat) (eqb p place) (eq-eqb t t refl) refl refl
  where
    go : (a b c : Bool) → a ≡ true → eqb p seat ≡ b → eqb p place ≡ c
        → bit (b && a) + place_unit * bit (c && a) + house_unit * bit (false && (b && a))
        + under_unit * bit (true && (b && a))
        ≡ pick b (1 + under_unit) (pick c place_unit 0)
    go false b c n e f = absurd (no_truth n)
    go true true true n e f = absurd (omega (arith, eqb-true p seat e, eqb-true p place f))
    go true true false n e f = omega arith
    go true false true n e f = omega arith
    go true false false n e f = omega arith

-- those of ⟨K⟩ from its part's
said_counts_holds : (s k : ℕ) (a : Formula) → size a ≤ max_size → counts s (says k a) ≡ said_counts k (counts s a)
unfolding counts count house_under
said_counts_holds s k a le = go (eqb k house) (unpacked s a (omega arith))
  where
    go : (b : Bool) → Unpacked s a (counts s a)
        → seats s a + place_unit * places s a + house_unit * house_under b s a + under_unit * house_under b s a
        ≡ counts s a % house_unit + (house_unit + under_unit) * pick b (under_in (counts s a)) (house_in (counts s a))
    go true u = omega (arith, u.low, u.under_in_holds)
    go false u = omega (arith, u.low, u.house_in_holds)

-- a row's counts, where its parts' together are n
abbrev pub wrapped : Row → ℕ → ℕ
wrapped r n = pick (eqb r.letter (code "s")) (said_counts r.a n) n

-- T gives the formulas of the numbers that a line names
module _ (T : ℕ → Formula) where
  own_line : (l : Line) → atomic (row_of l).letter ≡ true → counts (row_of l).b (form T l) ≡ own_counts (row_of l).a
  unfolding counts count house_under
  own_line (Line.atom p t) e = own_counts_holds p t
  own_line Line.one e = absurd (no_truth e)
  own_line (Line.tensor i j) e = absurd (no_truth e)
  own_line (Line.with i j) e = absurd (no_truth e)
  own_line (Line.plus i j) e = absurd (no_truth e)
  own_line (Line.lolli i j) e = absurd (no_truth e)
  own_line (Line.implies i j) e = absurd (no_truth e)
  own_line (Line.bang i) e = absurd (no_truth e)
  own_line (Line.at i w) e = absurd (no_truth e)
  own_line (Line.says k i) e = absurd (no_truth e)
  own_line (Line.superset v w) e = absurd (no_truth e)
  own_line (Line.named p t k) e = own_counts_holds p t
  own_line (Line.for_every i) e = absurd (no_truth e)

  module _ (small : (k : ℕ) → size (T k) ≤ max_size) where
    wrapped_line : (s : ℕ) (l : Line) → atomic (row_of l).letter ≡ false
        → counts s (form T l) ≡ wrapped (row_of l) (sum (λ k. counts s (T k)) (names l))
    unfolding counts count house_under sum
    wrapped_line s (Line.atom p t) n = absurd (no_truth (sym n))
    wrapped_line s Line.one n = refl
    wrapped_line s (Line.tensor i j) n = omega arith
    wrapped_line s (Line.with i j) n = omega arith
    wrapped_line s (Line.plus i j) n = omega arith
    wrapped_line s (Line.lolli i j) n = omega arith
    wrapped_line s (Line.implies i j) n = omega arith
    wrapped_line s (Line.bang i) n = omega arith
    wrapped_line s (Line.at i w) n = omega arith
    wrapped_line s (Line.says k i) n =
        said_counts_holds s k (T i) (small i) ∙ ap (said_counts k) (sym (add-zero (counts s (T i))))
    wrapped_line s (Line.superset v w) n = refl
    wrapped_line s (Line.named p t k) n = absurd (no_truth (sym n))
    wrapped_line s (Line.for_every i) n = omega arith

-- of a row
module _ (T : ℕ → Formula) (r : Row) (c : Canonical r) where
  letter_is : {b : Bool} → atomic r.letter ≡ b → atomic (row_of (line_of r)).letter ≡ b
  letter_is e = ap (λ (z : Row). atomic z.letter) c ∙ e

  pub atom_span : atomic r.letter ≡ true → {g : ℕ} → g ≡ own_counts r.a
      → SpanOf (form T (line_of r)) (record { low = r.b; high = r.b; gives = g })
  atom_span e f = record {
    between = subst (λ (z : Row). Spans (form T (line_of r)) z.b z.b) c (atom_line T (line_of r) (letter_is e));
    given = f ∙ sym (subst (λ (z : Row). counts z.b (form T (line_of r)) ≡ own_counts z.a) c
        (own_line T (line_of r) (letter_is e)));
  }

  pub parts_span : ((k : ℕ) → size (T k) ≤ max_size) → atomic r.letter ≡ false → (x : Span)
      → Every (λ k. Spans (T k) x.low x.high) (names (line_of r)) → {n : ℕ}
      → n ≡ sum (λ k. counts x.low (T k)) (names (line_of r)) → x.gives ≡ wrapped r n → SpanOf (form T (line_of r)) x
  parts_span small e x h f g = record {
    between = parts_line T (line_of r) x.low x.high (letter_is e) h;
    given = g ∙ ap (wrapped r) f ∙ sym (subst (λ (z : Row). counts x.low (form T (line_of r))
        ≡ wrapped z (sum (λ k. counts x.low (T k)) (names (line_of r)))) c
        (wrapped_line T small x.low (line_of r) (letter_is e)));
  }

-- The ways out of word.
use mathlib.Core.Path.{◌≡◌, sym, ap, ◌∙◌}
use mathlib.Core.List.{List, ◌∷◌}
use mathlib.Core.Bool.{Bool}
use Prim.Native.Nat.{ℕ}
use lib.Dec.{leb, ltb}
use lib.ListN.{length}
use borrow.Author.Tests.{leb-false, ltb-false}
use Rattle.logic.specs.declared.Interval.{Interval}
use Rattle.logic.specs.Interval.{reversed, broken}
use Rattle.logic.specs.Formula.{size, plain}
use Rattle.logic.specs.Counts.{balanced}
use Rattle.request.specs.Request.{word, line_intervals, intervals}
use Rattle.steps.specs.declared.Row.{Row}
use Rattle.ledger.specs.declared.Answer.TheVariants.{Accepted, Refused}
use Rattle.ledger.specs.Table.{form, names, row_of}
use Rattle.ledger.specs.Ledger.{formula}
use Rattle.ledger.specs.Checks.{Check, ◌if◌, any_of, max_size, max_formulas, missing, oversize, same_row, same_line}
use Rattle.ledger.specs.Checks.{checks}
use Rattle.ledger.specs.Calls.{with_line, accept}
use Rattle.ledger.specs.Statements.{from_start, ◌▸◌}
use Rattle.store.specs.Store.{line_of, ledger_of, Good, Canonical, StandsFor, Wordable}
use Rattle.formula_facts.specs.Facts.{Formable, HoldersOf}
use Rattle.formula_facts.specs.declared.Span.{Span}
use Rattle.formula_facts.specs.Gives.{SpanOf}
use Rattle.formula_facts.proofs.Named.{none_missing}
use Rattle.call_checks.specs.declared.Verdict.{Verdict}
use Rattle.call_checks.specs.declared.Verdict.TheVariants.{Passed, Failed}
use Rattle.call_checks.specs.Verdicts.{Tells}
use Rattle.call_checks.proofs.Verdicts.{shown, reworded}
use Rattle.call_contracts.specs.Called.{Handled}
use Rattle.call_contracts.proofs.Laws.{refused, accepted}
use Rattle.call_word.specs.Wording.{fit_checks, Past, Named, Fitting}

-- a row of named parts stands for a formula
pub named_formable : {l : List ℕ} {x : Row} → Named l x → Formable l x
named_formable {l} {x} n = record {
  good = n.good;
  canonical = n.canonical;
  there = none_missing (ledger_of l) (names (line_of x)) n.there;
}

-- 3 and 43, by their verdicts
intervals_told : {n : ℕ} (p : Interval → Bool) (x : Row) {v : Verdict}
    → Tells n v (any_of p (line_intervals (line_of x)))
    → Tells n v (any_of p (intervals (word (line_of x))))
unfolding intervals
intervals_told p x h = h

-- the checks after 3
abbrev pub after_3 : List ℕ → Row → List Check
after_3 l x = (43 if any_of broken (intervals (word (line_of x)))) ∷ checks (ledger_of l) (word (line_of x))

pub past_3 : (l : List ℕ) (x : Row) {v : Verdict} → Tells 3 v (any_of reversed (line_intervals (line_of x))) → v
    ≡ Passed
    → Past l x (after_3 l x)
past_3 l x h e = from_start ▸ shown (intervals_told reversed x h) e

module _ (l : List ℕ) (x : Row) where
  pub past_43 : {v : Verdict} → Past l x (after_3 l x) → Tells 43 v (any_of broken (line_intervals (line_of x)))
      → v ≡ Passed
      → Past l x ((10 if any_of (missing (ledger_of l)) (names (line_of x))) ∷ fit_checks (ledger_of l) (line_of x))
  unfolding checks
  past_43 s h e = s ▸ shown (intervals_told broken x h) e

  pub word_reversed : {v : Verdict} → Good l → Tells 3 v (any_of reversed (line_intervals (line_of x))) → v ≡ Failed
      → Handled l (word (line_of x)) (Refused 3 0) l
  word_reversed g h e = refused g from_start (shown (intervals_told reversed x h) e)

  pub word_broken : {v : Verdict} → Good l → Past l x (after_3 l x)
      → Tells 43 v (any_of broken (line_intervals (line_of x))) → v ≡ Failed
      → Handled l (word (line_of x)) (Refused 43 0) l
  word_broken g s h e = refused g s (shown (intervals_told broken x h) e)

  -- 12, 13 and 14 as the code tests them
  pub sized : {z : ℕ} {v : Verdict} → z ≡ size (form (formula (ledger_of l)) (line_of x)) → Tells 12 v (ltb max_size z)
      → Tells 12 v (oversize (ledger_of l) (line_of x))
  sized e h = reworded h (ap (ltb max_size) e)

  pub known : {b : Bool} {v : Verdict} → Canonical x → b ≡ any_of (λ m. same_row x (row_of m)) (ledger_of l).lines
      → Tells 13 v b → Tells 13 v (any_of (same_line (line_of x)) (ledger_of l).lines)
  known c e h =
      reworded h (e ∙ sym (ap (λ (r : Row). any_of (λ m. same_row r (row_of m)) (ledger_of l).lines) c))

pub counted : (l : List ℕ) {n : ℕ} {v : Verdict} → n ≡ length (ledger_of l).lines → Tells 14 v (leb max_formulas n)
    → Tells 14 v (leb max_formulas (length (ledger_of l).lines))
counted l e h = reworded h (ap (leb max_formulas) e)

module _ {l : List ℕ} {x : Row} {z : ℕ} (f : Fitting l x z) where
  pub word_added : {p b u w : Bool} → p ≡ plain (form (formula (ledger_of l)) (line_of x))
      → b ≡ balanced (form (formula (ledger_of l)) (line_of x)) → HoldersOf l x u w → {y : Span}
      → SpanOf (form (formula (ledger_of l)) (line_of x)) y
      → Wordable l x (record {
        size = z;
        plain = p;
        balanced = b;
        unbound = u;
        quantified = w;
        low = y.low;
        high = y.high;
        gives = y.gives;
      })
  word_added q y h s = record {
    good = f.named.good;
    room = leb-false max_formulas (length (ledger_of l).lines) f.room;
    canonical = f.named.canonical;
    there = (named_formable f.named).there;
    facts = record {
      sized = f.sized;
      plain_kept = q;
      balancedly = y;
      unbound_kept = h.unbound;
      quantified_kept = h.quantified;
      spanned = s.between;
      given = s.given;
    };
    small = ltb-false max_size z f.small;
  }

  pub word_done : {l' : List ℕ} {n : ℕ} → n ≡ length (ledger_of l).lines
      → StandsFor l' (with_line (ledger_of l) (line_of x)) → Handled l (word (line_of x)) (Accepted n) l'
  unfolding accept
  word_done e d = accepted f.so_far (ap Accepted e) tt d

-- Formula lines of a text, taken one by one.
use mathlib.Core.Path.{◌≡◌, refl, sym, ap, subst, ◌∙◌}
use mathlib.Core.List.{List, [], ◌∷◌, ◌++◌, append_assoc, append-nil}
use mathlib.Core.Option.{Option, none, some}
use Prim.Native.Nat.{ℕ, zero, suc, ◌+◌, ◌-◌, ◌≤◌, ◌<◌}
use native.Mathlib.Omega.{arith}
use lib.ListN.{length, length-append}
use Rattle.logic.specs.Choice.{pick}
use Rattle.request.specs.Text.{and_then}
use Rattle.request.specs.Request.{Line}
use Rattle.request.specs.Read.{formula_line}
use Rattle.steps.specs.declared.Row.{Row}
use Rattle.ledger.specs.Ledger.{Ledger}
use Rattle.ledger.specs.Calls.{with_line}
use Rattle.ledger.proofs.Answers.{some_none, some_inj}
use Rattle.snapshot.specs.Snapshot.{line_rules, fails, lines_only, bad_lines}
use Rattle.read_formulas.specs.Line.{read_line, rowed}
use Rattle.read_formulas.proofs.RowLines.{row_line}
use Rattle.read_fields.proofs.Then.{then_same, then_none, then_pair, by_test}
use Rattle.read_rest.specs.LinesRead.{read_lines}
use Rattle.store.specs.Store.{line_of, ledger_of, Canonical, Good}
use Rattle.store.proofs.LinesOfRows.{line_of_row, row_canonical}
use Rattle.text_open.specs.Opened.{line_added, lines_added, LineAsked, LinesAsked}

-- the line of a row that was read
module _ (b : List ℕ) {x : Row} {c : List ℕ} (e : rowed (read_line formula_line b) ≡ some (x, c)) where
  pub line_read : read_line formula_line b ≡ some (line_of x, c)
  line_read =
      let l = row_line (read_line formula_line b) e in
      l.is ∙ ap (λ (y : Line). some (y, c)) (sym (line_of_row l.line) ∙ ap line_of l.row)

  pub row_read : Canonical x
  row_read = let l = row_line (read_line formula_line b) e in subst Canonical l.row (row_canonical l.line)

-- a line that was added
line_more : (t u : Ledger) (x : Line) → line_added t x ≡ some u → length u.lines ≡ length t.lines + 1
unfolding line_added
line_more t u x e = by_test (fails (line_rules t x))
    (λ b. let z : ◌≡◌ {A = Option Ledger} none (some u) = rw b at e in absurd (some_none (sym z)))
    (λ b. let z : ◌≡◌ {A = Option Ledger} (some (with_line t x)) (some u) = rw b at e in
    ap (λ (v : Ledger). length v.lines) (sym (some_inj z)) ∙ length-append t.lines (x ∷ []))

-- k of n lines have been taken, and the bytes of b are left
pub record Taking (o : Option (Ledger × List ℕ)) (n : ℕ) (l b : List ℕ) (k : ℕ) : Type 0 where
  pub asked : LinesAsked l (n - k)
  pub takes : o ≡ lines_added (ledger_of l) (n - k) b

pub take_start : {l : List ℕ} {n : ℕ} (b : List ℕ) → LinesAsked l n
    → Taking (lines_added (ledger_of l) n b) n l b 0
take_start {n} b a = let q : n - 0 ≡ n = omega arith in record { asked = rw q a; takes = rw q }

module _ {o : Option (Ledger × List ℕ)} {n : ℕ} {l b : List ℕ} {k : ℕ} (h : Taking o n l b k) where
  pub take_end : n ≤ k → some (ledger_of l, b) ≡ o
  unfolding lines_added
  take_end m = let q : n - k ≡ 0 = omega arith in sym (h.takes ∙ rw q)

  module _ (more : k < n) where
    left : n - k ≡ suc (n - (k + 1))
    left = omega arith

    pub no_line : read_line formula_line b ≡ none → none ≡ o
    unfolding lines_added and_then
    no_line e = sym (h.takes ∙ rw (left, lines_added, e, and_then))

    pub bad_line : (x : Line) {c : List ℕ} → read_line formula_line b ≡ some (x, c)
        → line_added (ledger_of l) x ≡ none → none ≡ o
    unfolding lines_added and_then
    bad_line x e f = sym (h.takes ∙ rw (left, lines_added, e, and_then, f))

    pub line_asked : (x : Row) → Canonical x → LineAsked l x
    line_asked x r = record {
      good = h.asked.good;
      canonical = r;
      room = omega (arith, h.asked.room, left);
    }

    pub take_next : {m c : List ℕ} (x : Line) → read_line formula_line b ≡ some (x, c)
        → line_added (ledger_of l) x ≡ some (ledger_of m) → Good m → Taking o n m c (k + 1)
    unfolding lines_added and_then
    take_next {m} x e f g = record {
      asked = record {
        good = g;
        room = omega (arith, line_more (ledger_of l) (ledger_of m) x f, h.asked.room, left);
      };
      takes = h.takes ∙ rw (left, lines_added, e, and_then, f);
    }

-- all together
pub taken_lines : (n : ℕ) (earlier : List Line) (b : List ℕ) → lines_added (lines_only earlier) n b
    ≡ and_then (read_lines n formula_line b) (λ p.
    pick (bad_lines earlier p.0) none (some (lines_only (earlier ++ p.0), p.1)))
unfolding lines_added line_added read_lines bad_lines and_then
taken_lines zero earlier b = ap (λ (ls : List Line). some (lines_only ls, b)) (sym (append-nil earlier))
taken_lines (suc n) earlier b =
    then_same (read_line formula_line b) (λ p. by_test (fails (line_rules (lines_only earlier) p.0))
    (λ e. rw e (sym (then_none (read_lines n formula_line p.1) (λ q. refl))))
    (λ e. rw e (taken_lines n (earlier ++ (p.0 ∷ [])) p.1
    ∙ then_same (read_lines n formula_line p.1) (λ q.
    ap (λ (ls : List Line). pick (bad_lines (earlier ++ (p.0 ∷ [])) q.0) none (some (lines_only ls, q.1)))
    (append_assoc earlier (p.0 ∷ []) q.0)))))
    ∙ sym (then_pair (read_line formula_line b) (λ p. read_lines n formula_line p.1) (λ p q. (p.0 ∷ q.0, q.1))
    (λ z. pick (bad_lines earlier z.0) none (some (lines_only (earlier ++ z.0), z.1))))

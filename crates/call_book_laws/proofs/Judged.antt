-- The steps of a booking, judged on the array of labels, are judged as the definition judges them.
use mathlib.Core.Path.{◌≡◌, refl, sym, ap, subst, ◌∙◌}
use mathlib.Core.List.{List, map}
use mathlib.Core.Bool.{Bool, true, false}
use Prim.Native.Nat.{ℕ, ◌+◌, ◌≤◌, ◌<◌}
use native.Mathlib.Omega.{arith}
use lib.Dec.{eqb}
use lib.ListN.{length, replicate, length-map, length-replicate}
use borrow.Author.Tests.{eqb-true, eqb-false}
use Rattle.std.specs.Prelude.{Result}
use Rattle.logic.specs.declared.Interval.{Interval}
use Rattle.logic.proofs.Stores.{replicate_is}
use Rattle.request.specs.Range.{label_count}
use Rattle.request.specs.Request.{Step}
use Rattle.steps.specs.declared.Hypothesis.{Hypothesis}
use Rattle.steps.specs.declared.Sequent.{Sequent}
use Rattle.steps.specs.declared.Goal.TheVariants.{Holds}
use Rattle.steps.specs.Check.{max_labels, puts, Outcome, done, stopped, check_of}
use Rattle.ledger.specs.declared.Credential.{Credential}
use Rattle.ledger.specs.Ledger.{row, held}
use Rattle.ledger.specs.Checks.{LabelTable, no_labels, read_label, write_label, hypothesis, booking_sequent}
use Rattle.ledger.specs.Checks.{verdict, steps}
use Rattle.steps.specs.Instance.{instance_row}
use Rattle.store_cells.specs.Layout.{row_at}
use Rattle.store.specs.Store.{ledger_of, Good}
use Rattle.store.proofs.Views.{rows_are}
use Rattle.step_rows.specs.LabelRows.{no_hypothesis, label_at, put_label}
use Rattle.step_rows.specs.StepRows.{steps_from}
use Rattle.step_rows.proofs.LabelTable.{held_table, held_good}
use Rattle.step_checker.specs.declared.Stop.{Stop}
use Rattle.step_checker.specs.Cycle.{refusal_of, Answers}
use Rattle.step_premises.specs.Begin.{sequent}
use Rattle.ledger.specs.Checks.{dead}
use Rattle.ledger.proofs.Credentials.{any_none, held_all}
use Rattle.step_rows.proofs.StepRows.{length_from}
use Rattle.read_heads.specs.declared.Head.{Head}
use Rattle.call_holds.specs.declared.Sides.{Sides}
use Rattle.call_book_laws.specs.BookingFound.{Steppable}
use Rattle.call_book_laws.proofs.Same.{Shown, shown_outcome, puts_shown, puts_stay, check_shown}

-- what a label stands for in the array, as the definition's table
writes : (t : List Hypothesis) (n : ℕ) (h : Hypothesis) → held_table.Good t → n < max_labels
    → label_at (put_label t n h) ≡ write_label (label_at t) n h
writes t n h g l i k = go (eqb k n) refl i
  where
    go : (b : Bool) → eqb k n ≡ b
        → label_at (put_label t n h) k ≡ elim b as (λ z. Hypothesis) [ true ↦ h | false ↦ label_at t k ]
    go true e = ap (label_at (put_label t n h)) (eqb-true k n e) ∙ held_table.reads t n h g l
    go false e = held_table.keeps t n k h g (eqb-false k n e)

shown : Shown label_at put_label read_label write_label label_at
shown = record {
  Good = held_table.Good;
  stays = held_table.stays;
  reads = λ t g. refl;
  writes = writes;
}

-- an array at whose labels nothing stands shows the empty table
abbrev untaken : List Hypothesis
untaken = replicate label_count no_hypothesis

no_labels_holds : label_at untaken ≡ no_labels
no_labels_holds i k = replicate_is no_hypothesis label_count k i

verdict_told : (o : Outcome (List Hypothesis)) → verdict (shown_outcome label_at o) ≡ verdict o
unfolding verdict
verdict_told (done ss t n) = refl
verdict_told (stopped c n) = refl

untaken_good : held_table.Good untaken
untaken_good = held_good untaken (length-replicate label_count no_hypothesis)

module _ (l : List ℕ) (cs : List Credential) (n : ℕ) (i : Interval) (ss : List Step) where
  pub steps_judged : {total next : ℕ} {table table' : List Hypothesis} {q : Sequent} {r : Result (Unit {0}) Stop}
      → Good l → length ss ≡ total → length cs ≡ next → length cs ≤ max_labels
      → puts put_label untaken 0 (map hypothesis cs) ≡ table → booking_sequent cs n i ≡ q
      → Answers (check_of (instance_row (row_at l)) label_at put_label total ss table next q) r table'
      → steps (ledger_of l) cs n i ss ≡ refusal_of r
  unfolding steps shown
  steps_judged {total} {next} {table} {table'} {q} {r} g t m few e s a =
      ap (λ (u : LabelTable). verdict (check_of (instance_row (row (ledger_of l))) read_label write_label (length ss) ss
      u (length cs) (booking_sequent cs n i)))
      (ap (λ (u : LabelTable). puts write_label u 0 (map hypothesis cs)) (sym no_labels_holds)
      ∙ puts_shown shown untaken 0 (map hypothesis cs) untaken_good
      (omega (arith, length-map cs hypothesis)))
      ∙ rw (rows_are l g, t, m, s, e) (ap verdict (check_shown shown (instance_row (row_at l)) total ss table next q
      (subst held_table.Good e (puts_stay shown untaken 0 (map hypothesis cs) untaken_good))))
      ∙ verdict_told (check_of (instance_row (row_at l)) label_at put_label total ss table next q)
      ∙ sym a.same

-- the same for a booking on its way, with what the code has at hand
pub steps_told : {l : List ℕ} {h : Head} {serials rows : List ℕ} {table table' : List Hypothesis}
    {s : Sides} {q : Sequent} {r : Result (Unit {0}) Stop}
    → Steppable l h serials rows table s
    → q ≡ sequent s.unrestricted s.linear (Holds h.formula h.interval)
    → Answers (check_of (instance_row (row_at l)) label_at put_label h.steps (steps_from rows 0 h.steps) table
    h.holds q) r table'
    → steps (ledger_of l) (held (ledger_of l).live serials) h.formula h.interval
    (steps_from rows 0 h.steps) ≡ refusal_of r
unfolding max_labels
steps_told {l} {h} {serials} {rows} {s = s} b q a =
    let w = b.before.lines in
    let all = held_all (ledger_of l).live serials (any_none (dead (ledger_of l)) serials b.holds.alive) in
    steps_judged l (held (ledger_of l).live serials) h.formula h.interval (steps_from rows 0 h.steps)
    w.good (length_from rows 0 h.steps) (all ∙ w.held) (omega (arith, all, w.held, w.few)) b.holds.shown
    ((λ i. record {
      unrestricted = b.holds.unrestricted i;
      linear = b.holds.linear i;
      goal = Holds h.formula h.interval;
    }) ∙ sym q) a

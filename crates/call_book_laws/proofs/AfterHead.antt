-- What becomes of the bytes of a booking, by what is read after its head.
use mathlib.Core.Path.{◌≡◌, refl, sym, ap}
use mathlib.Core.List.{List, ◌∷◌}
use mathlib.Core.Option.{some}
use mathlib.Core.Bool.{Bool, ◌||◌}
use Prim.Native.Nat.{ℕ}
use native.Mathlib.Omega.{arith}
use lib.ListN.{length, take}
use lib.Seq.{length-take-le}
use Rattle.std.specs.Prelude.{Some, None}
use Rattle.logic.specs.declared.Interval.{Interval}
use Rattle.logic.specs.Interval.{reversed, broken}
use Rattle.request.specs.Request.{intervals, steps_intervals}
use Rattle.request.specs.Read.{hold_line, step_line}
use Rattle.ledger.specs.declared.Answer.{Answer}
use Rattle.ledger.specs.declared.Answer.TheVariants.{Refused}
use Rattle.ledger.specs.Checks.{◌if◌, any_of, checks}
use Rattle.ledger.specs.Statements.{from_start, ◌▸◌}
use Rattle.store.specs.Store.{ledger_of}
use Rattle.step_rows.specs.StepRows.{steps_from}
use Rattle.read_heads.specs.declared.Head.{Head}
use Rattle.read_rest.specs.LinesRead.{read_lines, all_lines, HoldsIs, StepsAre, StepsIs}
use Rattle.read_rest.specs.declared.Faults.{Faults}
use Rattle.read_rest.proofs.Several.{no_holds, no_steps, booking_read}
use Rattle.read_rest.proofs.Told.{no_lines as no_step_lines}
use Rattle.call_checks.specs.declared.Verdict.{Verdict}
use Rattle.call_checks.specs.declared.Verdict.TheVariants.{Passed, Failed}
use Rattle.call_checks.specs.Verdicts.{Tells}
use Rattle.call_checks.proofs.Verdicts.{shown, reworded}
use Rattle.call_contracts.specs.Called.{Handled, Called}
use Rattle.call_contracts.proofs.Laws.{refused, called_broken, called_read}
use Rattle.call_book_laws.specs.BookingFound.{booking_at, Opened, Headed, Past, ReadLines}

module _ {l b c : List ℕ} {h : Head} (o : Opened l h) (e : Headed h c b) where
  pub holds_broken : {d serials : List ℕ}
      → HoldsIs (read_lines h.holds hold_line c) d h.holds serials None → Called l b (Refused 2 0) l
  holds_broken r = called_broken o.good e.short (no_holds h c e.reads (sym r.lines))

-- its holds have been read, and the bytes of d are left
pub record ReadHolds (l : List ℕ) (h : Head) (c serials d : List ℕ) : Type 0 where
  pub opened : Opened l h
  pub held : length serials ≡ h.holds
  pub lines : some (serials, d) ≡ read_lines h.holds hold_line c

pub holds_read : {l c d serials : List ℕ} {h : Head} {u : Unit {0}} → Opened l h
    → HoldsIs (read_lines h.holds hold_line c) d h.holds serials (Some u) → ReadHolds l h c (take h.holds serials) d
holds_read {serials = serials} {h} o r = record {
  opened = o;
  held = length-take-le h.holds serials (omega (arith, o.range.holds.most, r.long));
  lines = r.lines;
}

module _ {l b c d serials : List ℕ} {h : Head} (r : ReadHolds l h c serials d) (e : Headed h c b) where
  pub steps_broken : {rows : List ℕ} → StepsIs (all_lines h.steps step_line d) h.steps rows None
      → Called l b (Refused 2 0) l
  steps_broken n = called_broken r.opened.good e.short (no_steps h c e.reads (sym r.lines) (no_step_lines n))

-- and its steps, with what is wrong with their intervals
pub record ReadSteps (l : List ℕ) (h : Head) (c serials d rows : List ℕ) (f : Faults) : Type 0 where
  pub holds : ReadHolds l h c serials d
  pub steps : StepsAre (all_lines h.steps step_line d) (steps_from rows 0 h.steps) f.reversed f.broken

pub steps_read : {l c d serials rows : List ℕ} {h : Head} {f : Faults} → ReadHolds l h c serials d
    → StepsIs (all_lines h.steps step_line d) h.steps rows (Some f) → ReadSteps l h c serials d rows f
steps_read r s = record { holds = r; steps = s.lines _ refl }

module _ {l c d serials rows : List ℕ} {h : Head} {f : Faults} (r : ReadSteps l h c serials d rows f) where
  pub lines_handled : {b l' : List ℕ} {a : Answer} → Headed h c b → Handled l (booking_at h serials rows) a l'
      → Called l b a l'
  lines_handled e d = called_read e.short (booking_read h c e.reads (sym r.holds.lines) r.steps.steps) d

  -- 3 and 43: all intervals of the booking, the goal's and the steps'
  intervals_told : {n : ℕ} (p : Interval → Bool) {v : Verdict} {z : Bool}
      → any_of p (steps_intervals (steps_from rows 0 h.steps)) ≡ z → Tells n v (p h.interval || z)
      → Tells n v (any_of p (intervals (booking_at h serials rows)))
  unfolding intervals any_of
  intervals_told p e t = reworded t (ap (λ (z : Bool). p h.interval || z) (sym e))

  pub lines_reversed : {b : List ℕ} {v : Verdict} → Headed h c b → Tells 3 v (reversed h.interval || f.reversed)
      → v ≡ Failed → Called l b (Refused 3 0) l
  lines_reversed s t e =
      lines_handled s (refused r.holds.opened.good from_start
      (shown (intervals_told reversed r.steps.reversals t) e))

  module _ {v : Verdict} (o : Tells 3 v (reversed h.interval || f.reversed)) (p : v ≡ Passed) where
    past_3 : Past l h serials rows ((43 if any_of broken (intervals (booking_at h serials rows)))
        ∷ checks (ledger_of l) (booking_at h serials rows))
    past_3 = from_start ▸ shown (intervals_told reversed r.steps.reversals o) p

    pub lines_broken : {b : List ℕ} {w : Verdict} → Headed h c b → Tells 43 w (broken h.interval || f.broken)
        → w ≡ Failed → Called l b (Refused 43 0) l
    lines_broken s t e =
        lines_handled s (refused r.holds.opened.good past_3 (shown (intervals_told broken r.steps.breaks t) e))

    pub lines_read : {w : Verdict} → Tells 43 w (broken h.interval || f.broken) → w ≡ Passed
        → ReadLines l h serials rows
    unfolding checks
    lines_read t e = record {
      good = r.holds.opened.good;
      held = r.holds.held;
      few = r.holds.opened.range.holds.most;
      steps = r.holds.opened.range.steps.most;
      so_far = past_3 ▸ shown (intervals_told broken r.steps.breaks t) e;
    }

-- A later arrival with the same proof.
use mathlib.Core.Path.{◌≡◌, refl, sym, ap, ◌∙◌}
use mathlib.Core.List.{List}
use mathlib.Core.Option.{none, some}
use mathlib.Core.Bool.{true}
use Prim.Native.Nat.{ℕ}
use native.Mathlib.Omega.{arith}
use Rattle.logic.specs.declared.Interval.{Interval}
use Rattle.logic.specs.Interval.{◌⊇◌, WellFormed, has}
use Rattle.logic.specs.Derives.{holds}
use Rattle.logic.specs.Statements.{at_holds}
use Rattle.logic.proofs.Intervals.{has_decides, within_ends}
use Rattle.request.specs.Request.{Booking, book, intervals}
use Rattle.request.specs.Read.{request_of}
use Rattle.request.specs.Write.{ended_lines, head_fields, more_lines, request_texts, write}
use Rattle.request.specs.InRange.{BookingInRange}
use Rattle.request.proofs.Requests.{write_read, read_in_range, read_write, write_short}
use Rattle.steps.proofs.Complete.{interval_in}
use Rattle.steps.proofs.Narrow.{narrowed}
use Rattle.ledger.specs.Ledger.{Ledger, formula, held, spend}
use Rattle.ledger.specs.Checks.{steps}
use Rattle.ledger.specs.Calls.{Reply, accept, call, told_of}
use Rattle.ledger.specs.Statements.{IsAccepted, from_start}
use Rattle.ledger.proofs.Answers.{some_inj, heard}
use Rattle.ledger.proofs.Firsts.{pass_first, so_first, past_intervals, call_read, handle_passes}
use Rattle.ledger.proofs.Passed.{PassedRead, passed_book, pass_at}
use Rattle.demands.specs.Demands.{Reached}
use Rattle.demands.specs.Later.{arriving, Arrives, LaterArrival}
use Rattle.demands.proofs.Demand1.{demand_1, call_accepts}
use Rattle.demands.proofs.Demand2.{few_held, steps_exactly}
use Rattle.demands.proofs.Exactness.{reached_ready, own_number, passed}

module _ (t : Ledger) (reached : Reached t) (bytes : List ℕ) (b : Booking) (e : request_of bytes ≡ some (book b))
    (a : IsAccepted (told_of t bytes)) (now : ℕ) (i : Interval) (formed : WellFormed i) (c : b.interval ⊇ i)
    (h : has i now ≡ true) where
  abbrev b' : Booking
  b' = arriving b now i

  range : BookingInRange b
  range = read_in_range bytes (book b) e

  -- i lies in the first sheet's interval, so its minutes are in range
  range' : BookingInRange b'
  range' =
      let ends = within_ends i formed b.interval c in
      let top = range.interval.to.most in
      record {
        now = record { least = omega arith; most = omega (arith, ((has_decides i now).0 h).to, ends.1, top) };
        formula = range.formula;
        interval = interval_in i formed (omega (arith, ends.1, top));
        hold_count = range.hold_count;
        step_count = range.step_count;
        holds = range.holds;
        steps = range.steps;
      }

  passes : PassedRead t (book b)
  passes = passed t bytes b e ((demand_1 t bytes).accepted.0 a)

  -- the same lines close at i
  closes : steps t (held t.live b.holds) b.formula i b.steps ≡ none
  closes =
      let cs = held t.live b.holds in
      let exactly = steps_exactly t cs (reached_ready t reached b.holds)
      (few_held t b.holds range.hold_count.most) b.formula (own_number range.formula) in
      let s = (exactly b.interval b.steps).0 (passed_book t b passes.rest).closes in
      (exactly i b.steps).1 (s.0, narrowed s.1 (holds (formula t b.formula) i) (at_holds c))

  did : call t bytes ≡ accept t (book b)
  did = let d = call_accepts t bytes a in d.2 ∙ ap (accept t) (some_inj (sym d.1 ∙ e))

  does : call t (write (book b')) ≡ accept t (book b')
  unfolding intervals
  does =
      call_read t (write (book b')) (book b') (write_short (book b') range') (write_read (book b') range')
      ∙ handle_passes t (book b')
      (so_first (past_intervals t (book b') (formed, passes.formed.1) from_start)
      ∙ pass_first _ (pass_at t b now i passes.rest h closes))

  pub arrives : Arrives t bytes b now i
  unfolding accept write request_texts head_fields more_lines ended_lines
  arrives = record {
    lines = ended_lines (more_lines (book b));
    sheet = sym (read_write bytes (book b) e);
    reads = write_read (book b') range';
    answered = ap heard did;
    accepted = ap heard does;
    consumes = record {
      kept = spend t.live (held t.live b.holds);
      first_live = ap (λ (r : Reply). r.ledger.live) did;
      second_live = ap (λ (r : Reply). r.ledger.live) does;
      lines = ap (λ (r : Reply). r.ledger.lines) does ∙ sym (ap (λ (r : Reply). r.ledger.lines) did);
      next = ap (λ (r : Reply). r.ledger.next) does ∙ sym (ap (λ (r : Reply). r.ledger.next) did);
    };
  }

pub later_arrival : LaterArrival
later_arrival = arrives

-- Demand 2: completeness, down to bytes.
use mathlib.Core.Path.{◌≡◌, refl, sym, ap, subst, ◌∙◌}
use mathlib.Core.Logic.{inl, inr}
use mathlib.Core.List.{List, [], ◌∷◌, ◌++◌, map}
use mathlib.Core.Option.{Option, none, some}
use mathlib.Core.Bool.{Bool, true, false, ◌||◌}
use Prim.Native.Nat.{ℕ, ◌+◌, ◌<◌, ◌≤◌}
use native.Mathlib.Omega.{arith}
use lib.ListN.{length, length-map}
use borrow.Author.Tests.{leb-false}
use Rattle.logic.specs.declared.Interval.{Interval}
use Rattle.logic.specs.Interval.{WellFormed}
use Rattle.logic.specs.Multiset.{Every}
use Rattle.logic.specs.Formula.{Formula}
use Rattle.logic.specs.Derives.{Derives, holds, letters, uses, taken}
use Rattle.logic.proofs.Tests.{no_truth}
use Rattle.logic.proofs.Intervals.{has_decides}
use Rattle.logic.proofs.Multisets.{every_out, every_map}
use Rattle.request.specs.declared.Kind.TheVariants.{Linear, Unrestricted}
use Rattle.request.specs.Range.{serial, steps as step_count}
use Rattle.request.specs.Request.{Step, Booking, book, step_intervals, steps_intervals, intervals}
use Rattle.request.specs.Write.{write}
use Rattle.request.specs.InRange.{◌in_range◌, BookingInRange, StepInRange}
use Rattle.request.proofs.Digits.{every_append}
use Rattle.request.proofs.Requests.{write_read, write_short}
use Rattle.steps.specs.declared.Sequent.{Sequent}
use Rattle.steps.specs.declared.Goal.TheVariants.{Holds}
use Rattle.steps.specs.Check.{max_labels, done, puts, premise_of, finished, check_of}
use Rattle.steps.specs.StepLetters.{letter_of, letters_of}
use Rattle.steps.specs.Limits.{Minutes, Writable}
use Rattle.steps.specs.Statements.{Passes}
use Rattle.steps.proofs.Instances.{instance_own}
use Rattle.steps.proofs.Complete.{interval_in}
use Rattle.steps.proofs.LabelTables.{label_table}
use Rattle.steps.proofs.Steps.{passing}
use Rattle.ledger.specs.declared.Credential.{Credential}
use Rattle.ledger.specs.Ledger.{Ledger, formula, row_for, find, is_none, held, linear_count}
use Rattle.ledger.specs.Checks.{LabelTable, ◌if◌, first, any_of, dead, no_room, used_up}
use Rattle.ledger.specs.Checks.{read_label}
use Rattle.ledger.specs.Checks.{write_label}
use Rattle.ledger.specs.Checks.{verdict, steps, checks, checks_of, no_labels, hypothesis, booking_sequent}
use Rattle.ledger.specs.Calls.{Told, ok, accept, told_of}
use Rattle.ledger.specs.Statements.{SoFar, ◌▸◌}
use Rattle.ledger.proofs.Answers.{some_inj, first_passes, heard}
use Rattle.ledger.proofs.Credentials.{take_out, any_none, Alive, held_length}
use Rattle.ledger.specs.Bounds.{Rises, Bounded}
use Rattle.ledger.proofs.Firsts.{first_fails, if_false, if_true, stopped_at, none_stops, not_true, past_form}
use Rattle.ledger.proofs.Firsts.{past_intervals}
use Rattle.demands.specs.Demands.{hyp, hyps_of, start_labels, booking, StepsComplete, May, PastSteps, Completeness}
use Rattle.demands.proofs.Demand1.{demand_1, call_accepts}
use Rattle.demands.proofs.Start.{unrolls, start}
use Rattle.demands.proofs.Exactness.{reached_bounded, reached_ready}

-- Every derivation within the limits has step lines that pass.

-- no line, no pass
some_steps : (t : Ledger) (ss : List Step) (f g : LabelTable) (next m : ℕ) (q : Sequent)
    → check_of (row_for t) read_label write_label (length ss) ss f next q ≡ done [] g m → 1 ≤ length ss
unfolding check_of premise_of finished
some_steps t [] f g next m q e = let z : ◌≡◌ {A = ℕ} 0 1 = cc e in absurd (omega arith)
some_steps t (s ∷ ss) f g next m q e = omega arith

pub steps_complete : StepsComplete
unfolding steps verdict
steps_complete t reached n i hs there x lim =
    let ready = reached_ready t reached hs in
    let cs = held t.live hs in
    let room : length cs + taken x ≤ max_labels = omega (arith, lim.labels, held_length t.live hs) in
    let u = unrolls t ready.tabled ready.lines in
    let own = instance_own (formula t) n (omega (arith, leb-false (length t.lines) n there, ready.lines)) in
    let p = subst (λ (a : Formula).
    (x : Derives (hyps_of t Unrestricted cs) (hyps_of t Linear cs) (holds a i)) → Minutes x
    → length (start_labels t cs) + taken x ≤ max_labels
    → (ss : List Step) × (letters_of ss ≡ letters x) × Every Writable ss
    × Passes read_label write_label (row_for t) (puts write_label no_labels 0 (map hypothesis cs)) (length cs)
    (booking_sequent cs n i) ss) own
    (passing label_table _ _ u _ (length cs) _ _ (start_labels t cs) _ _
    (start t ready.tabled ready.lines cs ready.named (omega arith)) (Holds n i))
    x lim.minutes (omega (arith, length-map cs (hyp t))) in
    let many : length p.0 ≡ uses x = sym (length-map p.0 letter_of) ∙ ap length p.1 in
    record {
      lines = p.0;
      letters = p.1;
      count = record { least = some_steps t p.0 _ _ _ _ _ p.3.2; most = omega (arith, lim.rules) };
      writable = p.2;
      pass = λ now. ap verdict p.3.2;
    }

-- What a live serial is

rises_least : (lo : ℕ) (cs : List Credential) → Rises lo cs → Every (λ c. 1 ≤ c.serial) cs
rises_least lo [] r = tt
rises_least lo (c ∷ cs) r = let l = r.0 in (omega arith, rises_least c.serial cs r.1)

live_in_range : (t : Ledger) → Bounded t → (n : ℕ) → Alive t.live n → n in_range serial
live_in_range t b n a = go (find t.live n) refl a
  where
    go : (o : Option Credential) → find t.live n ≡ o → is_none o ≡ false → n in_range serial
    go none e q = absurd (no_truth (sym q))
    go (some c) e q =
        let out = take_out t.live n e in
        let low = (every_out (λ c. 1 ≤ c.serial) out.1 (rises_least 0 t.live b.rises)).0 in
        let high = (every_out (λ c. c.serial < t.next) out.1 b.below).0 in
        record { least = omega (arith, low, out.0); most = omega (arith, high, out.0, b.last) }

-- A booking that passes every check up to 42

record Passing (t : Ledger) (b : Booking) : Type 0 where
  formed : Every WellFormed (intervals (book b))
  may : May t b.now b.formula b.interval b.holds
  closes : steps t (held t.live b.holds) b.formula b.interval b.steps ≡ none

module _ (t : Ledger) (b : Booking) (r : BookingInRange b) (p : Passing t b) where
  bytes : List ℕ
  bytes = write (book b)

  full : Bool
  full = no_room t (linear_count (held t.live b.holds))

  -- the checks before 22 pass
  so_far : SoFar (checks_of t bytes) ((22 if full) ∷ (23 if used_up t) ∷ [])
  unfolding bytes checks full
  so_far =
      let m = p.may in
      past_intervals t (book b) p.formed (past_form t bytes (write_short (book b) r) (write_read (book b) r))
      ▸ if_false 10 _ m.there
      ▸ if_false 53 _ m.bound
      ▸ if_false 20 _ (not_true _ m.plain)
      ▸ if_false 30 _ (not_true _ m.inside)
      ▸ if_false 24 _ m.live
      ▸ if_false 31 _ m.apart
      ▸ p.closes

  refused : {n : ℕ} → first (checks_of t bytes) ≡ some (record { number = n; step = 0 }) → told_of t bytes ≡ Told.no n 0
  refused e = ((demand_1 t bytes).refused _ 0).1 (first_fails (checks_of t bytes) e)

  accepted : first (checks_of t bytes) ≡ none → told_of t bytes ≡ ok (t.next ∷ [])
  unfolding bytes accept
  accepted e =
      let c = call_accepts t bytes ((demand_1 t bytes).accepted.1 (first_passes (checks_of t bytes) e)) in
      ap heard (c.2 ∙ ap (accept t) (some_inj (sym c.1 ∙ write_read (book b) r)))

  past : PastSteps t (told_of t bytes)
  past = go full refl (used_up t) refl
    where
      go : (x : Bool) → full ≡ x → (y : Bool) → used_up t ≡ y → PastSteps t (told_of t bytes)
      go true e y q = inr (inl (refused (stopped_at so_far (if_true 22 _ e))))
      go false e true q = inr (inr (refused (stopped_at (so_far ▸ if_false 22 _ e) (if_true 23 _ q))))
      go false e false q = inl (accepted (none_stops (so_far ▸ if_false 22 _ e ▸ if_false 23 _ q)))

-- The booking that it makes, down to bytes

steps_formed : (ss : List Step) → Every Writable ss → Every WellFormed (steps_intervals ss)
unfolding steps_intervals
steps_formed [] w = tt
steps_formed (s ∷ ss) w =
    every_append WellFormed (step_intervals s) (steps_intervals ss) w.0.1 (steps_formed ss w.1)

booking_formed : (b : Booking) → WellFormed b.interval → Every Writable b.steps
    → Every WellFormed (intervals (book b))
unfolding intervals
booking_formed b f w = (f, steps_formed b.steps w)

writable_in_range : (ss : List Step) → Every Writable ss → Every StepInRange ss
writable_in_range ss = every_map (λ s w. w.0) ss

in_range_holds : (t : Ledger) → Bounded t → (b : Booking) → May t b.now b.formula b.interval b.holds
    → length b.steps in_range step_count → Every Writable b.steps → BookingInRange b
in_range_holds t bd b m count w = record {
  now = record {
    least = omega arith;
    most = omega (arith, ((has_decides b.interval b.now).0 m.inside).to, m.ranged);
  };
  formula = record {
    least = omega arith;
    most = omega (arith, leb-false (length t.lines) b.formula m.there, bd.lines);
  };
  interval = interval_in b.interval m.formed m.ranged;
  hold_count = record { least = omega arith; most = m.few };
  step_count = count;
  holds = every_map (λ n a. live_in_range t bd n a) b.holds (any_none (dead t) b.holds m.live);
  steps = writable_in_range b.steps w;
}

pub completeness : Completeness
unfolding bytes
completeness t reached now n i hs m x lim =
    let s = steps_complete t reached n i hs m.there x lim in
    let b = booking now n i hs s.lines in (
      s.lines,
      s.letters,
      past t b (in_range_holds t (reached_bounded t reached) b m s.count s.writable) (record {
        formed = booking_formed b m.formed s.writable;
        may = m;
        closes = s.pass now;
      }),
    )

-- Demand 2, proved: soundness, exactness, completeness down to bytes.
use mathlib.Core.Path.{◌≡◌, refl, sym, ap, subst}
use mathlib.Core.Logic.{◌↔◌}
use mathlib.Core.List.{List, [], ◌∷◌, map}
use mathlib.Core.Option.{none, some}
use mathlib.Core.Bool.{false}
use Prim.Native.Nat.{ℕ, ◌+◌, ◌<◌, ◌≤◌}
use native.Mathlib.Omega.{arith}
use lib.ListN.{length, length-map}
use Rattle.logic.specs.declared.Interval.{Interval}
use Rattle.logic.specs.Interval.{WellFormed}
use Rattle.logic.specs.Formula.{Formula}
use Rattle.logic.specs.Multiset.{Every}
use Rattle.logic.proofs.Multisets.{every_left, every_right, every_map}
use Rattle.logic.specs.Derives.{Derives, holds, letters, taken}
use Rattle.request.specs.declared.Kind.TheVariants.{Linear, Unrestricted}
use Rattle.request.specs.Request.{Step, Booking, book, step_intervals, steps_intervals, intervals}
use Rattle.request.specs.Range.{holds as held_range}
use Rattle.request.specs.InRange.{StepInRange, BookingInRange}
use Rattle.steps.specs.declared.Goal.TheVariants.{Holds}
use Rattle.steps.specs.Check.{max_labels, Outcome, done, stopped, puts, finished, check_of}
use Rattle.steps.specs.StepLetters.{letters_of}
use Rattle.steps.specs.Limits.{Minutes, Writable}
use Rattle.steps.specs.Instance.{radix}
use Rattle.steps.specs.Spells.{Labels, Labelled, Spells, Refused}
use Rattle.steps.specs.Unroll.{labelled_of}
use Rattle.steps.proofs.Instances.{instance_own}
use Rattle.steps.specs.Statements.{ExactlyAt}
use Rattle.steps.proofs.HoldLabels.{begins_fits}
use Rattle.steps.proofs.LabelTables.{label_table}
use Rattle.steps.proofs.Steps.{exactly, sound}
use Rattle.ledger.specs.declared.Credential.{Credential}
use Rattle.ledger.specs.Ledger.{Ledger, formula, row_for, held}
use Rattle.ledger.specs.Checks.{Refusal, LabelTable, no_labels, read_label, write_label, hypothesis, verdict}
use Rattle.ledger.specs.Checks.{steps}
use Rattle.ledger.specs.Checks.{any_of, booking_sequent, labels_of}
use Rattle.ledger.proofs.Answers.{some_none, some_inj}
use Rattle.ledger.proofs.Credentials.{any_none, held_length}
use Rattle.demands.specs.Demands.{hyp, hyps_of, start_labels, start_sequent, Derivation}
use Rattle.demands.proofs.Start.{formula_for, Ready, unrolls, start}

-- The check of the steps passes exactly if the checker closes with no line left, and refuses exactly as it stops.

passes_done : (t : Ledger) (total : ℕ) (o : Outcome LabelTable) → verdict (finished total o) ≡ none
    → (f : LabelTable) × (n : ℕ) × (finished total o ≡ done [] f n)
unfolding verdict finished
passes_done t total (done [] f n) e = (f, n, refl)
passes_done t total (done (s ∷ ss) f n) e = absurd (some_none e)
passes_done t total (stopped k n) e = absurd (some_none e)

verdict_stops : (o : Outcome LabelTable) (c k : ℕ)
    → (verdict o ≡ some (record { number = c; step = k })) ↔ (o ≡ stopped c k)
unfolding verdict
verdict_stops (done ss f n) c k = (λ e. absurd (some_none (sym e)), λ e. absurd (not_stopped e))
  where
    not_stopped : done ss f n ≡ stopped c k → ⊥
    not_stopped e = let z : ◌≡◌ {A = ℕ} 0 1 = cc in omega arith
verdict_stops (stopped x y) c k = (
  λ e. let r = some_inj e in
      ap (λ (f : Refusal). stopped f.number f.step) r,
  λ e. ap verdict e,
)

start_few : (t : Ledger) (cs : List Credential) → length cs ≤ max_labels → length (start_labels t cs) ≤ max_labels
start_few t cs few = omega (arith, length-map cs (hyp t))

-- The steps of a booking from credentials cs, at a ledger whose formulas unroll; its goal is named by its own number.
module _ (t : Ledger) (cs : List Credential) (y : Ready t cs) (few : length cs ≤ max_labels) (n : ℕ) (l : n < radix)
    (i : Interval) (ss : List Step) where
  outcome : Outcome LabelTable
  outcome = check_of (row_for t) read_label write_label (length ss) ss
      (puts write_label no_labels 0 (map hypothesis cs)) (length cs) (booking_sequent cs n i)

  closes : steps t cs n i ss ≡ none → (f : LabelTable) × (m : ℕ) × (outcome ≡ done [] f m)
  unfolding steps outcome check_of
  closes e = passes_done t (length ss) _ e

  own : formula_for t n ≡ formula t n
  own = instance_own (formula t) n l

  begins : labelled_of (unrolls t y.tabled y.lines) (booking_sequent cs n i) ≡ start_sequent t cs n i
  begins = ap (λ (a : Formula). start_at a) own
    where
      start_at : Formula → Labelled
      start_at a = record {
        unrestricted = labels_of Unrestricted 0 cs 0;
        linear = labels_of Linear 0 cs 0;
        goal = holds a i;
      }

  spelt_or_stopped : ExactlyAt read_label write_label (unrolls t y.tabled y.lines)
      (puts write_label no_labels 0 (map hypothesis cs)) (length cs) (start_labels t cs) (booking_sequent cs n i) ss
  spelt_or_stopped =
      let u = unrolls t y.tabled y.lines in
      let b = start t y.tabled y.lines cs y.named few in
      exactly label_table _ _ u _ (length cs) (start_labels t cs) (booking_sequent cs n i) b.shows
      (begins_fits u label_table b (start_few t cs few) (holds (formula_for t n) i)) ss

  -- they pass exactly if they spell a derivation
  pub steps_exactly : (steps t cs n i ss ≡ none)
      ↔ ((ls : Labels) × Spells ss (start_labels t cs) (start_sequent t cs n i) [] ls)
  unfolding steps outcome verdict
  steps_exactly =
      let x = spelt_or_stopped.passes in
      subst (λ (q : Labelled). (steps t cs n i ss ≡ none)
      ↔ ((ls : Labels) × Spells ss (start_labels t cs) q [] ls)) begins
      (λ e. x.0 (closes e), λ s. ap verdict (x.1 s).2)

  -- and are refused exactly where they stop
  pub steps_refused : (c k : ℕ) → (steps t cs n i ss ≡ some (record { number = c; step = k }))
      ↔ Refused (length ss) ss (start_labels t cs) (start_sequent t cs n i) c k
  unfolding steps outcome
  steps_refused c k =
      let x = spelt_or_stopped.refused c k in
      let v = verdict_stops outcome c k in
      subst (λ (q : Labelled). (steps t cs n i ss ≡ some (record { number = c; step = k }))
      ↔ Refused (length ss) ss (start_labels t cs) q c k) begins
      (λ e. x.0 (v.0 e), λ r. v.1 (x.1 r))

  -- what passes is a derivation within the limits
  pub steps_derive : Every Writable ss → steps t cs n i ss ≡ none
      → (x : Derivation t cs n i) × (letters_of ss ≡ letters x) × (length cs + taken x ≤ max_labels) × Minutes x
  unfolding outcome
  steps_derive w e =
      let s = sound label_table _ _ (unrolls t y.tabled y.lines) _ (length cs) _ _ (start_labels t cs) _ _
      (start t y.tabled y.lines cs y.named few) (start_few t cs few) (Holds n i) ss w (closes e) in
      subst (λ (a : Formula). (x : Derives (hyps_of t Unrestricted cs) (hyps_of t Linear cs) (holds a i))
      × (letters_of ss ≡ letters x) × (length cs + taken x ≤ max_labels) × Minutes x) own
      (s.0, s.1, omega (arith, s.2, length-map cs (hyp t)), s.3)

-- What an accepted booking's bytes give: few holds, and steps in range with well-formed intervals.

pub few_held : (t : Ledger) (ns : List ℕ) → length ns ≤ held_range.last → length (held t.live ns) ≤ max_labels
unfolding max_labels
few_held t ns le = omega (arith, held_length t.live ns)

every_step : (ss : List Step) → Every StepInRange ss → Every WellFormed (steps_intervals ss) → Every Writable ss
unfolding steps_intervals
every_step [] r o = tt
every_step (s ∷ ss) r o = (
  (r.0, every_left WellFormed (step_intervals s) (steps_intervals ss) o),
  every_step ss r.1 (every_right WellFormed (step_intervals s) (steps_intervals ss) o),
)

pub writable_steps : (b : Booking) → BookingInRange b → Every WellFormed (intervals (book b))
    → Every Writable b.steps
unfolding intervals
writable_steps b r w = every_step b.steps r.steps w.1

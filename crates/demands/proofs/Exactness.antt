-- Demand 2 of requests: soundness and exactness.
use mathlib.Core.Path.{◌≡◌, refl, ap, subst, ◌∙◌}
use mathlib.Core.Logic.{inl, inr}
use mathlib.Core.List.{List, [], ◌∷◌}
use mathlib.Core.Option.{Option, none, some}
use Prim.Native.Nat.{ℕ, ◌<◌}
use native.Mathlib.Omega.{arith}
use Rattle.logic.specs.Multiset.{Every}
use Rattle.logic.proofs.Multisets.{every_map}
use Rattle.request.specs.Range.{formula_number}
use Rattle.request.specs.InRange.{◌in_range◌}
use Rattle.request.specs.Request.{Booking, Request, book}
use Rattle.request.specs.Read.{request_of}
use Rattle.request.proofs.Requests.{read_in_range}
use Rattle.steps.specs.Instance.{radix}
use Rattle.ledger.specs.Ledger.{Ledger, held}
use Rattle.ledger.specs.Checks.{Check, dead, read_checks, checks_of}
use Rattle.ledger.specs.Statements.{Pass}
use Rattle.ledger.proofs.Answers.{some_none, passed_bytes, steps_in, TableRow, table_rows}
use Rattle.ledger.proofs.Credentials.{any_none, held_all, every_held}
use Rattle.ledger.proofs.Passed.{PassedRead, passed_read, passed_book}
use Rattle.ledger.specs.Bounds.{Bounded}
use Rattle.snapshot.proofs.Lawful.{lawful}
use Rattle.demands.specs.Demands.{Reached, Soundness, OnlySteps}
use Rattle.demands.specs.Demands.{Exactness}
use Rattle.demands.proofs.Start.{Ready}
use Rattle.demands.proofs.Demand1.{demand_1}
use Rattle.demands.proofs.Demand2.{few_held, writable_steps, steps_exactly, steps_refused, steps_derive}

pub reached_bounded : (t : Ledger) → Reached t → Bounded t
reached_bounded t r = (lawful t r).bounded

-- a reached ledger is ready for a booking of any holds; a request names a formula by its own number
pub reached_ready : (t : Ledger) → Reached t → (hs : List ℕ) → Ready t (held t.live hs)
reached_ready t r hs =
    let w = lawful t r in
    record {
      tabled = w.bounded.tabled;
      lines = w.bounded.lines;
      named = every_held _ t.live hs (every_map (λ c i. omega (arith, i.formula.most)) t.live w.live);
    }

pub own_number : {n : ℕ} → n in_range formula_number → n < radix
own_number r = omega (arith, r.most)

-- an accepted booking has passed its checks
pub passed : (t : Ledger) (bytes : List ℕ) (b : Booking) → request_of bytes ≡ some (book b) → Pass (checks_of t bytes)
    → PassedRead t (book b)
passed t bytes b e p =
    passed_read t (book b) (subst (λ (o : Option Request). Pass (read_checks t o)) e (passed_bytes t bytes p).rest)

pub soundness : Soundness
soundness t reached bytes b e a =
    let p = passed t bytes b e ((demand_1 t bytes).accepted.0 a) in
    let q = passed_book t b p.rest in
    let r = read_in_range bytes (book b) e in
    let s = steps_derive t (held t.live b.holds) (reached_ready t reached b.holds)
    (few_held t b.holds r.hold_count.most) b.formula (own_number r.formula) b.interval b.steps
    (writable_steps b r p.formed) q.closes in
    record {
      derivation = s.0;
      lines = s.1;
      labels = omega (arith, s.2, held_all t.live b.holds (any_none (dead t) b.holds q.alive));
      minutes = s.3;
    }

-- a passing check is none of 40 to 42; a check with another number that is at most one of these passes
pass_only : (cs : List Check) → Pass cs → Every OnlySteps cs
pass_only [] p = tt
pass_only (none ∷ cs) p = (tt, pass_only cs p.1)
pass_only (some f ∷ cs) p = absurd (some_none p.0)

other_passes : {s : Check} → s ≡ none → (c : Check) → TableRow s c → OnlySteps c → c ≡ none
other_passes p c (inl e) o = e ∙ p
other_passes p none (inr x) o = refl
other_passes p (some f) (inr (inl l, z)) o = absurd (omega (arith, o.0))
other_passes p (some f) (inr (inr l, z)) o = absurd (omega (arith, o.1))

others_pass : {s : Check} → s ≡ none → (cs : List Check) → Every (TableRow s) cs → Every OnlySteps cs → Pass cs
others_pass p [] r o = tt
others_pass p (c ∷ cs) r o = (other_passes p c r.0 o.0, others_pass p cs r.1 o.1)

pub exactness : Exactness
exactness t reached bytes b e =
    let r = read_in_range bytes (book b) e in
    let few = few_held t b.holds r.hold_count.most in
    let ready = reached_ready t reached b.holds in
    let cs = held t.live b.holds in
    let x = steps_exactly t cs ready few b.formula (own_number r.formula) b.interval b.steps in
    let d = (demand_1 t bytes).accepted in
    record {
      accepted = (
        λ a. let p = d.0 a in
            (pass_only (checks_of t bytes) p, x.0 (passed_book t b (passed t bytes b e p).rest).closes),
        λ h. d.1 (others_pass (ap (steps_in t) e ∙ x.1 h.1) (checks_of t bytes) (table_rows t bytes) h.0),
      );
      stopped = steps_refused t cs ready few b.formula (own_number r.formula) b.interval b.steps;
    }

-- The ways out of issue, withdraw and tally.
use mathlib.Core.Path.{◌≡◌, refl, sym, ap, subst, ◌∙◌}
use mathlib.Core.List.{List, ◌∷◌}
use mathlib.Core.Bool.{Bool, true, false, ◌||◌}
use Prim.Native.Nat.{ℕ, ◌-◌}
use lib.ListN.{length}
use borrow.Author.Tests.{leb-false, ltb-false}
use native.Mathlib.Omega.{arith}
use Rattle.std.specs.Prelude.{Some, None}
use Rattle.logic.specs.declared.Interval.{Interval}
use Rattle.logic.specs.Interval.{reversed, broken}
use Rattle.logic.specs.Formula.{unbound}
use Rattle.request.specs.declared.Kind.{Kind}
use Rattle.request.specs.Range.{serial}
use Rattle.request.specs.Request.{issue, withdraw, tally, intervals}
use Rattle.ledger.specs.declared.Answer.TheVariants.{Accepted, Counted, Refused}
use Rattle.ledger.specs.Ledger.{formula, without_serial}
use Rattle.ledger.specs.Checks.{Check, ◌if◌, any_of, max_live, missing, unissuable, unissuable_number, no_room, used_up}
use Rattle.ledger.specs.Checks.{checks}
use Rattle.ledger.specs.Calls.{open_seats, shut_seats, with_live, with_credential, accept}
use Rattle.ledger.specs.Statements.{from_start, ◌▸◌}
use Rattle.ledger.proofs.Firsts.{if_false, no_intervals}
use Rattle.store_cells.specs.Layout.{credential_at}
use Rattle.store.specs.Store.{ledger_of, Good, StandsFor, Givable}
use Rattle.store_lookup.specs.Lookup.{LooksUp}
use Rattle.store_lookup.proofs.Places.{its_serial}
use Rattle.formula_tally.specs.declared.Figures.{Figures}
use Rattle.formula_tally.specs.Tally.{Tallied}
use Rattle.call_checks.specs.declared.Verdict.{Verdict}
use Rattle.call_checks.specs.declared.Verdict.TheVariants.{Passed, Failed}
use Rattle.call_checks.specs.Verdicts.{Tells}
use Rattle.call_checks.proofs.Verdicts.{shown, reworded}
use Rattle.call_contracts.specs.Called.{Handled}
use Rattle.call_contracts.proofs.Laws.{refused, accepted}
use Rattle.call_credentials.specs.Issue.{last_checks, Past, Issuable}

-- Withdraw

pub withdraw_dead : {l : List ℕ} {n : ℕ} → Good l → LooksUp l n None → Handled l (withdraw n) (Refused 24 0) l
unfolding checks intervals
withdraw_dead {l} {n} g h =
    refused g (no_intervals (ledger_of l) (withdraw n) refl) (sym h.check)

pub withdraw_done : {l l' : List ℕ} {n i : ℕ} → Good l → LooksUp l n (Some i)
    → StandsFor l' (with_live (ledger_of l) (without_serial (ledger_of l).live (credential_at l i).serial))
    → Handled l (withdraw n) (Accepted n) l'
unfolding checks intervals accept
withdraw_done {l} {l'} {n} g h s =
    let t = ledger_of l in
    accepted (no_intervals t (withdraw n) refl ▸ sym h.check) refl tt
    (subst (λ (k : ℕ). StandsFor l' (with_live t (without_serial t.live k))) (its_serial g h) s)

-- Tally

pub tally_done : (l : List ℕ) (s m : ℕ) (f : Figures) → Good l → Tallied l s m f
    → Handled l (tally s m) (Counted f.«open» f.shut f.placed) l
unfolding checks intervals accept
tally_done l s m f g e =
    accepted (no_intervals (ledger_of l) (tally s m) refl)
    (ap (λ (o : ℕ). Counted o f.shut f.placed) e.«open»
    ∙ ap (λ (k : ℕ). Counted (open_seats (ledger_of l) s m) k f.placed) e.shut
    ∙ ap (Counted (open_seats (ledger_of l) s m) (shut_seats (ledger_of l) s m)) e.placed)
    tt (record { good = g; ledger = refl })

-- Issue

or_false : (b : Bool) → b ≡ (b || false)
or_false true = refl
or_false false = refl

-- 3 and 43, by their verdicts
intervals_told : {m : ℕ} (p : Interval → Bool) (k : Kind) (n : ℕ) (i : Interval) {v : Verdict} → Tells m v (p i)
    → Tells m v (any_of p (intervals (issue k n i)))
unfolding intervals any_of
intervals_told p k n i h = reworded h (or_false (p i))

-- the checks after 3
abbrev pub after_3 : List ℕ → Kind → ℕ → Interval → List Check
after_3 l k n i = (43 if any_of broken (intervals (issue k n i))) ∷ checks (ledger_of l) (issue k n i)

module _ (l : List ℕ) (k : Kind) (n : ℕ) (i : Interval) where
  pub past_3 : {v : Verdict} → Tells 3 v (reversed i) → v ≡ Passed → Past l k n i (after_3 l k n i)
  past_3 h e = from_start ▸ shown (intervals_told reversed k n i h) e

  -- the checks after the intervals'
  pub past_43 : {v : Verdict} → Past l k n i (after_3 l k n i) → Tells 43 v (broken i) → v ≡ Passed
      → Past l k n i ((10 if missing (ledger_of l) n) ∷ (53 if unbound (formula (ledger_of l) n))
      ∷ (unissuable_number k if unissuable k (formula (ledger_of l) n)) ∷ last_checks (ledger_of l))
  unfolding checks
  past_43 s h e = s ▸ shown (intervals_told broken k n i h) e

module _ {l : List ℕ} {k : Kind} {n : ℕ} {i : Interval} where
  pub issue_reversed : {v : Verdict} → Good l → Tells 3 v (reversed i) → v ≡ Failed
      → Handled l (issue k n i) (Refused 3 0) l
  issue_reversed g h e = refused g from_start (shown (intervals_told reversed k n i h) e)

  pub issue_broken : {v : Verdict} → Good l → Past l k n i (after_3 l k n i) → Tells 43 v (broken i) → v ≡ Failed
      → Handled l (issue k n i) (Refused 43 0) l
  issue_broken g s h e = refused g s (shown (intervals_told broken k n i h) e)

  pub issue_unissuable : {c : ℕ} → c ≡ unissuable_number k → Handled l (issue k n i) (Refused (unissuable_number k) 0) l
      → Handled l (issue k n i) (Refused c 0) l
  issue_unissuable q h = subst (λ (x : ℕ). Handled l (issue k n i) (Refused x 0) l) (sym q) h

-- all checks have passed
pub record Given (l : List ℕ) (k : Kind) (n : ℕ) (i : Interval) : Type 0 where
  pub before : Issuable l k n i
  pub room : no_room (ledger_of l) 0 ≡ false
  pub unused : used_up (ledger_of l) ≡ false

module _ {l : List ℕ} {k : Kind} {n : ℕ} {i : Interval} (p : Given l k n i) where
  -- what giving the credential asks
  pub issue_gives : Givable l n
  issue_gives = record {
    good = p.before.good;
    room = omega (arith, leb-false max_live (length (ledger_of l).live - 0) p.room);
    unused = ltb-false serial.last (ledger_of l).next p.unused;
    there = leb-false (length (ledger_of l).lines) n p.before.there;
  }

  pub issue_done : {l' : List ℕ} {s : ℕ} → s ≡ (ledger_of l).next → StandsFor l' (with_credential (ledger_of l) k n i)
      → Handled l (issue k n i) (Accepted s) l'
  unfolding accept
  issue_done e d =
      accepted (p.before.so_far ▸ if_false 22 _ p.room ▸ if_false 23 _ p.unused) (ap Accepted e) tt d

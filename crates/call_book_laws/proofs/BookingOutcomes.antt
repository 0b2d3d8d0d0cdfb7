-- The end of a booking: its last checks, and what it does once all have passed.
use mathlib.Core.Path.{◌≡◌, sym, ap, subst}
use mathlib.Core.List.{List, [], ◌∷◌}
use mathlib.Core.Option.{none}
use mathlib.Core.Bool.{false}
use Prim.Native.Nat.{ℕ, ◌-◌}
use native.Mathlib.Omega.{arith}
use lib.ListN.{length}
use borrow.Author.Tests.{leb-false, ltb-false}
use Rattle.logic.specs.Multiset.{Every}
use Rattle.request.specs.Range.{serial}
use Rattle.request.specs.declared.Kind.TheVariants.{Linear}
use Rattle.steps.specs.declared.Hypothesis.{Hypothesis}
use Rattle.ledger.specs.declared.Credential.{Credential}
use Rattle.ledger.specs.declared.Answer.TheVariants.{Accepted, Refused}
use Rattle.ledger.specs.Ledger.{Ledger, held, linear_count, spend}
use Rattle.ledger.specs.Checks.{◌if◌, max_live, no_room, used_up, steps}
use Rattle.ledger.specs.Statements.{◌▸◌}
use Rattle.ledger.specs.Calls.{with_live, with_credential, accept}
use Rattle.ledger.proofs.Credentials.{splits}
use Rattle.store.specs.Store.{ledger_of, StandsFor, Givable}
use Rattle.step_rows.specs.StepRows.{steps_from}
use Rattle.read_heads.specs.declared.Head.{Head}
use Rattle.call_holds.specs.declared.Sides.{Sides}
use Rattle.call_holds.specs.Holds.{Spendable}
use Rattle.call_checks.specs.declared.Verdict.{Verdict}
use Rattle.call_checks.specs.declared.Verdict.TheVariants.{Passed, Failed}
use Rattle.call_checks.specs.Verdicts.{Tells}
use Rattle.call_checks.proofs.Verdicts.{by_verdict, shown, reworded}
use Rattle.call_contracts.specs.Called.{Handled}
use Rattle.call_contracts.proofs.Laws.{refused, accepted}
use Rattle.call_book_laws.specs.BookingFound.{booking_at, Past, Steppable}

-- all checks have passed
pub record Settled (l : List ℕ) (h : Head) (serials rows : List ℕ) (table : List Hypothesis) (s : Sides) : Type 0 where
  pub before : Steppable l h serials rows table s
  pub room : no_room (ledger_of l) (linear_count (held (ledger_of l).live serials)) ≡ false
  pub unused : used_up (ledger_of l) ≡ false
  pub so_far : Past l h serials rows []

module _ {l : List ℕ} {h : Head} {serials rows : List ℕ} {table : List Hypothesis} {s : Sides}
    (b : Steppable l h serials rows table s)
  where
    -- 22: room is counted less the linear holds
    pub room_less : {v : Verdict} → Tells 22 v (no_room (ledger_of l) s.linears)
        → Tells 22 v (no_room (ledger_of l) (linear_count (held (ledger_of l).live serials)))
    room_less r = reworded r (ap (no_room (ledger_of l)) (sym b.holds.linears))

    -- 40 to 42 have passed, and 22, and 23
    module _ (j : steps (ledger_of l) (held (ledger_of l).live serials) h.formula h.interval (steps_from rows 0 h.steps)
        ≡ none) where
      past_42 : Past l h serials rows
          ((22 if no_room (ledger_of l) (linear_count (held (ledger_of l).live serials)))
          ∷ (23 if used_up (ledger_of l)) ∷ [])
      past_42 = b.so_far ▸ j

      pub no_room_left : {v : Verdict} → Tells 22 v (no_room (ledger_of l) s.linears) → v ≡ Failed
          → Handled l (booking_at h serials rows) (Refused 22 0) l
      no_room_left r e = refused b.before.lines.good past_42 (shown (room_less r) e)

      module _ {v : Verdict} (r : Tells 22 v (no_room (ledger_of l) s.linears)) (e : v ≡ Passed) where
        past_22 : Past l h serials rows ((23 if used_up (ledger_of l)) ∷ [])
        past_22 = past_42 ▸ shown (room_less r) e

        pub none_unused : {w : Verdict} → Tells 23 w (used_up (ledger_of l)) → w ≡ Failed
            → Handled l (booking_at h serials rows) (Refused 23 0) l
        none_unused u f = refused b.before.lines.good past_22 (shown u f)

        pub settled : {w : Verdict} → Tells 23 w (used_up (ledger_of l)) → w ≡ Passed
            → Settled l h serials rows table s
        settled u f = record {
          before = b;
          room = by_verdict (room_less r) e;
          unused = by_verdict u f;
          so_far = past_22 ▸ shown u f;
        }

module _ {l : List ℕ} {h : Head} {serials rows : List ℕ} {table : List Hypothesis} {s : Sides}
    (b : Settled l h serials rows table s) where
  -- what spending the holds asks, and then giving the goal
  pub book_spends : Spendable l serials
  book_spends = record {
    good = b.before.before.lines.good;
    alive = b.before.holds.alive;
    apart = b.before.apart;
  }

  abbrev spent : Ledger
  spent = let t = ledger_of l in with_live t (spend t.live (held t.live serials))

  pub book_gives : {l₁ : List ℕ} → StandsFor l₁ spent → Givable l₁ h.formula
  book_gives {l₁} d =
      let t = ledger_of l in
      let all : Every (λ (c : Credential). Unit {0}) t.live = every t.live in
      let split = splits (λ c. Unit {0}) t serials b.before.holds.alive b.before.apart all in
      let few = leb-false max_live (length t.live - linear_count (held t.live serials)) b.room in
      record {
        good = d.good;
        room = rw d.ledger (omega (arith, split.lengths));
        unused = rw d.ledger (ltb-false serial.last t.next b.unused);
        there = rw d.ledger (leb-false (length t.lines) h.formula b.before.before.there);
      }
    where
      every : (xs : List Credential) → Every (λ (c : Credential). Unit {0}) xs
      every [] = tt
      every (x ∷ xs) = (tt, every xs)

  pub book_done : {l₁ l₂ : List ℕ} {n : ℕ} → n ≡ (ledger_of l).next → StandsFor l₁ spent
      → StandsFor l₂ (with_credential (ledger_of l₁) Linear h.formula h.interval)
      → Handled l (booking_at h serials rows) (Accepted n) l₂
  unfolding accept
  book_done {l₁} {l₂} e d g =
      accepted b.so_far (ap Accepted e) tt
      (subst (λ (x : Ledger). StandsFor l₂ (with_credential x Linear h.formula h.interval)) d.ledger g)

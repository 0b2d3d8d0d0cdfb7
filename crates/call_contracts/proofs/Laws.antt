-- How a call comes to what it ensures: by the check that stops it, or past all of them.
use mathlib.Core.Path.{◌≡◌, refl, sym, ap, subst, ◌∙◌}
use mathlib.Core.List.{List, [], ◌∷◌}
use mathlib.Core.Option.{none, some}
use mathlib.Core.Bool.{true}
use Prim.Native.Nat.{ℕ, ◌≤◌}
use lib.Dec.{ltb}
use lib.ListN.{length}
use borrow.Author.Tests.{ltb-true}
use Rattle.request.specs.Range.{max_bytes}
use Rattle.request.specs.Request.{Request}
use Rattle.request.specs.Read.{request_of}
use Rattle.ledger.specs.declared.Answer.{Answer}
use Rattle.ledger.specs.declared.Answer.TheVariants.{Refused}
use Rattle.ledger.specs.Checks.{Check, read_checks}
use Rattle.ledger.specs.Calls.{Reply, told, accept, call}
use Rattle.ledger.specs.Statements.{SoFar, IsAccepted}
use Rattle.ledger.proofs.Firsts.{stopped_at, none_stops, handle_fails, handle_passes, call_long, call_none, call_read}
use Rattle.store.specs.Store.{ledger_of, Good, StandsFor}
use Rattle.call_contracts.specs.Called.{Handled, Called}

-- a check fails, those before it pass
pub refused : {l : List ℕ} {r : Request} {n k : ℕ} {c : Check} {rest : List Check} → Good l
    → SoFar (read_checks (ledger_of l) (some r)) (c ∷ rest) → c ≡ some (record { number = n; step = k })
    → Handled l r (Refused n k) l
refused {l} {r} g s f =
    let e = handle_fails (ledger_of l) r (stopped_at s f) in
    record {
      good = g;
      answer = sym (ap (λ (d : Reply). told d.answer) e);
      ledger = sym (ap (λ (d : Reply). d.ledger) e);
      same = λ n k q. refl;
    }

-- no check fails, and the ledger is the accepted request's
pub accepted : {l l' : List ℕ} {r : Request} {a : Answer} → SoFar (read_checks (ledger_of l) (some r)) []
    → a ≡ (accept (ledger_of l) r).answer → IsAccepted (told a) → StandsFor l' (accept (ledger_of l) r).ledger
    → Handled l r a l'
accepted {l} {r = r} p q d s =
    let e = handle_passes (ledger_of l) r (none_stops p) in
    record {
      good = s.good;
      answer = ap told q ∙ sym (ap (λ (d : Reply). told d.answer) e);
      ledger = s.ledger ∙ sym (ap (λ (d : Reply). d.ledger) e);
      same = λ n k z. absurd (subst IsAccepted z d);
    }

-- bytes, by their length and what they read as
module _ {l b : List ℕ} where
  stays : {n : ℕ} → Good l → (e : Reply) → call (ledger_of l) b ≡ e → e.answer ≡ Refused n 0
      → e.ledger ≡ ledger_of l → Called l b (Refused n 0) l
  stays g e q a t = record {
    good = g;
    answer = sym (ap (λ (d : Reply). told d.answer) q ∙ ap told a);
    ledger = sym (ap (λ (d : Reply). d.ledger) q ∙ t);
    same = λ n k z. refl;
  }

  pub called_long : Good l → ltb max_bytes (length b) ≡ true → Called l b (Refused 1 0) l
  called_long g e = stays g _ (call_long (ledger_of l) b (ltb-true _ _ e)) refl refl

  pub called_broken : Good l → length b ≤ max_bytes → request_of b ≡ none → Called l b (Refused 2 0) l
  called_broken g s e = stays g _ (call_none (ledger_of l) b s e) refl refl

  pub called_read : {r : Request} {a : Answer} {l' : List ℕ} → length b ≤ max_bytes → request_of b ≡ some r
      → Handled l r a l' → Called l b a l'
  called_read {r} s e h =
      let q = call_read (ledger_of l) b r s e in
      record {
        good = h.good;
        answer = h.answer ∙ sym (ap (λ (d : Reply). told d.answer) q);
        ledger = h.ledger ∙ sym (ap (λ (d : Reply). d.ledger) q);
        same = h.same;
      }

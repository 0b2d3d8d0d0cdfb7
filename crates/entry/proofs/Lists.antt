-- Calls in a row are the definition's, and the demands hold of them.
use mathlib.Core.Path.{◌≡◌, refl, sym, ap, ap₂, subst, ◌∙◌}
use mathlib.Core.List.{List, [], ◌∷◌, map}
use mathlib.Core.Option.{some}
use Prim.Native.Nat.{ℕ}
use native.Mathlib.Omega.{arith}
use Rattle.request.specs.Request.{Booking, book, tally}
use Rattle.request.specs.Read.{request_of}
use Rattle.request.specs.Write.{write}
use Rattle.ledger.specs.Ledger.{Ledger}
use Rattle.ledger.specs.Checks.{checks_of}
use Rattle.ledger.specs.Calls.{Reply, Told, ok, told, accept, call, told_of, after, answers}
use Rattle.ledger.specs.Statements.{IsAccepted}
use Rattle.ledger.proofs.Answers.{some_inj, Does, refuses, accepts, does}
use Rattle.ledger.proofs.Firsts.{first_fails}
use Rattle.store.specs.Store.{ledger_of, Good}
use Rattle.snapshot.specs.Reached.{afresh, Reached}
use Rattle.demands.specs.Later.{headed, SameBut, Arrives}
use Rattle.demands.proofs.Demand1.{call_accepts}
use Rattle.demands.proofs.Exactness.{soundness, exactness}
use Rattle.demands.proofs.Demand3.{demand_3}
use Rattle.demands.proofs.Later.{later_arrival}
use Rattle.entry.specs.Entered.{numbers, Entered}
use Rattle.entry.specs.Played.{Played, none, more, Made, PlayedIs, Answered, refused, accepted}
use Rattle.entry.specs.Played.{StartMade, CallsMeet, BookingsExact, CallsAddUp, LaterCall, CallsArrive}

pub start_made : StartMade
start_made l s = record { begins = afresh; stands = s }

pub calls_meet : CallsMeet
calls_meet start l l' bs ns m p = go m.stands.good p
  where
    go : {l l' : List ℕ} {bs ns : List (List ℕ)} → Good l → Played l bs ns l' → Good l'
    go g none = g
    go g (more h p) = go h.good p

-- from any ledger
played : {l l' : List ℕ} {bs ns : List (List ℕ)} (t : Ledger) → ledger_of l ≡ t → Played l bs ns l'
    → (ledger_of l' ≡ after t bs) × (ns ≡ map (λ a. numbers (told a)) (answers t bs))
unfolding after answers
played t e none = (e, refl)
played t e (more {b = b} h p) =
    let rest = played (call t b).ledger (h.ledger ∙ ap (λ (u : Ledger). (call u b).ledger) e) p in
    (rest.0, ap₂ ◌∷◌ (h.answer ∙ ap (λ (u : Ledger). numbers (told_of u b)) e) rest.1)

pub played_is : PlayedIs
played_is start l l' bs ns m p = played start m.stands.ledger p

-- numbers that tell a value tell of an acceptance
pub is_ok : (a : Told) (s : ℕ) → numbers a ≡ 1 ∷ s ∷ 0 ∷ 0 ∷ [] → IsAccepted a
is_ok (ok ns) s z = tt
is_ok (Told.no f k) s z = let z : ◌≡◌ {A = ℕ} 0 1 = cc in absurd (omega arith)

-- the call after them, at the ledger that they give
module _ (start : Ledger) (l l₁ b n l₂ : List ℕ) (bs ns : List (List ℕ)) (g : Made l start) (p : Played l bs ns l₁)
    (h : Entered l₁ b n l₂) where
  abbrev t : Ledger
  t = after start bs

  at : ledger_of l₁ ≡ t
  at = (played start g.stands.ledger p).0

  says_it : n ≡ numbers (told_of t b)
  says_it = h.answer ∙ ap (λ (u : Ledger). numbers (told_of u b)) at

  leaves_it : ledger_of l₂ ≡ (call t b).ledger
  leaves_it = h.ledger ∙ ap (λ (u : Ledger). (call u b).ledger) at

  -- as the reply of the definition
  replied : {d : Reply} → call t b ≡ d → n ≡ numbers (told d.answer)
  replied q = says_it ∙ ap (λ (d : Reply). numbers (told d.answer)) q

  pub calls_answered : Answered t b n l₁ l₂
  calls_answered = go (does t b)
    where
      go : Does t b → Answered t b n l₁ l₂
      go (refuses f e q) =
          refused f (first_fails (checks_of t b) e) (replied q) (h.same f.number f.step
          (ap (λ (u : Ledger). told_of u b) at ∙ ap (λ (d : Reply). told d.answer) q))
      go (accepts r e c d q) =
          accepted r e c (replied q) (leaves_it ∙ ap (λ (d : Reply). d.ledger) q)

  module _ (k : Booking) (e : request_of b ≡ some (book k)) where
    -- an accepted booking is answered with the next serial
    serial : IsAccepted (told_of t b) → n ≡ 1 ∷ t.next ∷ 0 ∷ 0 ∷ []
    unfolding accept
    serial a =
        let d = call_accepts t b a in
        replied (d.2 ∙ ap (accept t) (some_inj (sym d.1 ∙ e)))

    is_accepted : (s : ℕ) → n ≡ 1 ∷ s ∷ 0 ∷ 0 ∷ [] → IsAccepted (told_of t b)
    is_accepted s q = is_ok (told_of t b) s (sym says_it ∙ q)

    reached : Reached t
    reached = record { start = start; begins = g.begins; calls = bs; gives = refl }

pub bookings_exact : BookingsExact
bookings_exact start l l₁ b n l₂ bs ns k g p h e =
    let s = serial start l l₁ b n l₂ bs ns g p h k e in
    let i = is_accepted start l l₁ b n l₂ bs ns g p h k e (after start bs).next in
    let r = reached start l l₁ b n l₂ bs ns g p h k e in
    let x = (exactness (after start bs) r b k e).accepted in
    record { exactly = (λ q. x.0 (i q), λ d. s (x.1 d)); sound = λ q. soundness (after start bs) r b k e (i q) }

pub calls_add_up : CallsAddUp
calls_add_up start l l₁ n l₂ bs ns s m hs hm g p h =
    let sums = demand_3 start g.begins bs s m hs hm in
    record {
      open_seats = sums.open_seats;
      shut_seats = sums.shut_seats;
      placed = sums.placed;
      answer = says_it start l l₁ (write (tally s m)) n l₂ bs ns g p h ∙ ap numbers sums.answer;
      sum = sums.sum;
    }

pub calls_arrive : CallsArrive
calls_arrive start l l₁ b n l₂ bs ns k g p h e s q now i w d m =
    let accepted = is_accepted start l l₁ b n l₂ bs ns g p h k e s q in
    let reached = reached start l l₁ b n l₂ bs ns g p h k e in
    go (later_arrival (after start bs) reached b k e accepted now i w d m)
  where
    -- the later sheet, on the same block
    go : Arrives (after start bs) b k now i → LaterCall (after start bs) l₁ b n l₂ k now i
    go a = record {
      lines = a.lines;
      sheet = a.sheet;
      reads = a.reads;
      answer = λ n' l₃ h'.
          says_it start l l₁ (headed k now i a.lines) n' l₃ bs ns g p h'
          ∙ ap numbers (a.accepted ∙ sym a.answered) ∙ sym (says_it start l l₁ b n l₂ bs ns g p h);
      consumes = λ n' l₃ h'.
          subst (λ (u : Ledger). SameBut (after start bs) k i u (ledger_of l₃))
          (sym (leaves_it start l l₁ b n l₂ bs ns g p h))
          (subst (λ (u : Ledger). SameBut (after start bs) k i (call (after start bs) b).ledger u)
          (sym (leaves_it start l l₁ (headed k now i a.lines) n' l₃ bs ns g p h')) a.consumes);
    }

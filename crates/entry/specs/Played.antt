-- Calls from C in a row, on one block: what they come to, and the demands of the running code.
use Rattle.std.specs.Prelude.{◌≡◌, ◌↔◌, List, [], ◌∷◌, map, true, ℕ, ◌+◌}
use Rattle.std.proofs.Math.Option.{some}
use Rattle.logic.specs.declared.Interval.{Interval}
use Rattle.logic.specs.Interval.{◌⊇◌, WellFormed, has}
use Rattle.logic.specs.Multiset.{Every}
use Rattle.request.specs.Range.{session, minute}
use Rattle.request.specs.InRange.{◌in_range◌}
use Rattle.request.specs.Request.{Booking, Request, book, tally}
use Rattle.request.specs.Read.{request_of}
use Rattle.request.specs.Write.{write}
use Rattle.ledger.specs.Ledger.{Ledger, empty}
use Rattle.ledger.specs.Checks.{Refusal, checks_of}
use Rattle.ledger.specs.Calls.{told, accept, after, answers}
use Rattle.ledger.specs.Statements.{Pass, FirstFails}
use Rattle.store.specs.Store.{ledger_of, Good, StandsFor}
use Rattle.snapshot.specs.Reached.{Begins}
use Rattle.demands.specs.Demands.{OnlySteps, StepsDerive, SoundFor}
use Rattle.demands.specs.History.{history_of, issued, withdrawn}
use Rattle.demands.specs.Later.{arriving, headed, SameBut}
use Rattle.entry.specs.Entered.{numbers, Entered}

-- the sheets of the calls, the numbers of their answers, and the block from before the first to after the last
pub data Played : List ℕ → List (List ℕ) → List (List ℕ) → List ℕ → Type 0 where
  none : {l : List ℕ} → Played l [] [] l
  more : {l b n l₁ l₂ : List ℕ} {bs ns : List (List ℕ)} → Entered l b n l₁ → Played l₁ bs ns l₂
      → Played l (b ∷ bs) (n ∷ ns) l₂

-- a block that was made: it stands for the ledger that calls begin at, the empty one or that of an opened text
pub record Made (l : List ℕ) (start : Ledger) : Type 0 where
  pub begins : Begins start
  pub stands : StandsFor l start

-- "nothing is required of whoever called but a till that calls gave": a started block was made (an opened one too, by
-- `Reopened` in Saved), and after any calls on a block that was made it is `Good`, which is all that a call requires.
abbrev pub StartMade : Type 0
StartMade = (l : List ℕ) → StandsFor l empty → Made l empty

abbrev pub CallsMeet : Type 0
CallsMeet =
    (start : Ledger) (l l' : List ℕ) (bs ns : List (List ℕ)) → Made l start → Played l bs ns l' → Good l'

-- From a block that was made, the block after the calls is the ledger of the definition's list of calls, and the
-- numbers are those of its answers. What the demands say of lists of calls they say of these.
abbrev pub PlayedIs : Type 0
PlayedIs =
    (start : Ledger) (l l' : List ℕ) (bs ns : List (List ℕ)) → Made l start → Played l bs ns l'
    → (ledger_of l' ≡ after start bs) × (ns ≡ map (λ a. numbers (told a)) (answers start bs))

-- DEMAND 1 of the running code: after any calls on a block that was made, the next call's numbers and block are the
-- first failing check's, with the very same block, or those of an accepted request, where no check fails.
pub data Answered (t : Ledger) (b n l l' : List ℕ) : Type 0 where
  refused : (f : Refusal) → FirstFails f (checks_of t b) → n ≡ 0 ∷ f.number ∷ f.step ∷ 0 ∷ [] → l' ≡ l
      → Answered t b n l l'
  accepted : (r : Request) → request_of b ≡ some r → Pass (checks_of t b) → n ≡ numbers (told (accept t r).answer)
      → ledger_of l' ≡ (accept t r).ledger → Answered t b n l l'

abbrev pub CallsAnswered : Type 0
CallsAnswered =
    (start : Ledger) (l l₁ b n l₂ : List ℕ) (bs ns : List (List ℕ)) → Made l start → Played l bs ns l₁
    → Entered l₁ b n l₂ → Answered (after start bs) b n l₁ l₂

-- DEMAND 2 of the running code: after any calls on a block that was made, a booking is accepted, with the next
-- serial, exactly when its other checks pass and its steps are a derivation; and these are one of its goal from the
-- credentials that it names.
pub record BookingExact (t : Ledger) (b n : List ℕ) (k : Booking) : Type 0 where
  pub exactly : (n ≡ 1 ∷ t.next ∷ 0 ∷ 0 ∷ []) ↔ (Every OnlySteps (checks_of t b) × StepsDerive t k)
  pub sound : n ≡ 1 ∷ t.next ∷ 0 ∷ 0 ∷ [] → SoundFor t k

abbrev pub BookingsExact : Type 0
BookingsExact =
    (start : Ledger) (l l₁ b n l₂ : List ℕ) (bs ns : List (List ℕ)) (k : Booking) → Made l start → Played l bs ns l₁
    → Entered l₁ b n l₂ → request_of b ≡ some (book k) → BookingExact (after start bs) b n k

-- DEMAND 3 of the running code: after any calls from a block that was made, a call with a tally answers three
-- figures that add up with what was withdrawn to what was issued.
pub record TallyAddsUp (start : Ledger) (bs : List (List ℕ)) (s : ℕ) (n : List ℕ) : Type 0 where
  pub open_seats : ℕ
  pub shut_seats : ℕ
  pub placed : ℕ
  pub answer : n ≡ 3 ∷ open_seats ∷ shut_seats ∷ placed ∷ []
  pub sum : open_seats + shut_seats + placed + withdrawn s (history_of start bs) ≡ issued s (history_of start bs)

abbrev pub CallsAddUp : Type 0
CallsAddUp =
    (start : Ledger) (l l₁ n l₂ : List ℕ) (bs ns : List (List ℕ)) (s m : ℕ) → s in_range session → m in_range minute
    → Made l start → Played l bs ns l₁ → Entered l₁ (write (tally s m)) n l₂ → TallyAddsUp start bs s n

-- ASK 4 of the running code (document 02): after any calls on a block that was made, where a booking is accepted, the
-- same sheet with any interval within its goal's, as sets, and any minute in that, its hold and step lines the same
-- bytes, gets the same numbers from the same block, and the ledgers after differ in the new credential's interval
-- alone.
pub record LaterCall (t : Ledger) (l b n l' : List ℕ) (k : Booking) (now : ℕ) (i : Interval) : Type 0 where
  pub lines : List ℕ
  pub sheet : b ≡ headed k k.now k.interval lines
  pub reads : request_of (headed k now i lines) ≡ some (book (arriving k now i))
  pub answer : (m l'' : List ℕ) → Entered l (headed k now i lines) m l'' → m ≡ n
  pub consumes : (m l'' : List ℕ) → Entered l (headed k now i lines) m l''
      → SameBut t k i (ledger_of l') (ledger_of l'')

abbrev pub CallsArrive : Type 0
CallsArrive =
    (start : Ledger) (l l₁ b n l₂ : List ℕ) (bs ns : List (List ℕ)) (k : Booking) → Made l start → Played l bs ns l₁
    → Entered l₁ b n l₂ → request_of b ≡ some (book k) → (serial : ℕ) → n ≡ 1 ∷ serial ∷ 0 ∷ 0 ∷ []
    → (now : ℕ) (i : Interval) → WellFormed i → k.interval ⊇ i → has i now ≡ true
    → LaterCall (after start bs) l₁ b n l₂ k now i

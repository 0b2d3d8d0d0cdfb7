-- Document 02, ask 4: "if a booking sheet is accepted, then the same sheet with its goal window replaced by any window
-- within it, now lying in that, is accepted by the same till, and it consumes the same coupons. Document 000 proves the
-- like for derivations; here the steps themselves must not change."
use Rattle.std.specs.Prelude.{◌≡◌, List, [], ◌∷◌, ◌++◌, true, ℕ, length}
use Rattle.std.proofs.Math.Option.{some}
use Rattle.logic.specs.declared.Interval.{Interval}
use Rattle.logic.specs.Interval.{◌⊇◌, WellFormed, has}
use Rattle.request.specs.declared.Kind.TheVariants.{Linear}
use Rattle.request.specs.Request.{Booking, book}
use Rattle.request.specs.Read.{request_of}
use Rattle.request.specs.Write.{joined, book_fields}
use Rattle.ledger.specs.declared.Credential.{Credential}
use Rattle.ledger.specs.Ledger.{Ledger}
use Rattle.ledger.specs.Calls.{ok, call, told_of}
use Rattle.ledger.specs.Statements.{IsAccepted}
use Rattle.demands.specs.Demands.{Reached, booking}

-- the booking with another goal interval, handed in at a minute
abbrev pub arriving : Booking → ℕ → Interval → Booking
arriving b now i = booking now b.formula i b.holds b.steps

-- its sheet: the first line of b but for the minute and the interval, and after it the lines that are given
abbrev pub headed : Booking → ℕ → Interval → List ℕ → List ℕ
headed b now i lines = joined (book_fields now b.formula i (length b.holds) (length b.steps)) ++ (10 ∷ lines)

-- the credential that it gives
abbrev pub given : Ledger → Booking → Interval → Credential
given t b i = record { serial = t.next; kind = Linear; formula = b.formula; interval = i }

-- "it consumes the same coupons": the two ledgers after have the same credentials from before, and the new one differs
-- in its interval alone
pub record SameBut (t : Ledger) (b : Booking) (i : Interval) (first second : Ledger) : Type 0 where
  pub kept : List Credential
  pub first_live : first.live ≡ kept ++ (given t b b.interval ∷ [])
  pub second_live : second.live ≡ kept ++ (given t b i ∷ [])
  pub lines : second.lines ≡ first.lines
  pub next : second.next ≡ first.next

pub record Arrives (t : Ledger) (bytes : List ℕ) (b : Booking) (now : ℕ) (i : Interval) : Type 0 where
  -- "the steps themselves must not change": the hold and step lines, the same bytes in both sheets
  pub lines : List ℕ
  pub sheet : bytes ≡ headed b b.now b.interval lines
  -- the later sheet is read, and answered as the first: with the next serial
  pub reads : request_of (headed b now i lines) ≡ some (book (arriving b now i))
  pub answered : told_of t bytes ≡ ok (t.next ∷ [])
  pub accepted : told_of t (headed b now i lines) ≡ ok (t.next ∷ [])
  pub consumes : SameBut t b i (call t bytes).ledger (call t (headed b now i lines)).ledger

-- For every ledger that calls gave and every accepted booking: any interval within its own, as sets, and any minute in
-- that, its own too where it lies there.
abbrev pub LaterArrival : Type 0
LaterArrival = (t : Ledger) → Reached t → (bytes : List ℕ) (b : Booking) → request_of bytes ≡ some (book b)
    → IsAccepted (told_of t bytes)
    → (now : ℕ) (i : Interval) → WellFormed i → b.interval ⊇ i → has i now ≡ true → Arrives t bytes b now i

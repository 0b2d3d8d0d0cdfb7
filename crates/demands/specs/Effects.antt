-- "each accepted call does what document 01 says": what becomes of every serial. (`accept` in the ledger's Calls.antt
-- says what a call does to the lists; this says what that means.)
use Rattle.std.specs.Prelude.{◌≡◌, List, [], ◌∷◌, Bool, true, false, ◌&&◌, ℕ, ◌+◌, eqb, length}
use Rattle.std.proofs.Math.Option.{Option, none, some}
use Rattle.logic.specs.declared.Interval.{Interval}
use Rattle.request.specs.declared.Kind.{Kind}
use Rattle.request.specs.declared.Kind.TheVariants.{Linear}
use Rattle.request.specs.Request.{Line, Request, word, issue, withdraw, book, tally}
use Rattle.request.specs.Read.{request_of}
use Rattle.ledger.specs.declared.Credential.{Credential}
use Rattle.ledger.specs.declared.Answer.{Answer}
use Rattle.ledger.specs.declared.Answer.TheVariants.{Accepted, Counted, Refused}
use Rattle.ledger.specs.Ledger.{Ledger, is_kind, find, held}
use Rattle.ledger.specs.Checks.{any_of}
use Rattle.ledger.specs.Calls.{Told, ok, open_seats, shut_seats, placed, with_line, call, told_of}
use Rattle.demands.specs.History.{History, begun, ◌upon◌, history_of}
use Rattle.ledger.specs.Statements.{IsAccepted}
use Rattle.demands.specs.Demands.{Reached}

-- the new credential has the next serial, and the serial after it comes next
pub record Gives (t : Ledger) (k : Kind) (n : ℕ) (i : Interval) (gone : ℕ → Bool) (a : Told) (t' : Ledger) : Type 0
  where
    pub answer : a ≡ ok (t.next ∷ [])
    pub lines : t'.lines ≡ t.lines
    pub next : t'.next ≡ t.next + 1
    -- every serial: the new one, one that is gone, or as before
    pub live : (m : ℕ) → find t'.live m ≡ elim (eqb m t.next) as (λ z. Option Credential) [
      | true ↦ some (record { serial = t.next; kind = k; formula = n; interval = i })
      | false ↦ elim (gone m) as (λ z. Option Credential) [ true ↦ none | false ↦ find t.live m ]
    ]

pub record Removes (t : Ledger) (n : ℕ) (a : Told) (t' : Ledger) : Type 0 where
  pub answer : a ≡ ok (n ∷ [])
  pub lines : t'.lines ≡ t.lines
  pub next : t'.next ≡ t.next
  pub live : (m : ℕ) → find t'.live m ≡ elim (eqb m n) as (λ z. Option Credential) [
    | true ↦ none
    | false ↦ find t.live m
  ]

pub record Words (t : Ledger) (l : Line) (a : Told) (t' : Ledger) : Type 0 where
  pub answer : a ≡ ok (length t.lines ∷ [])
  pub ledger : t' ≡ with_line t l

pub record Tallies (t : Ledger) (s m : ℕ) (a : Told) (t' : Ledger) : Type 0 where
  pub answer : a ≡ ok (open_seats t s m ∷ shut_seats t s m ∷ placed t s ∷ [])
  pub ledger : t' ≡ t

-- an issue takes nothing away
abbrev pub nothing : ℕ → Bool
nothing m = false

-- a booking: the serials of the linear credentials held
unfoldable pub spent : List Credential → ℕ → Bool
spent hs m = any_of (λ c. is_kind Linear c.kind && eqb c.serial m) hs

abbrev pub EffectOf : Ledger → Request → Told → Ledger → Type 0
EffectOf t (word l) = Words t l
EffectOf t (issue k n i) = Gives t k n i nothing
EffectOf t (withdraw n) = Removes t n
EffectOf t (book b) = Gives t Linear b.formula b.interval (spent (held t.live b.holds))
EffectOf t (tally s m) = Tallies t s m

abbrev pub Effects : Type 0
Effects = (t : Ledger) → Reached t → (bytes : List ℕ) (r : Request) → request_of bytes ≡ some r
    → IsAccepted (told_of t bytes) → EffectOf t r (told_of t bytes) (call t bytes).ledger

-- "Serials run from 1, given only by accepted calls and never given again": of a list of calls, those that issues and
-- bookings answered, the latest first

abbrev pub serial_of : Answer → List ℕ → List ℕ
serial_of (Accepted n) ns = n ∷ ns
serial_of (Counted o s p) ns = ns
serial_of (Refused n k) ns = ns

abbrev pub serial_by : Request → Answer → List ℕ → List ℕ
serial_by (word l) a ns = ns
serial_by (issue k n i) a ns = serial_of a ns
serial_by (withdraw n) a ns = ns
serial_by (book b) a ns = serial_of a ns
serial_by (tally s m) a ns = ns

unfoldable pub serials : History → List ℕ
serials (begun t) = []
serials (e upon h) = serial_by e.request e.answer (serials h)

-- each one more than the one before it, the first lo
abbrev pub CountUp : ℕ → List ℕ → Type 0
CountUp lo [] = Unit {0}
CountUp lo (n ∷ ns) = (n ≡ length ns + lo) × CountUp lo ns

-- the first is the next serial of the ledger that the calls began at: of the empty one, 1
abbrev pub SerialsOnce : Type 0
SerialsOnce = (start : Ledger) (calls : List (List ℕ)) → CountUp start.next (serials (history_of start calls))

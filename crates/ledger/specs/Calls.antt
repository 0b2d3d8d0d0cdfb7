-- What an accepted request does and answers, the one call that tells requests apart, and lists of calls.
use Rattle.std.specs.Prelude.{List, [], ◌∷◌, ◌++◌, Bool, true, false, ℕ, ◌+◌, ◌-◌, length}
use Rattle.std.proofs.Math.Option.{Option, none, some}
use Rattle.logic.specs.declared.Interval.{Interval}
use Rattle.logic.specs.Interval.{has}
use Rattle.logic.specs.Formula.{Formula, seats, places, house_seats}
use Rattle.logic.specs.Multiset.{sum}
use Rattle.request.specs.declared.Kind.{Kind}
use Rattle.request.specs.declared.Kind.TheVariants.{Linear}
use Rattle.request.specs.Request.{Line, Request, word, issue, withdraw, book, tally}
use Rattle.request.specs.Read.{request_of}
use Rattle.ledger.specs.declared.Credential.{Credential}
use Rattle.ledger.specs.declared.Answer.{Answer}
use Rattle.ledger.specs.declared.Answer.TheVariants.{Accepted, Counted, Refused}
use Rattle.ledger.specs.Ledger.{Ledger, formula, by_kind, without_serial, held, spend}
use Rattle.ledger.specs.Checks.{Refusal, first, read_checks, checks_of}

-- an answer and the ledger after the call
pub record Reply : Type 0 where
  pub answer : Answer
  pub ledger : Ledger

abbrev pub reply : Answer → Ledger → Reply
reply a t = record { answer = a; ledger = t }

-- What `tillrun` prints of an answer: `ok,` and its values, or `no,` with refusal and step.
pub data Told : Type 0 where
  ok : List ℕ → Told
  no : ℕ → ℕ → Told

abbrev pub told : Answer → Told
told (Accepted n) = ok (n ∷ [])
told (Counted o s p) = ok (o ∷ s ∷ p ∷ [])
told (Refused n k) = Told.no n k

-- one formula line more
abbrev pub with_line : Ledger → Line → Ledger
with_line t l = record { lines = t.lines ++ (l ∷ []); live = t.live; next = t.next }

-- other live credentials
abbrev pub with_live : Ledger → List Credential → Ledger
with_live t cs = record { lines = t.lines; live = cs; next = t.next }

-- one credential more, with the next serial
abbrev pub with_credential : Ledger → Kind → ℕ → Interval → Ledger
with_credential t k n i = record {
  lines = t.lines;
  live = t.live ++ (record { serial = t.next; kind = k; formula = n; interval = i } ∷ []);
  next = t.next + 1;
}

-- n where the test is true
abbrev pub only : Bool → ℕ → ℕ
only true n = n
only false n = 0

-- What a linear credential of formula a gives to the figures of a tally, and whether its interval has the minute.
-- "Open now counts only seats whose nearest ⟨K⟩ above them is principal 1, in a window that has the minute. All other
-- seats, bare ones too, go to shut." Places are placed.
abbrev pub open_in : Bool → ℕ → Formula → ℕ
open_in inside s a = only inside (house_seats s a)

abbrev pub shut_in : Bool → ℕ → Formula → ℕ
shut_in inside s a = seats s a - open_in inside s a

-- the figures of a credential: an unrestricted one gives nothing
abbrev pub open_of : Ledger → ℕ → ℕ → Credential → ℕ
open_of t s m c = by_kind c.kind (open_in (has c.interval m) s (formula t c.formula)) 0

abbrev pub shut_of : Ledger → ℕ → ℕ → Credential → ℕ
shut_of t s m c = by_kind c.kind (shut_in (has c.interval m) s (formula t c.formula)) 0

abbrev pub places_of : Ledger → ℕ → Credential → ℕ
places_of t s c = by_kind c.kind (places s (formula t c.formula)) 0

-- "Tally: over live singles"
unfoldable pub open_seats : Ledger → ℕ → ℕ → ℕ
open_seats t s m = sum (open_of t s m) t.live

unfoldable pub shut_seats : Ledger → ℕ → ℕ → ℕ
shut_seats t s m = sum (shut_of t s m) t.live

unfoldable pub placed : Ledger → ℕ → ℕ
placed t s = sum (places_of t s) t.live

unfoldable pub accept : Ledger → Request → Reply
-- "The till numbers them from 0"
accept t (word l) = reply (Accepted (length t.lines)) (with_line t l)
-- "An accepted issue adds one, a withdraw removes it."
accept t (issue k n i) = reply (Accepted t.next) (with_credential t k n i)
accept t (withdraw n) = reply (Accepted n) (with_live t (without_serial t.live n))
-- "An accepted booking removes the single-use holds and adds the goal as one single-use coupon with the next serial."
accept t (book b) =
    reply (Accepted t.next)
    (with_credential (with_live t (spend t.live (held t.live b.holds))) Linear b.formula b.interval)
accept t (tally s m) = reply (Counted (open_seats t s m) (shut_seats t s m) (placed t s)) t

-- "Any refusal returns these two numbers and the till as before."
unfoldable pub decide : Ledger → Option Refusal → Option Request → Reply
decide t (some f) r = reply (Refused f.number f.step) t
decide t none (some r) = accept t r
decide t none none = reply (Refused 2 0) t  -- does not occur: check 2 has failed

-- a request that has been read
abbrev pub handle : Ledger → Request → Reply
handle t r = decide t (first (read_checks t (some r))) (some r)

unfoldable pub call : Ledger → List ℕ → Reply
call t bytes = decide t (first (checks_of t bytes)) (request_of bytes)

-- what a call answers, in document 01's values
abbrev pub told_of : Ledger → List ℕ → Told
told_of t bytes = told (call t bytes).answer

-- A list of calls, each at the ledger that the one before left: the ledger after it, and the answers.
unfoldable pub after : Ledger → List (List ℕ) → Ledger
after t [] = t
after t (b ∷ bs) = after (call t b).ledger bs

unfoldable pub answers : Ledger → List (List ℕ) → List Answer
answers t [] = []
answers t (b ∷ bs) = let r = call t b in r.answer ∷ answers r.ledger bs

-- what is kept of a list of calls and their answers, one by one, after `kept`
unfoldable pub traced : {A : Type 0} → (Option Request → Answer → A → A) → A → List (List ℕ) → List Answer → A
traced keep kept [] more = kept
traced keep kept (b ∷ bs) [] = kept
traced keep kept (b ∷ bs) (a ∷ more) = traced keep (keep (request_of b) a kept) bs more

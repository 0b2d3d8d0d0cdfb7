-- What the floor staff asked for: the three demands, over the definitions of document 01 (crate ledger), derivations
-- (crate logic) and the history of a list of calls. The sentences in quotation marks are their commission's, word for
-- word, each clause beside the line that says it.
use Rattle.std.specs.Prelude.{◌≡◌, ◌↔◌, ◌⊎◌, List, [], ◌∷◌, map, true, false, ℕ, ◌+◌, ◌≤◌, length}
use Rattle.std.proofs.Math.Option.{none, some}
use Rattle.logic.specs.declared.Interval.{Interval}
use Rattle.logic.specs.Interval.{WellFormed, has}
use Rattle.logic.specs.Formula.{plain, unbound}
use Rattle.logic.specs.Multiset.{Every}
use Rattle.logic.specs.Derives.{Hyp, ◌⟦◌⟧, Judgment, holds, Derives, Letter, letters, uses, taken}
use Rattle.request.specs.declared.Kind.{Kind}
use Rattle.request.specs.declared.Kind.TheVariants.{Linear, Unrestricted}
use Rattle.request.specs.Range.{session, minute, steps as step_count, holds as hold_count}
use Rattle.request.specs.Request.{Step, Booking, Request, book, tally}
use Rattle.request.specs.Read.{request_of}
use Rattle.request.specs.Write.{write}
use Rattle.request.specs.InRange.{◌in_range◌}
use Rattle.steps.specs.Check.{max_labels}
use Rattle.steps.specs.StepLetters.{letters_of}
use Rattle.steps.specs.Limits.{Minutes, Writable}
use Rattle.steps.specs.Spells.{Labels, Labelled, Spells, Refused as StepsRefused}
use Rattle.ledger.specs.declared.Credential.{Credential}
use Rattle.ledger.specs.Ledger.{Ledger, formula, is_kind, held}
use Rattle.ledger.specs.Checks.{Check, any_of, missing, dead, twice, labels_of, steps}
use Rattle.ledger.specs.Checks.{checks_of}
use Rattle.ledger.specs.Calls.{Told, ok, accept, call, told_of, after}
pub use Rattle.snapshot.specs.Reached.{Begins, Reached}
use Rattle.demands.specs.History.{history_of, issued, withdrawn}
use Rattle.ledger.specs.Statements.{Pass, FirstFails, IsAccepted}

-- DEMAND 1. "If a sheet, of whatever bytes and length, fails a check of document 01, the call returns the number of
-- the first check that fails, the till and the lent sheet stay exactly as they were, and nothing is required of
-- whoever called but a till that calls gave." "of whatever bytes and length", "nothing is required": this holds of all
-- bytes and of every ledger, whether calls gave it or not, with no hypothesis. "the lent sheet": a call of the
-- definition has none to change; of the code see `till_call` (crate entry).

pub record Demand1 (t : Ledger) (bytes : List ℕ) : Type 0 where
  -- "fails a check of document 01, the call returns the number of the first check that fails": these two numbers are
  -- told exactly where they are those of the first check that fails
  pub refused : (n k : ℕ)
      → (told_of t bytes ≡ Told.no n k) ↔ FirstFails (record { number = n; step = k }) (checks_of t bytes)
  -- "the till .. stay[s] exactly as [it was]"
  pub stays : (n k : ℕ) → told_of t bytes ≡ Told.no n k → (call t bytes).ledger ≡ t
  -- demand 2, "Other sheets pass exactly when no check fails", and so do bookings
  pub accepted : IsAccepted (told_of t bytes) ↔ Pass (checks_of t bytes)

-- DEMAND 2. "A booking sheet is accepted exactly when it passes the other checks and its steps are a derivation, by
-- document 01's ground rules of η-logic (report CMU-CS-07-166), of the wording and window wanted from the coupons
-- named, each single-use one used just once. Every such derivation within document 01's limits has step lines that
-- pass. Other sheets pass exactly when no check fails; each accepted call does what document 01 says."

-- "from the coupons named": the hypothesis of a credential, and those of a kind among the credentials held
abbrev pub hyp : Ledger → Credential → Hyp
hyp t c = formula t c.formula ⟦ c.interval ⟧

unfoldable pub hyps_of : Ledger → Kind → List Credential → List Hyp
hyps_of t k [] = []
hyps_of t k (c ∷ cs) = elim (is_kind k c.kind) [ true ↦ hyp t c ∷ hyps_of t k cs | false ↦ hyps_of t k cs ]

-- "a derivation, by document 01's ground rules of η-logic .., of the wording and window wanted from the coupons named,
-- each single-use one used just once": the rules are those of `Derives`, each of which uses up every linear hypothesis
-- just once; the linear hypotheses are those of the linear credentials held
abbrev pub Derivation : Ledger → List Credential → ℕ → Interval → Type 0
Derivation t cs n i = Derives (hyps_of t Unrestricted cs) (hyps_of t Linear cs) (holds (formula t n) i)

-- Soundness: an accepted booking's steps are a derivation of its goal from the credentials that it names: its rules,
-- in their order and with the intervals and holders that they choose, are those that the step lines name.
pub record SoundFor (t : Ledger) (b : Booking) : Type 0 where
  pub derivation : Derivation t (held t.live b.holds) b.formula b.interval
  pub lines : letters_of b.steps ≡ letters derivation
  pub labels : length b.holds + taken derivation ≤ max_labels
  pub minutes : Minutes derivation

abbrev pub Soundness : Type 0
Soundness = (t : Ledger) → Reached t → (bytes : List ℕ) (b : Booking) → request_of bytes ≡ some (book b)
    → IsAccepted (told_of t bytes) → SoundFor t b

-- "Every such derivation within document 01's limits has step lines that pass." Document 01: "Its limits there: 32
-- coupons, 256 uses of rules, 64 for coupons plus labels taken, minutes in range, wordings of this till."

pub record WithinLimits {R D : List Hyp} {g : Judgment} (credentials : ℕ) (x : Derives R D g) : Type 0 where
  pub rules : uses x ≤ step_count.last
  pub labels : credentials + taken x ≤ max_labels
  pub minutes : Minutes x

abbrev pub booking : ℕ → ℕ → Interval → List ℕ → List Step → Booking
booking now n i hs ss = record { now = now; formula = n; interval = i; holds = hs; steps = ss }

-- the check of a booking's steps
abbrev pub steps_of : Ledger → Booking → Check
steps_of t b = steps t (held t.live b.holds) b.formula b.interval b.steps

-- step lines by these rules that pass: 2, 3 and 43, so far as they speak of step lines, and 40 to 42
pub record StepsFor (t : Ledger) (n : ℕ) (i : Interval) (hs : List ℕ) (rules : List Letter) : Type 0 where
  pub lines : List Step
  pub letters : letters_of lines ≡ rules
  pub count : length lines in_range step_count
  pub writable : Every Writable lines
  pub pass : (now : ℕ) → steps_of t (booking now n i hs lines) ≡ none

-- every derivation within the limits has step lines that pass, whatever its goal among the ledger's formulas and the
-- booking's minute; the limit of 32 credentials is not needed here
abbrev pub StepsComplete : Type 0
StepsComplete = (t : Ledger) → Reached t → (n : ℕ) (i : Interval) (hs : List ℕ) → missing t n ≡ false
    → (x : Derivation t (held t.live hs) n i) → WithinLimits (length hs) x → StepsFor t n i hs (letters x)

-- Down to bytes, for what a booking may name by the checks before its steps: its credentials live and no two alike,
-- its goal a plain formula of the ledger without an unbound holder, its interval in range and well formed, with the
-- minute in it.
pub record May (t : Ledger) (now n : ℕ) (i : Interval) (hs : List ℕ) : Type 0 where
  pub few : length hs ≤ hold_count.last
  pub live : any_of (dead t) hs ≡ false
  pub apart : twice hs ≡ false
  pub there : missing t n ≡ false
  pub bound : unbound (formula t n) ≡ false
  pub plain : plain (formula t n) ≡ true
  pub formed : WellFormed i
  pub ranged : i.to ≤ minute.last
  pub inside : has i now ≡ true

-- past the checks up to 42: accepted with the next serial, or refused by 22 or 23
abbrev pub PastSteps : Ledger → Told → Type 0
PastSteps t a = (a ≡ ok (t.next ∷ [])) ⊎ (a ≡ Told.no 22 0) ⊎ (a ≡ Told.no 23 0)

-- every derivation within the limits has step lines with which the request's bytes pass every check up to 42
abbrev pub Completeness : Type 0
Completeness = (t : Ledger) → Reached t → (now n : ℕ) (i : Interval) (hs : List ℕ) → May t now n i hs
    → (x : Derivation t (held t.live hs) n i) → WithinLimits (length hs) x
    → (ss : List Step) × (letters_of ss ≡ letters x) × PastSteps t (told_of t (write (book (booking now n i hs ss))))

-- Exactly

-- the labels of a booking's holds and its sequent, on formulas
abbrev pub start_labels : Ledger → List Credential → Labels
start_labels t cs = map (hyp t) cs

abbrev pub start_sequent : Ledger → List Credential → ℕ → Interval → Labelled
start_sequent t cs n i = record {
  unrestricted = labels_of Unrestricted 0 cs 0;
  linear = labels_of Linear 0 cs 0;
  goal = holds (formula t n) i;
}

-- "its steps are a derivation": they spell one, by the rules of document 01's section "Steps", and no line is left
abbrev pub StepsDerive : Ledger → Booking → Type 0
StepsDerive t b =
    let cs = held t.live b.holds in
    (ls : Labels) × Spells b.steps (start_labels t cs) (start_sequent t cs b.formula b.interval) [] ls

-- where they are not, the first fault and its step
abbrev pub StepsStop : Ledger → Booking → ℕ → ℕ → Type 0
StepsStop t b c k =
    let cs = held t.live b.holds in
    StepsRefused (length b.steps) b.steps (start_labels t cs) (start_sequent t cs b.formula b.interval) c k

-- a check passes or is one of 40 to 42
abbrev pub OnlySteps : Check → Type 0
OnlySteps none = Unit {0}
OnlySteps (some f) = (40 ≤ f.number) × (f.number ≤ 42)

pub record ExactlyFor (t : Ledger) (bytes : List ℕ) (b : Booking) : Type 0 where
  -- "accepted exactly when it passes the other checks and its steps are a derivation"
  pub accepted : IsAccepted (told_of t bytes) ↔ (Every OnlySteps (checks_of t bytes) × StepsDerive t b)
  -- 40 to 42 are the first fault of the steps, with its step
  pub stopped : (c k : ℕ) → (steps_of t b ≡ some (record { number = c; step = k })) ↔ StepsStop t b c k

abbrev pub Exactness : Type 0
Exactness = (t : Ledger) → Reached t → (bytes : List ℕ) (b : Booking) → request_of bytes ≡ some (book b)
    → ExactlyFor t bytes b

-- "each accepted call does what document 01 says": an accepted call answers and leaves what `accept` says of the
-- request that its bytes are
abbrev pub Accepts : Type 0
Accepts = (t : Ledger) (bytes : List ℕ) → IsAccepted (told_of t bytes)
    → (r : Request) × (request_of bytes ≡ some r) × (call t bytes ≡ accept t r)

-- DEMAND 3. "For every list of word, issue, withdraw, book and tally calls from an empty till, refused ones included,
-- this holds after it, for every session and every minute: the sum of the open seats, shut seats and places that tally
-- answers and of the session's withdrawals equals the seats and places issued to it. It holds whatever bytes the
-- sheets are and whatever the booking sheets prove. Each call gets the till as the one before left it. Issued and
-- withdrawn are counted, as document 01 says, from the accepted sheets and their answers alone."

pub record AddsUp (start : Ledger) (calls : List (List ℕ)) (s m : ℕ) : Type 0 where
  -- "the open seats, shut seats and places that tally answers": a tally of the session and the minute, made after the
  -- list. "Each call gets the till as the one before left it": `after`
  pub open_seats : ℕ
  pub shut_seats : ℕ
  pub placed : ℕ
  pub answer : told_of (after start calls) (write (tally s m)) ≡ ok (open_seats ∷ shut_seats ∷ placed ∷ [])
  -- "the sum of [these] and of the session's withdrawals equals the seats and places issued to it"; both are counted
  -- in `history_of`, "from the accepted sheets and their answers alone"
  pub sum : open_seats + shut_seats + placed + withdrawn s (history_of start calls) ≡ issued s (history_of start calls)

-- "For every list of .. calls .., refused ones included", "whatever bytes the sheets are": every list of lists of
-- bytes. "from an empty till", and document 02's ask 5, "demand 3 holds from there as from an empty till", of an
-- opened text: `Begins`. "for every session and every minute": all that are in range.
abbrev pub Demand3 : Type 0
Demand3 = (start : Ledger) → Begins start → (calls : List (List ℕ)) (s m : ℕ) → s in_range session → m in_range minute
    → AddsUp start calls s m

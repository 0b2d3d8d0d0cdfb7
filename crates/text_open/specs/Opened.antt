-- What the functions of opening leave: the answer and the ledger of the definition (crate snapshot, Reopen.antt); at a
-- refusal the very same numbers.
use Rattle.std.specs.Prelude.{◌≡◌, List, ◌||◌, ℕ, zero, suc, ◌+◌, ◌≤◌, ◌<◌, ltb, length}
use Rattle.std.specs.Prelude.{Option as Read, Some, None}
use Rattle.std.proofs.Math.Option.{Option, none, some}
use Rattle.logic.specs.Choice.{pick}
use Rattle.request.specs.Range.{serial}
use Rattle.request.specs.Text.{and_then}
use Rattle.request.specs.Request.{Line}
use Rattle.request.specs.Read.{formula_line}
use Rattle.steps.specs.declared.Row.{Row}
use Rattle.ledger.specs.declared.Credential.{Credential}
use Rattle.ledger.specs.declared.Answer.{Answer}
use Rattle.ledger.specs.Ledger.{Ledger}
use Rattle.ledger.specs.Checks.{Refusal, first, max_formulas, max_live}
use Rattle.ledger.specs.Calls.{Told, told, with_line, with_credential}
use Rattle.ledger.specs.Statements.{IsAccepted}
use Rattle.snapshot.specs.Snapshot.{credential_line, snapshot_of, rising, line_rules, fails, bad_credential, unruly}
use Rattle.snapshot.specs.Snapshot.{open_checks}
use Rattle.snapshot.specs.Reopen.{reopen}
use Rattle.read_formulas.specs.Line.{read_line}
use Rattle.store.specs.Store.{ledger_of, Canonical, Good}
use Rattle.store_credentials.specs.NextSerial.{with_next, Raisable}

abbrev pub AcceptedIs : Answer → Read (Unit {0}) → Type 0
AcceptedIs a (Some u) = IsAccepted (told a)
AcceptedIs a None = IsAccepted (told a) → ⊥

-- the ledger that a block is left with, where all passed
abbrev pub left_of : List ℕ → Read (Unit {0}) → Option Ledger
left_of l (Some u) = some (ledger_of l)
left_of l None = none

-- Formula lines, as word takes them

-- the ledger with one more line, unless that breaks a rule
unfoldable pub line_added : Ledger → Line → Option Ledger
line_added t x = pick (fails (line_rules t x)) none (some (with_line t x))

-- with the first n lines of the bytes, and the bytes after them
unfoldable pub lines_added : Ledger → ℕ → List ℕ → Option (Ledger × List ℕ)
lines_added t zero b = some (t, b)
lines_added t (suc n) b =
    and_then (read_line formula_line b) (λ p. and_then (line_added t p.0) (λ u. lines_added u n p.1))

-- the ledger that a block is left with, and the bytes left to read
abbrev pub lines_left : List ℕ → List ℕ → Read (Unit {0}) → Option (Ledger × List ℕ)
lines_left c l (Some u) = some (ledger_of l, c)
lines_left c l None = none

pub record LineAsked (l : List ℕ) (row : Row) : Type 0 where
  pub good : Good l
  pub canonical : Canonical row
  pub room : length (ledger_of l).lines < max_formulas

pub record LinesAsked (l : List ℕ) (count : ℕ) : Type 0 where
  pub good : Good l
  pub room : length (ledger_of l).lines + count ≤ max_formulas

-- Credentials, as issue gives them; n is the text's next serial

-- the ledger with one more, with its own serial
abbrev pub with_given : Ledger → Credential → Ledger
with_given t c = with_credential (with_next t c.serial) c.kind c.formula c.interval

-- unless its serial does not rise or is not below n, or that breaks a rule
unfoldable pub credential_added : ℕ → Ledger → Credential → Option Ledger
credential_added n t c =
    pick (ltb c.serial t.next || bad_credential (with_next t n) c) none (some (with_given t c))

-- with those of the first k lines of the bytes, and the bytes after them
unfoldable pub credentials_added : ℕ → Ledger → ℕ → List ℕ → Option (Ledger × List ℕ)
credentials_added n t zero b = some (t, b)
credentials_added n t (suc k) b =
    and_then (read_line credential_line b) (λ p. and_then (credential_added n t p.0) (λ u. credentials_added n u k p.1))

pub record CredentialAsked (l : List ℕ) (c : Credential) (n : ℕ) : Type 0 where
  pub raisable : Raisable l n
  pub most : c.serial ≤ serial.last
  pub room : length (ledger_of l).live < max_live

pub record LiveAsked (l : List ℕ) (count n : ℕ) : Type 0 where
  pub raisable : Raisable l n
  pub room : length (ledger_of l).live + count ≤ max_live

-- The whole

-- a ledger that a text says, unless its serials do not rise or it breaks a rule
unfoldable pub sound : Ledger → Option Ledger
sound t = pick (rising 0 t.live) (pick (unruly t) none (some t)) none

-- the ledger of a text that passes 50 and 51
unfoldable pub passing : List ℕ → Option Ledger
passing b = and_then (snapshot_of b) sound

-- the block is built, or the text does not pass
abbrev pub Built : List ℕ → List ℕ → Read (Unit {0}) → Type 0
Built b l (Some u) = (passing b ≡ some (ledger_of l)) × Good l
Built b l None = passing b ≡ none

-- the answer is the refusal of the first check that fails
pub record RefusalIs (b : List ℕ) (a : Answer) : Type 0 where
  pub refusal : Refusal
  pub fails : first (open_checks b) ≡ some refusal
  pub answer : told a ≡ Told.no refusal.number refusal.step

-- The till's block before and after, whatever it held before: accepted, it is a good one
pub record Opened (l b : List ℕ) (a : Answer) (l' : List ℕ) : Type 0 where
  pub answer : told a ≡ told (reopen (ledger_of l) b).answer
  pub ledger : ledger_of l' ≡ (reopen (ledger_of l) b).ledger
  pub good : IsAccepted (told a) → Good l'
  pub same : (n k : ℕ) → told a ≡ Told.no n k → l' ≡ l

-- What is proved of closing and opening (in proofs/).
use Rattle.std.specs.Prelude.{◌≡◌, ◌↔◌, List, [], ◌∷◌, ℕ, ◌≤◌, ◌<◌, length, take, drop}
use Rattle.std.proofs.Math.Option.{some}
use Rattle.request.specs.Range.{serial}
use Rattle.request.specs.Request.{Line, word, issue}
use Rattle.ledger.specs.declared.Credential.{Credential}
use Rattle.ledger.specs.Ledger.{Ledger, formula}
use Rattle.ledger.specs.Checks.{first, max_formulas, max_live, read_checks}
use Rattle.ledger.specs.Calls.{Reply, Told, ok, told}
use Rattle.ledger.specs.Bounds.{line_at}
use Rattle.ledger.specs.Statements.{Pass, FirstFails, IsAccepted}
use Rattle.snapshot.specs.Snapshot.{text, longest_text, line_rules, credential_rules, open_checks, Opens}
use Rattle.snapshot.specs.Reopen.{reopen, Closing, close}
use Rattle.snapshot.specs.Reached.{Reached}
use Rattle.snapshot.specs.InForm.{Lawful}

-- "Reading a written text gives the till"
abbrev pub ReadsBack : Type 0
ReadsBack = (t : Ledger) → Reached t → Opens (text t) t

-- "every text that is read is the one which that till writes"
abbrev pub WritesBack : Type 0
WritesBack = (b : List ℕ) (t : Ledger) → Opens b t → text t ≡ b

abbrev pub LongestText : Type 0
LongestText = (t : Ledger) → Reached t → length (text t) ≤ longest_text

-- "a contract may ask of its till what holds of all such": from an opened text on too
abbrev pub AlwaysLawful : Type 0
AlwaysLawful = (t : Ledger) → Reached t → Lawful t

-- "no two lines equal, so equal number means equal formula": of the numbers of a ledger's lines, those of equal lines
-- are equal, and those of equal formulas
pub record Numbered (t : Ledger) : Type 0 where
  pub lines : (m n : ℕ) → m < length t.lines → n < length t.lines → line_at t m ≡ line_at t n → m ≡ n
  pub formulas : (m n : ℕ) → m < length t.lines → n < length t.lines → formula t m ≡ formula t n → m ≡ n

abbrev pub NumbersApart : Type 0
NumbersApart = (t : Ledger) → Reached t → Numbered t

-- "a rule that word or issue would enforce (14, 22, 23 apart)": where these three pass, the first rule that a line or a
-- credential breaks is the check by which word or issue would refuse it
pub record RulesAgree (t : Ledger) : Type 0 where
  pub word : (l : Line) → length t.lines < max_formulas
      → first (line_rules t l) ≡ first (read_checks t (some (word l)))
  pub issue : (c : Credential) → length t.live < max_live → t.next ≤ serial.last
      → first (credential_rules t c) ≡ first (read_checks t (some (issue c.kind c.formula c.interval)))

-- opened: the answer is the length of the text, the ledger the text's
pub record OpenedAs (b : List ℕ) (u : Ledger) (d : Reply) : Type 0 where
  pub answer : told d.answer ≡ ok (length b ∷ [])
  pub ledger : d.ledger ≡ u

-- Demand 1 of opening, for every ledger and all bytes
pub record OpenAnswers (t : Ledger) (b : List ℕ) : Type 0 where
  -- refused with these two numbers exactly where they are the first check's that fails
  pub refused : (n k : ℕ)
      → (told (reopen t b).answer ≡ Told.no n k) ↔ FirstFails (record { number = n; step = k }) (open_checks b)
  -- and the ledger is as before
  pub stays : (n k : ℕ) → told (reopen t b).answer ≡ Told.no n k → (reopen t b).ledger ≡ t
  -- accepted exactly where no check fails; then the ledger is the text's
  pub accepted : IsAccepted (told (reopen t b).answer) ↔ Pass (open_checks b)
  pub opens : IsAccepted (told (reopen t b).answer) → Opens b (reopen t b).ledger
  -- and the answer its length
  pub answers : (u : Ledger) → Opens b u → OpenedAs b u (reopen t b)

-- Closing, for every ledger and every buffer

-- "answers the number of bytes it wrote", which are the text's; "Bytes past the written text stay."
pub record Written (t : Ledger) (o : List ℕ) (c : Closing) : Type 0 where
  pub answer : told c.answer ≡ ok (length (text t) ∷ [])
  pub written : take (length (text t)) c.buffer ≡ text t
  pub past : drop (length (text t)) c.buffer ≡ drop (length (text t)) o
  pub size : length c.buffer ≡ length o

-- "closing gives 52 if the buffer is too short, the buffer then untouched"
pub record Untouched (o : List ℕ) (c : Closing) : Type 0 where
  pub answer : told c.answer ≡ Told.no 52 0
  pub buffer : c.buffer ≡ o

pub record CloseAnswers (t : Ledger) (o : List ℕ) : Type 0 where
  pub short : length o < length (text t) → Untouched o (close t o)
  pub room : length (text t) ≤ length o → Written t o (close t o)

-- Closing and then opening what was written gives the ledger back, whatever the one was that it takes the place of.
abbrev pub ClosesAndOpens : Type 0
ClosesAndOpens =
    (t u : Ledger) → Reached t → (o : List ℕ) → length (text t) ≤ length o
    → OpenedAs (text t) t (reopen u (take (length (text t)) (close t o).buffer))

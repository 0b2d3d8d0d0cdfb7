-- What the code's answers say of the bytes of a text, by `snapshot_of` and `open_checks` (crate snapshot,
-- Snapshot.antt).
use Rattle.std.specs.Prelude.{◌≡◌, List, Bool, true, false, ◌||◌, ℕ, zero, suc, ◌≤◌, ltb, length}
use Rattle.std.specs.Prelude.{Option as Read, Some, None}
use Rattle.std.proofs.Math.Option.{Option, none, some}
use Rattle.logic.specs.Choice.{pick}
use Rattle.request.specs.declared.Kind.{Kind}
use Rattle.request.specs.Range.{formula_number}
use Rattle.request.specs.Text.{and_then}
use Rattle.request.specs.Reader.{Reader, return, ◌>>=◌}
use Rattle.request.specs.Read.{number, interval, formula_line}
use Rattle.ledger.specs.declared.Credential.{Credential}
use Rattle.ledger.specs.Ledger.{Ledger}
use Rattle.ledger.specs.Checks.{Check, first}
use Rattle.snapshot.specs.declared.Title.{Title}
use Rattle.snapshot.specs.Snapshot.{holder_line, longest_text, title_line, credential_line, snapshot_of, rising}
use Rattle.snapshot.specs.Snapshot.{open_checks}
use Rattle.snapshot.specs.InForm.{TitleInRange}
use Rattle.read_formulas.specs.Line.{read_line}
use Rattle.call_checks.specs.declared.Verdict.{Verdict}
use Rattle.call_checks.specs.declared.Verdict.TheVariants.{Passed, Failed}
use Rattle.call_checks.specs.Verdicts.{checked}

-- the fields of a credential after its serial and its kind
unfoldable pub after_kind : ℕ → Kind → Reader Credential
after_kind s k = do
  n ← number formula_number
  i ← interval
  return (record { serial = s; kind = k; formula = n; interval = i })

-- the bytes c that are left, where an answer says that what was looked for has been passed
abbrev pub past_of : Read (Unit {0}) → List ℕ → Option (List ℕ)
past_of (Some u) c = some c
past_of None c = none

-- what follows the first n lines, where r reads each
unfoldable pub lines_past : {A : Type 0} → ℕ → Reader A → List ℕ → Option (List ℕ)
lines_past zero r b = some b
lines_past (suc n) r b = and_then (read_line r b) (λ p. lines_past n r p.1)

-- the same of credential lines, serials rising above lo
unfoldable pub rising_past : ℕ → ℕ → List ℕ → Option (List ℕ)
rising_past lo zero b = some b
rising_past lo (suc n) b =
    and_then (read_line credential_line b) (λ p.
    pick (ltb lo p.0.serial) (rising_past p.0.serial n p.1) none)

-- whether one of the first n formula lines is `n` or `q`; after a line that is broken none is asked
abbrev pub gives : {A : Type 0} → (A → Bool) → Option A → Bool
gives f none = false
gives f (some a) = f a

unfoldable pub holders_in : ℕ → List ℕ → Bool
holders_in zero b = false
holders_in (suc n) b = gives (λ p. holder_line p.0 || holders_in n p.1) (read_line formula_line b)

-- what a first line, read or broken, says of the check 50; a verdict says it by `checked`
abbrev pub title_check : Read Title → Check
title_check (Some h) = none
title_check None = some (record { number = 50; step = 0 })

-- it is the first that fails
abbrev pub Fails50 : List ℕ → Type 0
Fails50 b = first (open_checks b) ≡ checked 50 Failed

-- A text that is not too long, its first line, and the bytes after that
pub record Titled (b : List ℕ) (t : Title) (body : List ℕ) : Type 0 where
  pub short : length b ≤ longest_text
  pub reads : read_line title_line b ≡ some (t, body)
  pub range : TitleInRange t

abbrev pub TitleIs : List ℕ → List ℕ → Read Title → Type 0
TitleIs b c (Some h) = Titled b h c
TitleIs b c None = first (open_checks b) ≡ title_check None

-- A text in its form, serials rising: the ledger that it says
pub record Formed (b : List ℕ) : Type 0 where
  pub ledger : Ledger
  pub reads : snapshot_of b ≡ some ledger
  pub rises : rising 0 ledger.live ≡ true

abbrev pub FormIs : List ℕ → Verdict → Type 0
FormIs b Passed = Formed b
FormIs b Failed = Fails50 b

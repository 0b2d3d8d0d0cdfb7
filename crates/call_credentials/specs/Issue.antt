-- An issue on its way through the checks.
use Rattle.std.specs.Prelude.{◌≡◌, List, [], ◌∷◌, false, ℕ}
use Rattle.std.proofs.Math.Option.{some}
use Rattle.logic.specs.declared.Interval.{Interval}
use Rattle.request.specs.declared.Kind.{Kind}
use Rattle.request.specs.Request.{issue}
use Rattle.ledger.specs.Ledger.{Ledger}
use Rattle.ledger.specs.Checks.{Check, ◌if◌, missing, no_room, used_up, read_checks}
use Rattle.ledger.specs.Statements.{SoFar}
use Rattle.store.specs.Store.{ledger_of, Good}

-- the last checks, whatever the kind
abbrev pub last_checks : Ledger → List Check
last_checks t = (22 if no_room t 0) ∷ (23 if used_up t) ∷ []

-- those before `rest` have passed
abbrev pub Past : List ℕ → Kind → ℕ → Interval → List Check → Type 0
Past l k n i rest = SoFar (read_checks (ledger_of l) (some (issue k n i))) rest

-- those before 22 have passed
pub record Issuable (l : List ℕ) (k : Kind) (n : ℕ) (i : Interval) : Type 0 where
  pub good : Good l
  pub there : missing (ledger_of l) n ≡ false
  pub so_far : Past l k n i (last_checks (ledger_of l))

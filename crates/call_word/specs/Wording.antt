-- A formula line on its way through the checks.
use Rattle.std.specs.Prelude.{◌≡◌, List, [], ◌∷◌, false, ℕ, leb, ltb, length}
use Rattle.std.proofs.Math.Option.{some}
use Rattle.logic.specs.Formula.{size}
use Rattle.request.specs.Request.{Line, word}
use Rattle.steps.specs.declared.Row.{Row}
use Rattle.ledger.specs.Table.{form, names}
use Rattle.ledger.specs.Ledger.{Ledger, formula}
use Rattle.ledger.specs.Checks.{Check, ◌if◌, any_of, max_size, max_formulas, missing, nests, oversize, same_line}
use Rattle.ledger.specs.Checks.{read_checks}
use Rattle.ledger.specs.Statements.{SoFar}
use Rattle.store.specs.Store.{line_of, ledger_of, Good, Canonical}

-- the checks of a line whose names are there
abbrev pub fit_checks : Ledger → Line → List Check
fit_checks t l =
    (53 if nests t l) ∷
    (12 if oversize t l) ∷
    (13 if any_of (same_line l) t.lines) ∷
    (14 if leb max_formulas (length t.lines)) ∷ []

-- those before `rest` have passed
abbrev pub Past : List ℕ → Row → List Check → Type 0
Past l r rest = SoFar (read_checks (ledger_of l) (some (word (line_of r)))) rest

-- those before 53 have passed
pub record Named (l : List ℕ) (r : Row) : Type 0 where
  pub good : Good l
  pub canonical : Canonical r
  pub there : any_of (missing (ledger_of l)) (names (line_of r)) ≡ false
  pub so_far : Past l r (fit_checks (ledger_of l) (line_of r))

-- all have passed; z is the formula's size
pub record Fitting (l : List ℕ) (r : Row) (z : ℕ) : Type 0 where
  pub named : Named l r
  pub sized : z ≡ size (form (formula (ledger_of l)) (line_of r))
  pub small : ltb max_size z ≡ false
  pub room : leb max_formulas (length (ledger_of l).lines) ≡ false
  pub so_far : Past l r []

-- What the functions ask of a row, here and in crate `formula_weights`.
use Rattle.std.specs.Prelude.{◌≡◌, List, Bool, ℕ}
use Rattle.logic.specs.Formula.{unbound, quantified}
use Rattle.steps.specs.declared.Row.{Row}
use Rattle.ledger.specs.Table.{form, names}
use Rattle.ledger.specs.Ledger.{formula}
use Rattle.ledger.specs.Checks.{any_of}
use Rattle.ledger.specs.Bounds.{There}
use Rattle.store.specs.Store.{line_of, ledger_of, Canonical, Good}

-- the row of a line whose numbers the store has, so that it stands for a formula: a fact of two values, which no type
-- of one has
pub record Formable (l : List ℕ) (r : Row) : Type 0 where
  pub good : Good l
  pub canonical : Canonical r
  pub there : There (ledger_of l) (names (line_of r))

-- holders, in the parts that the row names and in its formula: u whether there is an unbound one, q whether a `q`
-- stands there
pub record PartsHoldersOf (l : List ℕ) (r : Row) (u q : Bool) : Type 0 where
  pub unbound : u ≡ any_of (λ k. unbound (formula (ledger_of l) k)) (names (line_of r))
  pub quantified : q ≡ any_of (λ k. quantified (formula (ledger_of l) k)) (names (line_of r))

pub record HoldersOf (l : List ℕ) (r : Row) (u q : Bool) : Type 0 where
  pub unbound : u ≡ unbound (form (formula (ledger_of l)) (line_of r))
  pub quantified : q ≡ quantified (form (formula (ledger_of l)) (line_of r))

-- Where calls begin, and what they reach.
use Rattle.std.specs.Prelude.{◌≡◌, List, ℕ}
use Rattle.ledger.specs.Ledger.{Ledger, empty}
use Rattle.ledger.specs.Calls.{after}
use Rattle.snapshot.specs.Snapshot.{Opens}

-- at the empty ledger, or at an opened text: "demand 3 holds from there as from an empty till"
pub data Begins : Ledger → Type 0 where
  afresh : Begins empty
  opened : {b : List ℕ} {t : Ledger} → Opens b t → Begins t

-- "A till is what calls give, beginning from the empty one", or from an opened text: the ledger after a list of calls
pub record Reached (t : Ledger) : Type 0 where
  pub start : Ledger
  pub begins : Begins start
  pub calls : List (List ℕ)
  pub gives : after start calls ≡ t

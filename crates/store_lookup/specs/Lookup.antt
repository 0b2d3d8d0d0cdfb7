-- What the look-up of a serial answers.
use Rattle.std.specs.Prelude.{◌≡◌, List, ◌↔◌, ℕ, Option as Place, Some, None}
use Rattle.std.proofs.Math.Option.{none, some}
use Rattle.ledger.specs.Checks.{Check, ◌if◌, dead}
use Rattle.store_cells.specs.Layout.{credential_at}
use Rattle.store.specs.Store.{ledger_of, Occupied}

-- what a place says of the check 24, "serial not live"
abbrev pub place_check : Place ℕ → Check
place_check (Some i) = none
place_check None = some (record { number = 24; step = 0 })

-- Document 02, ask 6: "It answers where the live coupon with that serial is, or nothing exactly if none is live": it
-- answers nothing exactly where 24 is given for the serial n, and row i exactly if a live credential stands there and
-- has it; so no other row has it.
pub record LooksUp (l : List ℕ) (n : ℕ) (r : Place ℕ) : Type 0 where
  pub check : place_check r ≡ (24 if dead (ledger_of l) n)
  pub place : (i : ℕ) → (r ≡ Some i) ↔ (Occupied l i × ((credential_at l i).serial ≡ n))

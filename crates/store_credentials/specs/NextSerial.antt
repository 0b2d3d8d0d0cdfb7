-- Another next serial, as an opened text says it (document 02, ask 5).
use Rattle.std.specs.Prelude.{List, ℕ, ◌≤◌}
use Rattle.request.specs.Range.{next_serial}
use Rattle.ledger.specs.Ledger.{Ledger}
use Rattle.store.specs.Store.{ledger_of, Good}

abbrev pub with_next : Ledger → ℕ → Ledger
with_next t n = record { lines = t.lines; live = t.live; next = n }

-- what is asked of it: no lower than the one before, and in range
pub record Raisable (l : List ℕ) (n : ℕ) : Type 0 where
  pub good : Good l
  pub above : (ledger_of l).next ≤ n
  pub most : n ≤ next_serial.last

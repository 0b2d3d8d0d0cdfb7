-- Lines and their rows.
use mathlib.Core.Path.{◌≡◌, ap}
use Rattle.request.specs.Request.{Line}
use Rattle.ledger.specs.Table.{row_of}
pub use Rattle.ledger.proofs.SameLines.{line_of_row}
use Rattle.store.specs.Store.{Canonical}

-- the row of a line is canonical
pub row_canonical : (l : Line) → Canonical (row_of l)
row_canonical l = ap row_of (line_of_row l)

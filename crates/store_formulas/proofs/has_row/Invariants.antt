-- The loop of `has_row`: no row before i is the one.
use Rattle.std.proofs.Common.{◌≡◌, ℕ, ◌<◌, false}
use Rattle.ledger.specs.Checks.{same_row}
use Rattle.store_cells.specs.Layout.{row_at}
use Rattle.store_formulas.proofs.has_row.Given as goal

abbrev pub invariant-loop-i : goal.invariant-loop-i
invariant-loop-i l = (k : ℕ) → k < l.i → same_row l.row (row_at l.store k) ≡ false

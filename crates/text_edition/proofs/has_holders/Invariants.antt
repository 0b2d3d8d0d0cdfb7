-- No row before i has the letter of `n` or `q`.
use Rattle.std.proofs.Common.{◌≡◌, ℕ, ◌<◌, false}
use Rattle.snapshot.specs.Snapshot.{holder_letter}
use Rattle.store_cells.specs.Layout.{row_at}
use Rattle.text_edition.proofs.has_holders.Given as goal

abbrev pub invariant-loop-i : goal.invariant-loop-i
invariant-loop-i l = (k : ℕ) → k < l.i → holder_letter (row_at l.store k).letter ≡ false

-- `facts_at` meets its contract: eight reads.
use Rattle.std.proofs.Common.{refl}
use Rattle.store_cells.specs.Layout.{cell, line_cell, size_at, plain_at, balanced_at, unbound_at, quantified_at, low_at}
use Rattle.store_cells.specs.Layout.{high_at, gives_at}
use Rattle.store_cells.proofs.lines.facts_at.Goals as goal

pub returns : goal.returns
unfolding size_at plain_at balanced_at unbound_at quantified_at low_at high_at gives_at line_cell cell
returns c = refl

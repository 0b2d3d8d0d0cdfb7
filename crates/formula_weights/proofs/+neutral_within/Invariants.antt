-- `neutral_within` calls itself for the part's parts, which are smaller.
use Rattle.logic.specs.Formula.{size}
use Rattle.ledger.specs.Table.{form}
use Rattle.ledger.specs.Ledger.{formula}
use Rattle.store.specs.Store.{line_of, ledger_of}
use Rattle.formula_weights.proofs.+neutral_within.Given as goal

abbrev pub decreases-neutral_within : goal.decreases-neutral_within
decreases-neutral_within l = size (form (formula (ledger_of l.store.now)) (line_of l.part))

-- The loop: the first k holds have their labels.
use Rattle.store.specs.Store.{ledger_of}
use Rattle.call_holds.proofs.Holding.{Holding}
use Rattle.call_holds.proofs.hold_all.Given as goal

abbrev pub invariant-loop-k : goal.invariant-loop-k
invariant-loop-k l = Holding (ledger_of l.store) l.serials l.fn.table l.k l.sides l.table

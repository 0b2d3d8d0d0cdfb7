-- The loop: the linear ones among the holds so far have left.
use Rattle.store.specs.Store.{ledger_of}
use Rattle.call_holds.proofs.Spending.{Spending}
use Rattle.call_holds.proofs.spend.Given as goal

abbrev pub invariant-loop-serial : goal.invariant-loop-serial
invariant-loop-serial l = Spending (ledger_of l.fn.store) l.serials l.serial-index l.store

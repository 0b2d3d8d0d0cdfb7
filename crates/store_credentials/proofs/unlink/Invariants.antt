-- The loop of `unlink`: the formulas below n have no chain.
use Rattle.store_credentials.specs.Unlinked.{UnlinkedTo}
use Rattle.store_credentials.proofs.unlink.Given as goal

abbrev pub invariant-loop-n : goal.invariant-loop-n
invariant-loop-n l = UnlinkedTo l.fn.store l.store l.n

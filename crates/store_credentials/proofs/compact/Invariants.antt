-- The loop of `compact`: the live ones of the rows before the turn's stand in the first k rows.
use Rattle.store_credentials.proofs.Gather.{Gathering}
use Rattle.store_credentials.proofs.compact.Given as goal

abbrev pub invariant-loop-from : goal.invariant-loop-from
invariant-loop-from l = Gathering l.initial.store l.store l.from l.k

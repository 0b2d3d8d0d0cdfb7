-- Before each turn: k lines are read.
use Rattle.read_rest.proofs.Reading.{Reading}
use Rattle.read_rest.proofs.read_steps.Given as goal

abbrev pub invariant-loop-k : goal.invariant-loop-k
invariant-loop-k l = Reading l.fn.r.rest.now l.count l.rows l.at.rest.now l.k l.faults.reversed l.faults.broken

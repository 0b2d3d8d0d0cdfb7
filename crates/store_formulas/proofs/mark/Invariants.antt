-- The loop of `mark`: the sessions before the turn's are done.
use Rattle.store_formulas.specs.Marked.{MarkedTo}
use Rattle.store_formulas.proofs.mark.Given as goal

abbrev pub invariant-loop-session : goal.invariant-loop-session
invariant-loop-session l = MarkedTo l.fn.store l.store l.line l.low l.session

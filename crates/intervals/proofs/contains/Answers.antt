-- `contains` meets its contract.
use Rattle.std.proofs.Common.{arith}
use Rattle.std.proofs.lemmas.Grind.{common_steps}
use Rattle.logic.specs.Interval.{contains}
use Rattle.intervals.proofs.contains.Goals as goal

pub returns-then-unbroken : goal.returns-then-unbroken
unfolding contains
returns-then-unbroken c = grind (arith, common_steps)

pub returns : goal.returns
unfolding contains
returns c = grind (arith, common_steps)

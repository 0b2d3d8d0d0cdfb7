-- `same` meets its contract: the derived `==` compares the four numbers one after the other.
use Rattle.std.proofs.Common.{arith}
use Rattle.std.proofs.Math.Bool.{and_assoc}
use Rattle.std.proofs.lemmas.Grind.{common_steps}
use Rattle.logic.specs.Interval.{same_interval}
use Rattle.intervals.proofs.same.Goals as goal

pub returns : goal.returns
unfolding same_interval
returns c = grind (arith, common_steps, and_assoc)

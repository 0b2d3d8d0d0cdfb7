-- The loop of `by_halves`: serials before `low` are smaller, those from `high` on are larger.
use Rattle.std.proofs.Common.{◌-◌}
use Rattle.store_lookup.proofs.Halves.{Halving}
use Rattle.store_lookup.proofs.by_halves.Given as goal

abbrev pub invariant-loop-low : goal.invariant-loop-low
invariant-loop-low l = Halving l.store l.serial l.low l.high

abbrev pub decreases-loop-low : goal.decreases-loop-low
decreases-loop-low l = l.high - l.low

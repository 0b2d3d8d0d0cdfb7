-- The loop: no serial before k stands again after it.
use mathlib.Core.Path.{◌≡◌}
use lib.ListN.{drop}
use Rattle.ledger.specs.Checks.{twice}
use Rattle.call_holds.proofs.twice.Given as goal

abbrev pub invariant-loop-k : goal.invariant-loop-k
invariant-loop-k l = twice l.serials ≡ twice (drop l.k l.serials)

-- `check_in_time` meets its contract.
use mathlib.Core.Path.{ap}
use mathlib.Core.Bool.{not}
use borrow.Author.Rules.{rules}
use Rattle.call_checks.proofs.Verdicts.{reworded}
use Rattle.call_checks.proofs.check_in_time.Statement.{statement}
use Rattle.call_checks.proofs.check_in_time.Tie as tie

returns : tie.Need-returns
returns c = reworded (c.tested.ensures 30) (ap not c.has.ensures)

pub check_in_time_spec : {M : Type 1} → statement M
check_in_time_spec = tie.close (tie.spec (λ c κs. search rules) (λ c κs. search rules) returns)

-- `check_unused` meets its contract.
use borrow.Author.Rules.{rules}
use Rattle.call_checks.proofs.Verdicts.{reworded}
use Rattle.call_checks.proofs.check_unused.Statement.{statement}
use Rattle.call_checks.proofs.check_unused.Tie as tie

returns : tie.Need-returns
returns c = reworded (c.tested.ensures 23) (simp c.next_serial.ensures)

pub check_unused_spec : {M : Type 1} → statement M
check_unused_spec = tie.close (tie.spec (λ c κs. search rules) (λ c κs. search rules) returns)

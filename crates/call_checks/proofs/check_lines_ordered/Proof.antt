-- `check_lines_ordered` meets its contract.
use mathlib.Core.Path.{ap}
use mathlib.Core.Bool.{◌||◌}
use borrow.Author.Rules.{rules}
use Rattle.call_checks.proofs.Verdicts.{reworded}
use Rattle.call_checks.proofs.check_lines_ordered.Statement.{statement}
use Rattle.call_checks.proofs.check_lines_ordered.Tie as tie

returns : tie.Need-returns
returns c =
    let backward = c.args.backward in
    reworded (c.tested.ensures 3) (ap (λ b. b || backward) c.reversed.ensures)

pub check_lines_ordered_spec : {M : Type 1} → statement M
check_lines_ordered_spec = tie.close (tie.spec (λ c κs. search rules) (λ c κs. search rules) returns)

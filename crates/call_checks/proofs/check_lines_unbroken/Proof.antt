-- `check_lines_unbroken` meets its contract.
use mathlib.Core.Path.{ap}
use mathlib.Core.Bool.{◌||◌}
use borrow.Author.Rules.{rules}
use Rattle.call_checks.proofs.Verdicts.{reworded}
use Rattle.call_checks.proofs.check_lines_unbroken.Statement.{statement}
use Rattle.call_checks.proofs.check_lines_unbroken.Tie as tie

returns : tie.Need-returns
returns c =
    let astray = c.args.astray in
    reworded (c.tested.ensures 43) (ap (λ b. b || astray) c.broken.ensures)

pub check_lines_unbroken_spec : {M : Type 1} → statement M
check_lines_unbroken_spec = tie.close (tie.spec (λ c κs. search rules) (λ c κs. search rules) returns)

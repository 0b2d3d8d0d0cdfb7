-- `check_line_unbroken` meets its contract.
use borrow.Author.Rules.{rules}
use Rattle.store.specs.Store.{line_of}
use Rattle.call_checks.proofs.Verdicts.{reworded}
use Rattle.call_checks.proofs.check_line_unbroken.Statement.{statement}
use Rattle.call_checks.proofs.check_line_unbroken.Tie as tie

returns : tie.Need-returns
returns c =
    reworded (c.tested.ensures 43) (c.broken_row.ensures (line_of c.args.row) c.requires)

pub check_line_unbroken_spec : {M : Type 1} → statement M
check_line_unbroken_spec = tie.close (tie.spec (λ c κs. search rules) (λ c κs. search rules) returns)

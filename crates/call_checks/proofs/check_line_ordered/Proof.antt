-- `check_line_ordered` meets its contract.
use borrow.Author.Rules.{rules}
use Rattle.store.specs.Store.{line_of}
use Rattle.call_checks.proofs.Verdicts.{reworded}
use Rattle.call_checks.proofs.check_line_ordered.Statement.{statement}
use Rattle.call_checks.proofs.check_line_ordered.Tie as tie

returns : tie.Need-returns
returns c =
    reworded (c.tested.ensures 3) (c.reversed_row.ensures (line_of c.args.row) c.requires)

pub check_line_ordered_spec : {M : Type 1} → statement M
check_line_ordered_spec = tie.close (tie.spec (λ c κs. search rules) (λ c κs. search rules) returns)

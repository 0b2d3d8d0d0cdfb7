-- `check_names_present` meets its contract.
use mathlib.Core.Path.{ap, ◌∙◌}
use mathlib.Core.Bool.{not}
use borrow.Author.Rules.{rules}
use Rattle.call_checks.proofs.Verdicts.{reworded, not_not}
use Rattle.call_checks.proofs.check_names_present.Statement.{statement}
use Rattle.call_checks.proofs.check_names_present.Tie as tie

returns : tie.Need-returns
returns c = reworded (c.tested.ensures 10) (ap not c.names_there.ensures ∙ not_not _)

pub check_names_present_spec : {M : Type 1} → statement M
check_names_present_spec = tie.close (tie.spec (λ c κs. search rules) (λ c κs. search rules) returns)

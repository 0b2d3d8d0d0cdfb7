-- `formula_count` meets its contract.
use mathlib.Core.Path.{sym, ◌∙◌}
use borrow.Author.Rules.{rules}
use Rattle.store.proofs.Views.{lines_length}
use Rattle.store.proofs.formula_count.Statement.{statement}
use Rattle.store.proofs.formula_count.Tie as tie

returns : tie.Need-returns
returns c = c.read.ensures ∙ sym (lines_length _)

pub formula_count_spec : {M : Type 1} → statement M
formula_count_spec = tie.close (tie.spec (λ c κs. search rules) returns)

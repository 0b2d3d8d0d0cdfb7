-- `remove` meets its contract.
use mathlib.Core.Path.{◌∙◌}
use borrow.Author.Rules.{rules}
use Rattle.labels.proofs.remove.Statement.{statement}
use Rattle.labels.proofs.remove.Tie as tie

returns : tie.Need-returns
returns c = c.without.ensures ∙ simp c.before.only.ensures

pub remove_spec : {M : Type 1} → statement M
remove_spec = tie.close (tie.spec (λ c κs. search rules) (λ c κs. search rules) returns)

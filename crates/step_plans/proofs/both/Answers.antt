-- `both` meets its contract, by what it calls.
use mathlib.Core.Path.{◌∙◌}
use Rattle.step_plans.proofs.both.Goals as goal

pub returns : goal.returns
returns c = c.when.ensures ∙ simp c.premise.ensures

-- `arm` meets its contract: at a row of its letter, by what it calls.
use mathlib.Core.Path.{◌∙◌}
use borrow.Author.Tests.{eq-eqb}
use Rattle.steps.specs.Plans.{when}
use Rattle.step_rules.proofs.right.Right.arm.Goals as goal

pub returns : goal.returns
unfolding when
returns c = rw (eq-eqb _ _ c.if-x-ne-PLUS.false) (c.goal.ensures ∙ simp c.part-arm.ensures)

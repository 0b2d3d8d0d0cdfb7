-- `tr` meets its contract: at a row of its letter, by what it calls.
use mathlib.Core.Path.{◌∙◌}
use borrow.Author.Tests.{eq-eqb}
use Rattle.steps.specs.Plans.{when}
use Rattle.step_rules.proofs.right.Right.tr.Goals as goal

pub returns : goal.returns
unfolding when
returns c = rw (eq-eqb _ _ c.if-x-ne-TENSOR.false)
    (c.goals.ensures ∙ simp (c.subset.ensures, c.without-rest.ensures, c.part-a.ensures, c.part-b.ensures))

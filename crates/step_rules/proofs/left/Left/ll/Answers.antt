-- `ll` meets its contract: at a row of its letter, by what it calls.
use mathlib.Core.Path.{◌∙◌}
use borrow.Author.Tests.{eq-eqb}
use Rattle.steps.specs.Plans.{when}
use Rattle.step_rules.proofs.left.Left.ll.Goals as goal

pub returns : goal.returns
unfolding when
returns c = rw (eq-eqb _ _ c.if-x-ne-LOLLI.false)
    (c.applied.ensures
    ∙ simp (c.subset.ensures, c.contains.ensures, c.without-rest.ensures, c.part_at-a.ensures, c.part_at-b.ensures))

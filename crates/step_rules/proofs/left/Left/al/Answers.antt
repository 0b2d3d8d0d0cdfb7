-- `al` meets its contract: at a row of its letter, by the holder.
use mathlib.Core.Path.{◌∙◌}
use borrow.Author.Tests.{eq-eqb, le-leb, lt-leb}
use Rattle.steps.specs.Plans.{when}
use Rattle.step_rules.proofs.left.Left.al.Goals as goal

pub returns-then-holder-lt-NAMED_HOLDER_FIRST : goal.returns-then-holder-lt-NAMED_HOLDER_FIRST
unfolding when
returns-then-holder-lt-NAMED_HOLDER_FIRST c =
    rw (eq-eqb _ _ c.if-x-ne-FOR_EVERY.false, lt-leb _ _ c.if-holder-lt-NAMED_HOLDER_FIRST.true)

pub returns-then-holder-gt-HOLDER_LAST : goal.returns-then-holder-gt-HOLDER_LAST
unfolding when
returns-then-holder-gt-HOLDER_LAST c =
    rw (
      eq-eqb _ _ c.if-x-ne-FOR_EVERY.false,
      le-leb _ _ c.if-holder-lt-NAMED_HOLDER_FIRST.false,
      lt-leb _ _ c.if-holder-gt-HOLDER_LAST.true,
    )

pub returns : goal.returns
unfolding when
returns c =
    rw (
      eq-eqb _ _ c.if-x-ne-FOR_EVERY.false,
      le-leb _ _ c.if-holder-lt-NAMED_HOLDER_FIRST.false,
      le-leb _ _ c.if-holder-gt-HOLDER_LAST.false,
    ) (c.linear.ensures ∙ simp c.for_holder.ensures)

-- `ol` meets its contract: at a row of its letter, by what it calls.
use borrow.Author.Tests.{eq-eqb}
use Rattle.steps.specs.Plans.{when}
use Rattle.step_rules.proofs.left.Left.ol.Goals as goal

pub returns : goal.returns
unfolding when
returns c = rw (eq-eqb _ _ c.if-x-ne-ONE.false) c.one.ensures

-- Goals, by what labels stand for.
use Rattle.steps.specs.declared.Hypothesis.{Hypothesis}
use Rattle.steps.specs.declared.Goal.{Goal}
use Rattle.steps.specs.declared.Goal.TheVariants.{Holds}

-- the goal that is the formula of h, at its interval
abbrev pub proves : Hypothesis → Goal
proves h = Holds h.formula h.interval

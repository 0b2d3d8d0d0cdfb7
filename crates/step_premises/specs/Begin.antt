-- What `begin` answers, as the definition's beginning.
use Rattle.std.specs.Prelude.{List, ℕ, Option, Some, None}
use Rattle.steps.specs.declared.Hypothesis.{Hypothesis}
use Rattle.steps.specs.declared.Goal.{Goal}
use Rattle.steps.specs.declared.Sequent.{Sequent}
use Rattle.steps.specs.Check.{Beginning, full, begun}

abbrev pub sequent : ℕ → ℕ → Goal → Sequent
sequent r d g = record { unrestricted = r; linear = d; goal = g }

-- with the table of labels after
abbrev pub told_begun : Option (Sequent × ℕ) → List Hypothesis → Beginning (List Hypothesis)
told_begun None t = full
told_begun (Some p) t = begun t p.1 p.0

-- The table of labels: what each label stands for.
use Rattle.std.specs.Prelude.{List, ℕ, get_or, set}
use Rattle.logic.specs.Interval.{no_interval}
use Rattle.request.specs.Range.{holds}
use Rattle.steps.specs.declared.Hypothesis.{Hypothesis}
use Rattle.steps.specs.Plans.{◌over◌}

-- how many serials a booking can hold
abbrev pub max_holds : ℕ
max_holds = holds.last

-- what stands at a label that is not taken
abbrev pub no_hypothesis : Hypothesis
no_hypothesis = 0 over no_interval

abbrev pub label_at : List Hypothesis → ℕ → Hypothesis
label_at t k = get_or t k no_hypothesis

abbrev pub put_label : List Hypothesis → ℕ → Hypothesis → List Hypothesis
put_label t k h = set t k h

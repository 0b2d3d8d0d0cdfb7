-- The parts of a formula that has its number, and an interval, in h: they have its holder.
use Rattle.std.specs.Prelude.{ℕ}
use Rattle.logic.specs.declared.Interval.{Interval}
use Rattle.steps.specs.declared.Hypothesis.{Hypothesis}
use Rattle.steps.specs.Instance.{◌for◌, holder_of}
use Rattle.steps.specs.Plans.{◌over◌}

-- the part n, at j
abbrev pub part_at : ℕ → Hypothesis → Interval → Hypothesis
part_at n h j = (n for holder_of h.formula) over j

-- and at its own interval
abbrev pub part : ℕ → Hypothesis → Hypothesis
part n h = part_at n h h.interval

-- The ends of the ranges, by computation.
use mathlib.Core.Path.{refl}
use Rattle.request.specs.Text.{bytes, and_then, decimal_digit, reads, decimal, number_in}
use Rattle.request.specs.Ends.{RangesEnd}

pub ranges_end : RangesEnd
unfolding bytes and_then decimal_digit reads decimal number_in
ranges_end = record {
  predicates = record { from = refl; to = refl; under = refl; over = refl };
  sessions = record { from = refl; to = refl; under = refl; over = refl };
  holders = record { from = refl; to = refl; under = refl; over = refl };
  named_holders = record { from = refl; to = refl; under = refl; over = refl };
  principals = record { from = refl; to = refl; under = refl; over = refl };
  minutes = record { from = refl; to = refl; under = refl; over = refl };
  formulas = record { from = refl; to = refl; under = refl; over = refl };
  serials = record { from = refl; to = refl; under = refl; over = refl };
  next_serials = record { from = refl; to = refl; under = refl; over = refl };
  labels = record { from = refl; to = refl; under = refl; over = refl };
  hold_counts = record { from = refl; to = refl; under = refl; over = refl };
  step_counts = record { from = refl; to = refl; under = refl; over = refl };
}

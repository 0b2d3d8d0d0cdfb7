-- The examples, by computation.
use mathlib.Core.Path.{refl}
use Rattle.entry.specs.Examples.{NumbersExamples}

pub numbers_examples : NumbersExamples
numbers_examples = record { refused = refl; serial = refl; tallied = refl }

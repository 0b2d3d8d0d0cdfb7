-- The examples, by computation.
use mathlib.Core.Path.{refl}
use Rattle.request.specs.Text.{bytes}
use Rattle.request.specs.Write.{digits, written, joined}
use Rattle.stream_print.specs.Printed.{line}
use Rattle.stream_print.specs.Examples.{LineExamples}

pub line_examples : LineExamples
unfolding line joined digits written bytes
line_examples = record { refused = refl; without_step = refl; serial = refl; tallied = refl }

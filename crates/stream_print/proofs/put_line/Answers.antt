-- The word, a number more, and the line's end.
use Rattle.std.proofs.Common.{arith}
use Rattle.request.specs.Write.{joined}
use Rattle.stream_print.proofs.Writing.{wrote_number}
use Rattle.stream_print.proofs.put_line.Goals as goal

pub loop-n-init : goal.loop-n-init
unfolding joined
loop-n-init c = (c.put_word-i.ensures, omega (arith, c.put_word-i.ensures.end))

pub loop-n-preserved : goal.loop-n-preserved
loop-n-preserved c = (
  wrote_number c.args.word.now c.args.numbers.now c.loop-n.n-index c.loop-n-test.true c.loop-n.invariant.0
      c.put_field-i.ensures.0,
  omega (arith, c.put_field-i.ensures.1),
)

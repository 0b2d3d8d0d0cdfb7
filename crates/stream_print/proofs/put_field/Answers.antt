-- A number has ten digits at most.
use Rattle.std.proofs.Common.{arith}
use Rattle.stream_print.proofs.Writing.{wrote_then, digits_few}
use Rattle.stream_print.proofs.put_field.Goals as goal

pub put_digits-requires : goal.put_digits-requires
put_digits-requires c = omega (arith, digits_few c.args.n c.ranges.n.fits)

pub returns : goal.returns
returns c = (
  wrote_then c.put_byte-i.ensures c.put_digits.ensures,
  omega (arith, digits_few c.args.n c.ranges.n.fits),
)

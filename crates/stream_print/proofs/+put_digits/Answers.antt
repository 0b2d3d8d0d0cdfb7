-- One digit, or the digits of the tenth and one more.
use Rattle.std.proofs.Common.{length, arith, sym, ap}
use Rattle.request.proofs.Digits.{digits_one, digits_high, digits_room}
use Rattle.stream_print.proofs.Writing.{wrote_then, wrote_as}
use Rattle.stream_print.proofs.+put_digits.Goals as goal

pub put_byte-requires : goal.put_byte-requires
put_byte-requires t c = omega (arith, ap length (digits_one c.args.n c.if-n-lt10.true))

pub returns-then-n-lt10 : goal.returns-then-n-lt10
returns-then-n-lt10 t c = wrote_as (sym (digits_one c.args.n c.if-n-lt10.true)) c.put_byte.ensures

pub put_digits-i-requires : goal.put_digits-i-requires
put_digits-i-requires t c =
    let h = digits_room c.args.n c.if-n-lt10.false in (omega arith, omega arith)

pub put_byte-requires-2 : goal.put_byte-requires-2
put_byte-requires-2 t c = let h = digits_room c.args.n c.if-n-lt10.false in omega arith

pub returns : goal.returns
returns t c =
    wrote_as (sym (digits_high c.args.n c.if-n-lt10.false)) (wrote_then c.put_digits-i.ensures c.put_byte-2.ensures)

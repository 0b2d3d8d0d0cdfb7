-- A number has one digit more than its power of ten says; below 10 it has one, below 100 two.
use Rattle.std.proofs.Common.{arith}
use Rattle.text_write.proofs.Numbers.{measured_power, measured_one}
use Rattle.text_write.proofs.digits_length.Goals as goal

pub returns : goal.returns
returns c = let p = c.ilog10.ensures in measured_power c.ilog10.result c.args.n p.bound p.power_le p.next_power_gt

pub returns-then-n-lt10 : goal.returns-then-n-lt10
returns-then-n-lt10 c = measured_one c.args.n c.if-n-lt10.true

pub returns-then-n-lt100 : goal.returns-then-n-lt100
returns-then-n-lt100 c = measured_power 1 c.args.n (omega arith) (omega (arith, c.if-n-lt10.false)) c.if-n-lt100.true

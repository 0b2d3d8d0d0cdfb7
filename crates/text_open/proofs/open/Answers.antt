-- 50, 51, or the spare block's numbers take the place of the till's.
use Rattle.std.proofs.Common.{arith}
use Rattle.text_open.proofs.Building.{text_short, opened_refused, opened}
use Rattle.text_open.proofs.open.Goals as goal

pub returns-in_default : goal.returns-in_default
returns-in_default c = opened_refused _ _ c.refusal.ensures

pub overflow_cast-result : goal.overflow_cast-result
overflow_cast-result c = omega (arith, text_short _ c.in-Some.ensures.0)

pub returns : goal.returns
returns c = opened _ _ _ c.in-Some.ensures.0 c.in-Some.ensures.1

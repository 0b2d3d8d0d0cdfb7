-- The line is that of the answer's case.
use Rattle.std.proofs.Common.{◌≡◌, arith, sym, ap}
use Rattle.request.specs.Text.{bytes}
use Rattle.ledger.specs.declared.Answer.{Answer}
use Rattle.ledger.specs.Calls.{told}
use Rattle.stream_print.specs.Printed.{line}
use Rattle.stream_print.proofs.Writing.{wrote_as}
use Rattle.stream_print.proofs.put_answer.Goals as goal

-- the line, by the case of the answer
by_case : {a e : Answer} → a ≡ e → line (told e) ≡ line (told a)
by_case q = ap (λ (z : Answer). line (told z)) (sym q)

pub returns-in-Accepted : goal.returns-in-Accepted
unfolding line bytes
returns-in-Accepted c = (wrote_as (by_case c.in-Accepted.is) c.put_line.ensures.0, omega arith)

pub returns-in-Counted : goal.returns-in-Counted
unfolding line bytes
returns-in-Counted c =
    (wrote_as (by_case c.in-Counted.is) c.put_line-in-Counted.ensures.0, omega arith)

pub returns-in-Refused : goal.returns-in-Refused
unfolding line bytes
returns-in-Refused c =
    (wrote_as (by_case c.in-Refused.is) c.put_line-in-Refused.ensures.0, omega arith)

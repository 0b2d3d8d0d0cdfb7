-- `check` meets its contract.
use Rattle.std.proofs.lemmas.Result.{err_from_is_err_and}
use Rattle.step_checker.proofs.Outcomes.{whole_stops, whole_closes, whole_follows}
use Rattle.step_checker.proofs.check.Goals as goal

pub returns-in_err-closed : goal.returns-in_err-closed
returns-in_err-closed c =
    let p = err_from_is_err_and c.from_residual.result c.from_residual.ensures.1 in
    rw (p.1, p.2) (whole_stops c.in_err-closed.ensures)

pub returns-then-closed-eq0 : goal.returns-then-closed-eq0
returns-then-closed-eq0 c = whole_closes c.in_ok-closed.ensures c.if-closed-eq0.true

pub returns : goal.returns
returns c = whole_follows c.in_ok-closed.ensures c.if-closed-eq0.false

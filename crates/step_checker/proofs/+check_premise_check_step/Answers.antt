-- The premise checker and the step checker meet their contracts.
use Rattle.std.proofs.lemmas.Result.{err_from_is_err_and}
use Rattle.step_checker.proofs.Outcomes.{is_refused, is_closed, one_full, one, first_full, first_stops, second_full}
use Rattle.step_checker.proofs.Outcomes.{both, none_left, goes_on}
use Rattle.step_checker.proofs.+check_premise_check_step.Goals as goal

pub check_premise-returns-then-left-eq0 : goal.check_premise-returns-then-left-eq0
check_premise-returns-then-left-eq0 t c = none_left c.if-left-eq0.true

pub check_premise-returns : goal.check_premise-returns
check_premise-returns t c =
    goes_on c.requires.among c.if-left-eq0.false c.rule-plan.ensures c.check_step.ensures

pub check_step-returns-in_default : goal.check_step-returns-in_default
check_step-returns-in_default t c = one_full c.in-One.is c.in_default.ensures

pub check_step-returns-in_default-begun : goal.check_step-returns-in_default-begun
check_step-returns-in_default-begun t c = first_full c.in-Two.is c.in_default-begun.ensures

pub check_step-returns-in_err-first-in-Two : goal.check_step-returns-in_err-first-in-Two
check_step-returns-in_err-first-in-Two t c =
    let p = err_from_is_err_and c.from_residual.result c.from_residual.ensures.1 in
    rw (p.1, p.2) (first_stops c.in-Two.is c.in-Some-begun.ensures c.in_err-first-in-Two.ensures)

pub check_step-returns-in_default-begun-2 : goal.check_step-returns-in_default-begun-2
check_step-returns-in_default-begun-2 t c =
    second_full c.in-Two.is c.in-Some-begun.ensures c.in_ok-first-in-Two.ensures c.in_default-begun-2.ensures

pub check_step-returns-in-Refused : goal.check_step-returns-in-Refused
check_step-returns-in-Refused t c = is_refused c.in-Refused.is

pub check_step-returns-in-Closed : goal.check_step-returns-in-Closed
check_step-returns-in-Closed t c = is_closed c.in-Closed.is

pub check_step-returns-in-Some : goal.check_step-returns-in-Some
check_step-returns-in-Some t c = one c.in-One.is c.in-Some.ensures c.check_premise.ensures

pub check_step-returns-in-Some-begun-2 : goal.check_step-returns-in-Some-begun-2
check_step-returns-in-Some-begun-2 t c =
    both c.in-Two.is c.in-Some-begun.ensures c.in_ok-first-in-Two.ensures c.in-Some-begun-2.ensures
    c.check_premise-in-Two-2.ensures

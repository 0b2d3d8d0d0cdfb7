-- `read_steps` meets its contract: each turn reads a line.
use Rattle.std.proofs.Common.{◌≡◌, false, refl, sym, ◌∙◌, rules, arith}
use Rattle.read_rest.proofs.Reading.{first_reading, no_step_holds, next_reading, more_bytes, all_lines_read}
use Rattle.read_rest.proofs.Told.{none_told, all_told}
use Rattle.read_rest.proofs.read_steps.Goals as goal

pub loop-k-init : goal.loop-k-init
loop-k-init c =
    let a : c.default-faults.result.reversed ≡ false = search rules in
    let b : c.default-faults.result.broken ≡ false = search rules in
    rw (a, b) (first_reading _ _ _ (search rules))

pub returns-in_err-row-clause-read : goal.returns-in_err-row-clause-read
returns-in_err-row-clause-read c =
    rw c.from_residual.ensures
    (none_told (no_step_holds c.loop-k.invariant c.loop-k-test.true (sym c.in_err-row.ensures.read)))

pub loop-k-preserved : goal.loop-k-preserved
loop-k-preserved c =
    next_reading c.loop-k.invariant _ _ _ _ c.loop-k-test.true c.requires (sym c.in_ok-row.ensures.read)
    c.put_step.ensures c.faults_of-found.ensures.0 c.faults_of-found.ensures.1

pub returns-then-bytes_left-clause-read : goal.returns-then-bytes_left-clause-read
returns-then-bytes_left-clause-read c =
    none_told (more_bytes c.loop-k.invariant (omega arith)
    (sym c.is_empty-bytes_left.ensures ∙ c.if-bytes_left.true))

pub returns-then-bytes_left-clause-kept : goal.returns-then-bytes_left-clause-kept
returns-then-bytes_left-clause-kept c = refl

pub returns-clause-read : goal.returns-clause-read
returns-clause-read c =
    all_told (all_lines_read c.loop-k.invariant (omega arith)
    (sym c.is_empty-bytes_left.ensures ∙ c.if-bytes_left.false))

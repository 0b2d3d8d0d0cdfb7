-- `read_holds` meets its contract: each turn reads a line.
use Rattle.std.proofs.Common.{◌≡◌, ◌<◌, ℕ, length, sym, ◌∙◌, arith, length-append, length-set, length-drop, length-take}
use Rattle.std.proofs.Common.{Some, None, refl}
use Rattle.read_rest.proofs.Several.{lines_begin, lines_end, lines_turn, lines_broken, take_next, take_written}
use Rattle.request.specs.Read.{hold_line}
use Rattle.read_rest.proofs.Told.{holds_told}
use Rattle.read_rest.proofs.read_holds.Goals as goal

pub loop-serial-init : goal.loop-serial-init
loop-serial-init c = lines_begin _ _ _

pub returns-in_err-serial-clause-read : goal.returns-in_err-serial-clause-read
returns-in_err-serial-clause-read c =
    let n : c.loop-serial.serial-index < c.args.count = omega (arith, length-take {A = ℕ}) in
    let none_read = c.loop-serial.invariant ∙ lines_broken _ _ _ _ n (sym c.in_err-serial.ensures.read) _ in
    rw c.from_residual.ensures
    (holds_told None (sym none_read)
    (simp (length-append, length-set, length-drop) (omega (arith, length-take {A = ℕ}))))

pub returns-in_err-serial-clause-kept : goal.returns-in_err-serial-clause-kept
returns-in_err-serial-clause-kept c = rw c.from_residual.ensures refl

pub loop-serial-preserved : goal.loop-serial-preserved
loop-serial-preserved c = let l = c.loop-serial in
    let k : l.serial-index < length l.serial-items = omega arith in
    let n : l.serial-index < c.args.count = omega arith in
    l.invariant ∙ lines_turn _ _ _ _ n (sym c.in_ok-serial.ensures.read) _
    ∙ take_next l.serial-items l.serial-index _ _ k

pub returns-clause-read : goal.returns-clause-read
returns-clause-read c =
    let l = c.loop-serial in
    let k : l.serial-index ≡ c.args.count = omega (arith, length-take {A = ℕ}) in
    let all_read = l.invariant ∙ lines_end hold_line c.args.count l.serial-index _ _ (omega arith) in
    holds_told (Some _) (take_written l.serial-items _ _ _ _ (omega (arith, length-take {A = ℕ})) k ∙ sym all_read)
    (simp (length-append, length-drop) (omega (arith, length-take {A = ℕ})))

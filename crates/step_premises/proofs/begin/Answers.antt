-- `begin` meets its contract.
use mathlib.Core.Path.{sym}
use native.Mathlib.Omega.{arith}
use native.Mathlib.Nat.{add-zero}
use native.Mathlib.Numerals.{add-one}
use Rattle.step_premises.proofs.Beginnings.{begin_full, begin_begun}
use Rattle.step_premises.proofs.begin.Goals as goal

pub returns-in_err-after-in-Nothing : goal.returns-in_err-after-in-Nothing
returns-in_err-after-in-Nothing c =
    rw c.from_residual.ensures
    (sym (begin_full _ _ _ _ _ c.in-Nothing.is c.in_err-after-in-Nothing.ensures))

pub returns-in_err-after-in-Linear : goal.returns-in_err-after-in-Linear
returns-in_err-after-in-Linear c =
    rw c.from_residual-in_err-after-in-Linear.ensures
    (sym (begin_full _ _ _ _ _ c.in-Linear.is c.in_err-after-in-Linear.ensures))

pub returns-in_err-after-in-Both : goal.returns-in_err-after-in-Both
returns-in_err-after-in-Both c =
    rw c.from_residual-in_err-after-in-Both.ensures
    (sym (begin_full _ _ _ _ _ c.in-Both.is c.in_err-after-in-Both.ensures))

pub returns-in_err-after-in-Unrestricted : goal.returns-in_err-after-in-Unrestricted
returns-in_err-after-in-Unrestricted c =
    rw c.from_residual-in_err-after-in-Unrestricted.ensures
    (sym (begin_full _ _ _ _ _ c.in-Unrestricted.is c.in_err-after-in-Unrestricted.ensures))

pub returns-in_ok-after-in-Nothing : goal.returns-in_ok-after-in-Nothing
returns-in_ok-after-in-Nothing c =
    simp (c.sequent.ensures, c.in_ok-after-in-Nothing.ensures.0)
    (sym (begin_begun _ _ _ _ _ c.in-Nothing.is (omega arith)))

pub returns-in_ok-after-in-Linear : goal.returns-in_ok-after-in-Linear
returns-in_ok-after-in-Linear c =
    simp (c.sequent-in-Linear.ensures, c.insert.ensures, c.in_ok-after-in-Linear.ensures.0)
    (sym (begin_begun _ _ _ _ _ c.in-Linear.is (omega arith)))

pub returns-in_ok-after-in-Both : goal.returns-in_ok-after-in-Both
returns-in_ok-after-in-Both c =
    simp (
      c.sequent-in-Both.ensures,
      c.insert-both.ensures,
      c.insert-in-Both.ensures,
      c.in_ok-after-in-Both.ensures.0,
      add-one,
    )
    (sym (begin_begun _ _ _ _ _ c.in-Both.is (omega arith)))

pub returns-in_ok-after-in-Unrestricted : goal.returns-in_ok-after-in-Unrestricted
returns-in_ok-after-in-Unrestricted c =
    let t = c.args.table.now in
    simp (
      c.sequent-in-Unrestricted.ensures,
      c.insert-in-Unrestricted.ensures,
      c.in_ok-after-in-Unrestricted.ensures.0,
    )
    (sym (simp add-zero at (begin_begun t c.args.next c.args.r c.args.p _ c.in-Unrestricted.is (omega arith))))

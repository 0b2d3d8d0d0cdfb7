-- Each turn passes over a line.
use Rattle.std.proofs.Common.{sym, ◌∙◌, arith}
use Rattle.text_read.proofs.PastLines.{rising_start, rising_turn, rising_broken, rising_falls, rising_end}
use Rattle.text_read.proofs.past_credentials.Goals as goal

pub loop-init : goal.loop-init
loop-init c = rising_start _ _ _

pub returns-in_err-credential : goal.returns-in_err-credential
returns-in_err-credential c =
    rw c.from_residual.ensures
    (sym (c.loop.invariant ∙ rising_broken _ _ _ _ (omega arith) (sym c.in_err-credential.ensures.read)))

pub returns-then-credential-last : goal.returns-then-credential-last
returns-then-credential-last c =
    sym (c.loop.invariant
    ∙ rising_falls _ _ _ _ (omega arith) (sym c.in_ok-credential.ensures.read) c.if-credential-last.true)

pub loop-preserved : goal.loop-preserved
loop-preserved c =
    c.loop.invariant
    ∙ rising_turn _ _ _ _ (omega arith) (sym c.in_ok-credential.ensures.read)
    (omega (arith, c.if-credential-last.false))

pub returns : goal.returns
returns c = sym (c.loop.invariant ∙ rising_end _ _ _ _ (omega arith))

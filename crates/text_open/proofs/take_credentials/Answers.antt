-- Each turn takes a credential.
use Rattle.std.proofs.Common.{sym, arith}
use Rattle.text_open.proofs.Giving.{give_start, give_end, give_next, no_credential, bad_credential_holds}
use Rattle.text_open.proofs.Giving.{credential_asked}
use Rattle.text_open.proofs.take_credentials.Goals as goal

pub loop-init : goal.loop-init
loop-init c = give_start _ c.requires

pub returns-in_err-credential-clause-result_after : goal.returns-in_err-credential-clause-result_after
returns-in_err-credential-clause-result_after c =
    rw c.from_residual.ensures (no_credential c.loop.invariant (omega arith) (sym c.in_err-credential.ensures.read))

pub returns-in_err-credential-clause-raisable : goal.returns-in_err-credential-clause-raisable
returns-in_err-credential-clause-raisable c = c.loop.invariant.asked.raisable

pub take_credential-requires : goal.take_credential-requires
take_credential-requires c = credential_asked c.loop.invariant (omega arith) _ (sym c.in_ok-credential.ensures.read)

pub returns-in_err-take_credential-clause-result_after : goal.returns-in_err-take_credential-clause-result_after
returns-in_err-take_credential-clause-result_after c =
    rw c.from_residual-in_err-take_credential.ensures
    (bad_credential_holds c.loop.invariant (omega arith) _ (sym c.in_ok-credential.ensures.read)
    (sym c.in_err-take_credential.ensures.result_after))

pub loop-preserved : goal.loop-preserved
loop-preserved c =
    give_next c.loop.invariant (omega arith) _ (sym c.in_ok-credential.ensures.read)
    (sym c.in_ok-take_credential.ensures.result_after) c.in_ok-take_credential.ensures.raisable

pub returns-clause-result_after : goal.returns-clause-result_after
returns-clause-result_after c = give_end c.loop.invariant (omega arith)

pub returns-clause-raisable : goal.returns-clause-raisable
returns-clause-raisable c = c.loop.invariant.asked.raisable

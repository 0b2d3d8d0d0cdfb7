use Rattle.std.proofs.Common.{sym, subst}
use Rattle.ledger.specs.declared.Answer.{Answer}
use Rattle.ledger.specs.Calls.{told}
use Rattle.ledger.specs.Statements.{IsAccepted}
use Rattle.text_open.proofs.accepted.Goals as goal

pub returns-in-Accepted : goal.returns-in-Accepted
returns-in-Accepted c = subst (λ (a : Answer). IsAccepted (told a)) (sym c.in-Accepted.is) tt

pub returns-in-Counted : goal.returns-in-Counted
returns-in-Counted c = subst (λ (a : Answer). IsAccepted (told a)) (sym c.in-Counted.is) tt

pub returns-in-Refused : goal.returns-in-Refused
returns-in-Refused c h = subst (λ (a : Answer). IsAccepted (told a)) c.in-Refused.is h

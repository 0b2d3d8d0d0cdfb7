-- The credentials that are left to take.
use Rattle.store.specs.Store.{ledger_of}
use Rattle.text_open.specs.Opened.{credentials_added}
use Rattle.text_open.proofs.Giving.{Giving}
use Rattle.text_open.proofs.take_credentials.Given as goal

abbrev pub invariant-loop : goal.invariant-loop
invariant-loop l =
    Giving (credentials_added l.next (ledger_of l.fn.spare) l.count l.fn.r.rest.now) l.count l.next l.spare
    l.r.rest.now l.counter

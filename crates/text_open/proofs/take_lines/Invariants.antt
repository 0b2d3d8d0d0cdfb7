-- The lines that are left to take.
use Rattle.store.specs.Store.{ledger_of}
use Rattle.text_open.specs.Opened.{lines_added}
use Rattle.text_open.proofs.Taking.{Taking}
use Rattle.text_open.proofs.take_lines.Given as goal

abbrev pub invariant-loop : goal.invariant-loop
invariant-loop l =
    Taking (lines_added (ledger_of l.fn.spare) l.count l.fn.r.rest.now) l.count l.spare l.r.rest.now l.counter

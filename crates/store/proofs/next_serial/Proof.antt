-- `next_serial` meets its contract.
use borrow.Author.Rules.{rules}
use Rattle.store.specs.Store.{ledger_of}
use Rattle.store.proofs.next_serial.Statement.{statement}
use Rattle.store.proofs.next_serial.Tie as tie

returns : tie.Need-returns
unfolding ledger_of
returns c = c.read.ensures

pub next_serial_spec : {M : Type 1} → statement M
next_serial_spec = tie.close (tie.spec (λ c κs. search rules) returns)

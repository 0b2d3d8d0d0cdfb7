-- `tested` meets its contract.
use Rattle.call_checks.proofs.Verdicts.{passing, failing}
use Rattle.call_checks.proofs.tested.Statement.{statement}
use Rattle.call_checks.proofs.tested.Tie as tie

returns : tie.Need-returns-then-bad
returns c n = failing n c.if-bad.true

returns_2 : tie.Need-returns
returns_2 c n = passing n c.if-bad.false

pub tested_spec : {M : Type 1} → statement M
tested_spec = tie.close (tie.spec returns returns_2)

-- `lines_are_compared` meets its contract.
use Rattle.ledger.proofs.SameLines.{same_line_holds}
use Rattle.ledger.proofs.lines_are_compared.Statement.{statement}
use Rattle.ledger.proofs.lines_are_compared.Tie as tie

pub lines_are_compared_spec : {M : Type 1} → statement M
lines_are_compared_spec = tie.close (tie.spec (λ c. same_line_holds))

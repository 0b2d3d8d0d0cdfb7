-- `without_breaks_as_before` meets its contract.
use Rattle.logic.proofs.Intervals.{as_before}
use Rattle.logic.proofs.without_breaks_as_before.Statement.{statement}
use Rattle.logic.proofs.without_breaks_as_before.Tie as tie

pub without_breaks_as_before_spec : {M : Type 1} → statement M
without_breaks_as_before_spec = tie.close (tie.spec (λ c. as_before))

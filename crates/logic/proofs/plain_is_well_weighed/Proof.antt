-- `plain_is_well_weighed` meets its contract.
use Rattle.logic.proofs.Balance.{plain_weighed}
use Rattle.logic.proofs.plain_is_well_weighed.Statement.{statement}
use Rattle.logic.proofs.plain_is_well_weighed.Tie as tie

pub plain_is_well_weighed_spec : {M : Type 1} → statement M
plain_is_well_weighed_spec = tie.close (tie.spec (λ c. plain_weighed))

-- `derivations_conserve_weight` meets its contract.
use Rattle.logic.proofs.Conservation.{conservation}
use Rattle.logic.proofs.derivations_conserve_weight.Statement.{statement}
use Rattle.logic.proofs.derivations_conserve_weight.Tie as tie

pub derivations_conserve_weight_spec : {M : Type 1} → statement M
derivations_conserve_weight_spec = tie.close (tie.spec (λ c. conservation))

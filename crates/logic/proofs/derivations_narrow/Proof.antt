-- `derivations_narrow` meets its contract.
use Rattle.logic.proofs.Subsumption.{subsumption}
use Rattle.logic.proofs.derivations_narrow.Statement.{statement}
use Rattle.logic.proofs.derivations_narrow.Tie as tie

pub derivations_narrow_spec : {M : Type 1} → statement M
derivations_narrow_spec = tie.close (tie.spec (λ c. subsumption))

-- `sets_have_one_spelling` meets its contract.
use Rattle.logic.proofs.Intervals.{same_set}
use Rattle.logic.proofs.sets_have_one_spelling.Statement.{statement}
use Rattle.logic.proofs.sets_have_one_spelling.Tie as tie

pub sets_have_one_spelling_spec : {M : Type 1} → statement M
sets_have_one_spelling_spec = tie.close (tie.spec (λ c. same_set))

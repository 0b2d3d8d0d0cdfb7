-- `passing_is_deriving` meets its contract.
use Rattle.steps.proofs.LabelTables.{label_table}
use Rattle.steps.proofs.Steps.{sound, passing}
use Rattle.steps.proofs.passing_is_deriving.Statement.{statement}
use Rattle.steps.proofs.passing_is_deriving.Tie as tie

pub passing_is_deriving_spec : {M : Type 1} → statement M
passing_is_deriving_spec = tie.close (tie.spec (λ c. (sound label_table, passing label_table)))

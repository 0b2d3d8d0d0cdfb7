-- `checker_is_exact` meets its contract.
use Rattle.steps.proofs.LabelTables.{label_table}
use Rattle.steps.proofs.Steps.{exactly}
use Rattle.steps.proofs.checker_is_exact.Statement.{statement}
use Rattle.steps.proofs.checker_is_exact.Tie as tie

pub checker_is_exact_spec : {M : Type 1} → statement M
checker_is_exact_spec = tie.close (tie.spec (λ c. exactly label_table))

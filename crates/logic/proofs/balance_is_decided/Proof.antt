-- `balance_is_decided` meets its contract.
use Rattle.logic.proofs.Balance.{balanced_test}
use Rattle.logic.proofs.balance_is_decided.Statement.{statement}
use Rattle.logic.proofs.balance_is_decided.Tie as tie

pub balance_is_decided_spec : {M : Type 1} → statement M
balance_is_decided_spec = tie.close (tie.spec (λ c. balanced_test))

-- `rules_agree` meets its contract.
use Rattle.snapshot.proofs.Rules.{rules_agree}
use Rattle.snapshot.proofs.rules_agree.Statement.{statement}
use Rattle.snapshot.proofs.rules_agree.Tie as tie

pub rules_agree_spec : {M : Type 1} → statement M
rules_agree_spec = tie.close (tie.spec (λ c. rules_agree))

-- `holders_are_put_in` meets its contract.
use Rattle.logic.proofs.Holders.{holders}
use Rattle.logic.proofs.holders_are_put_in.Statement.{statement}
use Rattle.logic.proofs.holders_are_put_in.Tie as tie

pub holders_are_put_in_spec : {M : Type 1} → statement M
holders_are_put_in_spec = tie.close (tie.spec (λ c. holders))

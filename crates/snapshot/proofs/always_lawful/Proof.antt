-- `always_lawful` meets its contract.
use Rattle.snapshot.proofs.Lawful.{lawful}
use Rattle.snapshot.proofs.always_lawful.Statement.{statement}
use Rattle.snapshot.proofs.always_lawful.Tie as tie

pub always_lawful_spec : {M : Type 1} → statement M
always_lawful_spec = tie.close (tie.spec (λ c. lawful))

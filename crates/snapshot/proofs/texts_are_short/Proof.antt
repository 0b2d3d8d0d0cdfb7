-- `texts_are_short` meets its contract.
use Rattle.snapshot.proofs.Lawful.{text_longest}
use Rattle.snapshot.proofs.texts_are_short.Statement.{statement}
use Rattle.snapshot.proofs.texts_are_short.Tie as tie

pub texts_are_short_spec : {M : Type 1} → statement M
texts_are_short_spec = tie.close (tie.spec (λ c. text_longest))

-- `one_text` meets its contract.
use Rattle.snapshot.proofs.Lawful.{reads_back, writes_back}
use Rattle.snapshot.proofs.one_text.Statement.{statement}
use Rattle.snapshot.proofs.one_text.Tie as tie

pub one_text_spec : {M : Type 1} → statement M
one_text_spec = tie.close (tie.spec (λ c. (reads_back, writes_back)))

-- `texts_play` meets its contract.
use Rattle.snapshot.proofs.Cases.{m1_texts, texts_open, editions_open, closings}
use Rattle.snapshot.proofs.texts_play.Statement.{statement}
use Rattle.snapshot.proofs.texts_play.Tie as tie

pub texts_play_spec : {M : Type 1} → statement M
texts_play_spec = tie.close (tie.spec (λ c. (m1_texts, (texts_open, (editions_open, closings)))))

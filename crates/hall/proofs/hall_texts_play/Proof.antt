-- `hall_texts_play` meets its contract.
use Rattle.hall.proofs.Halls.{hall_texts}
use Rattle.hall.proofs.hall_texts_play.Statement.{statement}
use Rattle.hall.proofs.hall_texts_play.Tie as tie

pub hall_texts_play_spec : {M : Type 1} → statement M
hall_texts_play_spec = tie.close (tie.spec (λ c. hall_texts))

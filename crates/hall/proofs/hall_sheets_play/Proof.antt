-- `hall_sheets_play` meets its contract.
use Rattle.hall.proofs.Halls.{hall_sheets}
use Rattle.hall.proofs.hall_sheets_play.Statement.{statement}
use Rattle.hall.proofs.hall_sheets_play.Tie as tie

pub hall_sheets_play_spec : {M : Type 1} → statement M
hall_sheets_play_spec = tie.close (tie.spec (λ c. hall_sheets))

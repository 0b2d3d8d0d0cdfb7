-- `house_seats_are_seats` meets its contract.
use mathlib.Core.Bool.{false}
use Rattle.logic.proofs.Houses.{house_seats_holds}
use Rattle.logic.proofs.house_seats_are_seats.Statement.{statement}
use Rattle.logic.proofs.house_seats_are_seats.Tie as tie

pub house_seats_are_seats_spec : {M : Type 1} → statement M
house_seats_are_seats_spec = tie.close (tie.spec (λ c. house_seats_holds false))

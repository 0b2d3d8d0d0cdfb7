-- `give` meets its contract: room is made, and the ledger stays; then the credential is appended.
use native.Mathlib.Omega.{arith}
use Rattle.store_credentials.proofs.Given.{still_givable}
use Rattle.store_credentials.proofs.give.Statement.{statement}
use Rattle.store_credentials.proofs.give.Tie as tie

make-room-requires : tie.Need-make_room-requires
make-room-requires c κs = let p = c.requires in (p.good, omega (arith, p.room))

append-requires : tie.Need-append-requires
append-requires c κs =
    (still_givable c.requires c.make_room.ensures.0, c.make_room.ensures.1)

returns : tie.Need-returns
returns c = rw c.make_room.ensures.0.ledger at c.append.ensures

pub give_spec : {M : Type 1} → statement M
give_spec = tie.close (tie.spec make-room-requires append-requires returns)

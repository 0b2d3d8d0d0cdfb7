-- `withdraw` meets its contract: the credential leaves, and the ledger stays when rows move together.
use native.Mathlib.Omega.{arith}
use Rattle.store_credentials.proofs.withdraw.Statement.{statement}
use Rattle.store_credentials.proofs.withdraw.Tie as tie

make-room-requires : tie.Need-make_room-requires
make-room-requires c κs =
    let g = c.remove.ensures.good in
    (g, omega (arith, g.bounded.live))

returns : tie.Need-returns
returns c = rw c.remove.ensures.ledger at c.make_room.ensures.0

pub withdraw_spec : {M : Type 1} → statement M
withdraw_spec = tie.close (tie.spec (λ c κs. c.requires) make-room-requires returns)

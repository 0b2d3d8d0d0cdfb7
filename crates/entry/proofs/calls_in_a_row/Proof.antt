-- `calls_in_a_row` meets its contract.
use Rattle.entry.proofs.Lists.{start_made, calls_meet, played_is, calls_answered, bookings_exact}
use Rattle.entry.proofs.Lists.{calls_add_up, calls_arrive}
use Rattle.entry.proofs.calls_in_a_row.Statement.{statement}
use Rattle.entry.proofs.calls_in_a_row.Tie as tie

pub calls_in_a_row_spec : {M : Type 1} → statement M
calls_in_a_row_spec =
    tie.close
    (tie.spec
    (λ c.
    (start_made, (calls_meet, (played_is, (calls_answered, (bookings_exact, (calls_add_up, calls_arrive))))))))

-- `book_steps` meets its contract.
use Rattle.call_contracts.proofs.Laws.{refused}
use Rattle.call_book_laws.proofs.Judged.{steps_told}
use Rattle.call_book_laws.proofs.BookingOutcomes.{no_room_left, none_unused, settled, book_gives, book_done}
use Rattle.call_book_steps.proofs.book_steps.Goals as goal

pub returns-in_default : goal.returns-in_default
returns-in_default c =
    let told = steps_told c.requires c.opening.ensures c.check-checked.ensures in
    let e = c.in_default.is in
    rw (c.refusal.ensures, e) (refused c.requires.before.lines.good c.requires.so_far (rw e at told))

pub returns-in_default-room : goal.returns-in_default-room
returns-in_default-room c =
    no_room_left c.requires (steps_told c.requires c.opening.ensures c.in-Ok.ensures)
    c.check_room-room.ensures c.in_default-room.is

pub returns-in_default-unused : goal.returns-in_default-unused
returns-in_default-unused c =
    none_unused c.requires (steps_told c.requires c.opening.ensures c.in-Ok.ensures)
    c.check_room-room.ensures c.in-Passed.is c.check_unused-unused.ensures c.in_default-unused.is

pub give-requires : goal.give-requires
give-requires c =
    book_gives (settled c.requires (steps_told c.requires c.opening.ensures c.in-Ok.ensures)
    c.check_room-room.ensures c.in-Passed.is c.check_unused-unused.ensures c.in-Passed-unused.is) c.spend.ensures

pub returns : goal.returns
returns c =
    book_done (settled c.requires (steps_told c.requires c.opening.ensures c.in-Ok.ensures)
    c.check_room-room.ensures c.in-Passed.is c.check_unused-unused.ensures c.in-Passed-unused.is)
    c.next_serial-serial.ensures c.spend.ensures c.give.ensures

-- The answer is what the read gave; the bytes that it counts came in.
use Rattle.std.proofs.Common.{◌≡◌, length, rules}
use Rattle.stream_console.specs.Console.{answer_of, noted}
use Rattle.stream_console.proofs.Notes.{came_on}
use Rattle.stream_console.proofs.receive.Goals as goal

pub returns-clause-received : goal.returns-clause-received
returns-clause-received c =
    let z = answer_of c.read_once-given.result in
    let x = c.read_once-given.new.piece in
    let note : c.note_read.result ≡ noted c.args.input z (length x) = search rules in
    record {
      answer = z;
      moved = c.read_once-given.ensures.moved;
      note = note;
      came = came_on c.args.input x z note;
    }

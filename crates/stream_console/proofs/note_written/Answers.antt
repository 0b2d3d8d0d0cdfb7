-- What is noted of a write, field by field.
use Rattle.std.proofs.Common.{◌≡◌, ◌+◌, ◌%◌, ◌^◌, refl, rules}
use Rattle.stream_console.specs.Console.{handed}
use Rattle.stream_console.proofs.Notes.{part, returned, handed_as}
use Rattle.stream_console.proofs.note_written.Goals as goal

bytes_more : part
    (λ (x : goal.returns) (y : (c : _) → (returned (x c)).bytes ≡ (c.args.output.bytes + c.args.n) % 2 ^ 64). y)
bytes_more c = search rules

put_these : part (λ (x : goal.returns) (y : (c : _) → (returned (x c)).put ≡ c.args.n). y)
put_these c = refl

failed_as : part
    (λ (x : goal.returns) (y : (c : _) →
    (returned (x c)).failed ≡ (handed c.args.output c.args.n c.args.written).failed). y)
failed_as c = search rules

pub returns : goal.returns
returns c =
    handed_as c.args.output c.args.n c.args.written (search rules) (bytes_more c) (put_these c) (failed_as c)

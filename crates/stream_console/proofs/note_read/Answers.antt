-- What is noted of a read, field by field.
use Rattle.std.proofs.Common.{◌≡◌, ◌+◌, ◌%◌, ◌^◌, eqb, length, pos, refl, rules}
use lib.Signed.{lt_z}
use Rattle.stream_console.specs.Console.{answer_of, clamp_len}
use Rattle.stream_console.proofs.Notes.{part, returned, noted_as}
use Rattle.stream_console.proofs.note_read.Goals as goal

one_read_more : part
    (λ (x : goal.returns) (y : (c : _) → (returned (x c)).reads ≡ (c.args.input.reads + 1) % 2 ^ 64). y)
one_read_more c = search rules

got_these : part
    (λ (x : goal.returns) (y : (c : _) →
    (returned (x c)).got ≡ clamp_len (answer_of c.args.given) (length c.args.piece.now)). y)
got_these c = c.count-got.ensures

ends_at_none : part
    (λ (x : goal.returns) (y : (c : _) → (returned (x c)).ended ≡ eqb (returned (x c)).got 0). y)
ends_at_none c = refl

misread_at_none : part
    (λ (x : goal.returns) (y : (c : _) → (returned (x c)).misread ≡ lt_z (answer_of c.args.given) (pos 0)). y)
misread_at_none c = search rules

pub returns : goal.returns
returns c =
    noted_as c.args.input (answer_of c.args.given) (length c.args.piece.now) (search rules)
    (one_read_more c) (search rules) (got_these c) (ends_at_none c) (misread_at_none c)

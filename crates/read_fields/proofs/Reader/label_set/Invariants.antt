use Rattle.std.proofs.Common.{◌≡◌, ◌^◌, ◌<◌, drop}
use Rattle.request.specs.Text.{label_set_in}
use Rattle.read_fields.specs.Field.{field_to, set_in}
use Rattle.read_fields.proofs.Reader.label_set.Given as goal

abbrev pub invariant-loop-k : goal.invariant-loop-k
invariant-loop-k l =
    (l.v < 16 ^ l.k) × (field_to l.stop label_set_in l.s ≡ field_to l.stop (set_in l.k l.v) (drop l.k l.s))

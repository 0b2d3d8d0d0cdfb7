use Rattle.std.proofs.Common.{◌≡◌, ◌≤◌, drop}
use Rattle.request.specs.Range.{◌‥◌}
use Rattle.read_fields.specs.Field.{field_to, more_in}
use Rattle.read_fields.proofs.Reader.more_digits.Given as goal

abbrev pub invariant-loop-i : goal.invariant-loop-i
invariant-loop-i l =
    (1 ≤ l.v) × (l.v ≤ l.last)
    × (field_to l.stop (more_in (l.first ‥ l.last) l.start) (drop 1 l.s)
    ≡ field_to l.stop (more_in (l.first ‥ l.last) l.v) (drop l.i l.s))
    × (l.self.rest.now ≡ l.fn.self.rest.now)

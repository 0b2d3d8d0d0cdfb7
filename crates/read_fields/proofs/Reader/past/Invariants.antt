use Rattle.std.proofs.Common.{◌≡◌, drop}
use Rattle.read_fields.specs.Field.{strip}
use Rattle.read_fields.proofs.Reader.past.Given as goal

-- what is left of both
abbrev pub invariant-loop-k : goal.invariant-loop-k
invariant-loop-k l = strip l.w l.s ≡ strip (drop l.k l.w) (drop l.k l.s)

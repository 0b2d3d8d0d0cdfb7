-- What C is told of the library before it lends anything.
use Rattle.std.specs.Prelude.{ℕ}

-- The second edition, which begins with document 02's ask 7. Other sizes, other refusals, or sheets and texts that
-- mean something else, are another one.
abbrev pub edition : ℕ
edition = 2

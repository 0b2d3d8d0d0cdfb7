-- The sheets of a stream of bytes: "A second program, `tillrun`, reads standard input, sheets parted by an empty line".
use Rattle.std.specs.Prelude.{List, [], ◌∷◌, ◌++◌, Bool, true, false, ◌&&◌, ◌||◌, ℕ, ◌+◌, eqb}
use Rattle.request.specs.Range.{max_bytes}

-- What has come of a stream: the sheets that an empty line has ended, the bytes after the last of these lines, and
-- whether a line begins here, where a byte 10 is an empty line.
pub record Split : Type 0 where
  pub ended : List (List ℕ)
  pub begun : List ℕ
  pub fresh : Bool

abbrev pub start : Split
start = record { ended = []; begun = []; fresh = true }

-- "Every empty line ends a sheet, an empty sheet too"
abbrev pub next : Split → ℕ → Split
next s x = elim (s.fresh && eqb x 10) [
  | true ↦ record { ended = s.ended ++ (s.begun ∷ []); begun = []; fresh = true }
  | false ↦ record { ended = s.ended; begun = s.begun ++ (x ∷ []); fresh = eqb x 10 }
]

unfoldable pub split_from : Split → List ℕ → Split
split_from s [] = s
split_from s (x ∷ xs) = split_from (next s x) xs

abbrev pub split : List ℕ → Split
split b = split_from start b

-- "bytes after the last empty line, if any, are one more"
abbrev pub one_more : List ℕ → List (List ℕ)
one_more [] = []
one_more (x ∷ xs) = (x ∷ xs) ∷ []

abbrev pub sheets_of : List ℕ → List (List ℕ)
sheets_of b = (split b).ended ++ one_more (split b).begun

-- whether an empty line stands in bytes, before which a line begins or not
unfoldable pub empty_line : Bool → List ℕ → Bool
empty_line fresh [] = false
empty_line fresh (x ∷ xs) = (fresh && eqb x 10) || empty_line (eqb x 10) xs

-- whether a line begins after them
unfoldable pub line_begins : Bool → List ℕ → Bool
line_begins fresh [] = fresh
line_begins fresh (x ∷ xs) = line_begins (eqb x 10) xs

-- One byte more than a sheet may have: of an overlong sheet the rest is skipped, and what is kept is refused with 1
-- just as the whole.
abbrev pub most : ℕ
most = max_bytes + 1

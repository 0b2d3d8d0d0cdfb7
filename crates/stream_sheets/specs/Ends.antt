-- What the search for the end of a sheet answers: the first empty line of some bytes.
use Rattle.std.specs.Prelude.{◌≡◌, Bool, true, false, ◌&&◌, List, ℕ, ◌+◌, ◌<◌, eqb, length, take, get_or}
use Rattle.std.specs.Prelude.{Option, Some, None}
use Rattle.stream_sheets.specs.Sheets.{empty_line, line_begins}

-- The first empty line of the bytes x is their byte e; before them a line begins or not.
pub record EndsAt (x : List ℕ) (fresh : Bool) (e : ℕ) : Type 0 where
  pub inside : e < length x
  pub ten : get_or x e 0 ≡ 10
  pub lines : line_begins fresh (take e x) ≡ true
  pub none : empty_line fresh (take e x) ≡ false

-- where it stands, if there is one
abbrev pub EndIs : List ℕ → Bool → Option ℕ → Type 0
EndIs x fresh (Some e) = EndsAt x fresh e
EndIs x fresh None = empty_line fresh x ≡ false

-- 1 where two bytes are both 10, else 0
abbrev pub BothTen : ℕ → ℕ → ℕ → Type 0
BothTen x y r = r ≡ elim (eqb x 10 && eqb y 10) [
  | true ↦ 1
  | false ↦ 0
]

-- no empty line stands in the bytes x up to their byte n, where no line begins before them
pub record Skipped (x : List ℕ) (n : ℕ) : Type 0 where
  pub inside : n < length x
  pub none : empty_line false (take (n + 1) x) ≡ false

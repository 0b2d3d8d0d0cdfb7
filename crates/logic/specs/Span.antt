-- The sessions of a formula's atoms lie between two numbers: of any other session it has nothing. Document 02, ask 9:
-- "The panel asks for every session after each booking", and most formulas have nothing of that session.
use Rattle.std.specs.Prelude.{◌≡◌, ◌⊎◌, ℕ, ◌<◌}
use Rattle.logic.specs.Formula.{Formula, count}

abbrev pub Spans : Formula → ℕ → ℕ → Type 0
Spans a u v = (q s : ℕ) → (s < u) ⊎ (v < s) → count q s a ≡ 0

-- A row's parts: the numbers that it names, by its letter, as the code goes.
use Rattle.std.specs.Prelude.{List, [], ◌∷◌, Bool, false, ◌||◌, ℕ, eqb}
use Prim.Native.Char.{code}
use Rattle.logic.specs.Choice.{pick}
use Rattle.steps.specs.declared.Row.{Row}
use Rattle.formula_parts.specs.declared.Parts.{Parts}
use Rattle.formula_parts.specs.declared.Parts.TheVariants.{Nothing, One, Two}

-- the number is one of these
abbrev pub among : ℕ → List ℕ → Bool
among n [] = false
among n (k ∷ ks) = eqb n k || among n ks

-- the letters of lines of two parts; of one part, which stands first in the row; of plain formulas
abbrev pub pairs : List ℕ
pairs = code "t" ∷ code "w" ∷ code "p" ∷ code "l" ∷ code "u" ∷ []

abbrev pub wraps : List ℕ
wraps = code "b" ∷ code "h" ∷ code "q" ∷ []

abbrev pub plains : List ℕ
plains = code "a" ∷ code "t" ∷ code "s" ∷ code "n" ∷ []

-- the letter is that of an atom
abbrev pub atomic : ℕ → Bool
atomic c = eqb c (code "a") || eqb c (code "n")

-- the numbers that a row names
unfoldable pub parts_of : Row → List ℕ
parts_of r =
    pick (among r.letter pairs) (r.a ∷ r.b ∷ [])
    (pick (among r.letter wraps) (r.a ∷ [])
    (pick (eqb r.letter (code "s")) (r.b ∷ [])
    []))

-- what the code's answer stands for
abbrev pub numbers : Parts → List ℕ
numbers Nothing = []
numbers (One i) = i ∷ []
numbers (Two i j) = i ∷ j ∷ []

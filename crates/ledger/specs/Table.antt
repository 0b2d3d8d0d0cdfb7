-- Formula lines (document 01: wordings): the formula that each stands for. "A wording refers to earlier wordings i, j
-- by number"; "The till numbers them from 0".
use Rattle.std.specs.Prelude.{List, [], ◌∷◌, ◌++◌, ℕ, get_or}
use Rattle.std.proofs.Math.Option.{none, some}
use Prim.Native.Char.{code}
use Rattle.logic.specs.Interval.{no_interval}
use Rattle.logic.specs.Formula.{Formula, atom, one, tensor, with, plus, lolli, implies, bang, at, says, superset}
use Rattle.logic.specs.Formula.{for_every}
use Rattle.request.specs.Request.{Line}
use Rattle.steps.specs.declared.Row.{Row}

-- the formula of a line, where T gives those of the numbers that it names
abbrev pub form : (ℕ → Formula) → Line → Formula
form T (Line.atom p s) = atom p s none
form T Line.one = one
form T (Line.tensor i j) = tensor (T i) (T j)
form T (Line.with i j) = with (T i) (T j)
form T (Line.plus i j) = plus (T i) (T j)
form T (Line.lolli i j) = lolli (T i) (T j)
form T (Line.implies i j) = implies (T i) (T j)
form T (Line.bang i) = bang (T i)
form T (Line.at i w) = at (T i) w
form T (Line.says k i) = says k (T i)
form T (Line.superset v w) = superset v w
form T (Line.named p s h) = atom p s (some h)
form T (Line.for_every i) = for_every (T i)

-- the numbers that a line names
abbrev pub names : Line → List ℕ
names (Line.atom p s) = []
names Line.one = []
names (Line.tensor i j) = i ∷ j ∷ []
names (Line.with i j) = i ∷ j ∷ []
names (Line.plus i j) = i ∷ j ∷ []
names (Line.lolli i j) = i ∷ j ∷ []
names (Line.implies i j) = i ∷ j ∷ []
names (Line.bang i) = i ∷ []
names (Line.at i w) = i ∷ []
names (Line.says k i) = i ∷ []
names (Line.superset v w) = []
names (Line.named p s h) = []
names (Line.for_every i) = i ∷ []

-- a number that names no line reads as 1
abbrev pub nth : List Formula → ℕ → Formula
nth T i = get_or T i one

-- the formulas of lines, after those of earlier lines
unfoldable pub build : List Formula → List Line → List Formula
build earlier [] = earlier
build earlier (l ∷ more) = build (earlier ++ (form (nth earlier) l ∷ [])) more

-- the formulas of a table of lines, in order
unfoldable pub formulas : List Line → List Formula
formulas ls = build [] ls

-- the row of a letter and two numbers, without holder and intervals
abbrev pub lettered : ℕ → ℕ → ℕ → Row
lettered letter a b =
    record { letter = letter; a = a; b = b; holder = 0; first = no_interval; second = no_interval }

-- a line as a row: the byte of its letter, and its fields
abbrev pub row_of : Line → Row
row_of (Line.atom p s) = lettered (code "a") p s
row_of Line.one = lettered (code "o") 0 0
row_of (Line.tensor i j) = lettered (code "t") i j
row_of (Line.with i j) = lettered (code "w") i j
row_of (Line.plus i j) = lettered (code "p") i j
row_of (Line.lolli i j) = lettered (code "l") i j
row_of (Line.implies i j) = lettered (code "u") i j
row_of (Line.bang i) = lettered (code "b") i 0
row_of (Line.at i w) = record { letter = code "h"; a = i; b = 0; holder = 0; first = w; second = no_interval }
row_of (Line.says k i) = lettered (code "s") k i
row_of (Line.superset v w) = record { letter = code "g"; a = 0; b = 0; holder = 0; first = v; second = w }
row_of (Line.named p s h) =
    record { letter = code "n"; a = p; b = s; holder = h; first = no_interval; second = no_interval }
row_of (Line.for_every i) = lettered (code "q") i 0

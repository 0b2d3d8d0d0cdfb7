-- What is printed: "It prints `ok,` with number (word), serial (issue, withdraw, book) or open,shut,placed (tally), or
-- `no,refusal,step`."
use Rattle.std.specs.Prelude.{◌≡◌, List, [], ◌∷◌, ◌++◌, map, ℕ, ◌+◌, ◌≤◌, length, take}
use Rattle.request.specs.Text.{bytes}
use Rattle.request.specs.Write.{digits, joined}
use Rattle.ledger.specs.declared.Answer.{Answer}
use Rattle.ledger.specs.Calls.{Told, ok, no, told}

-- a line for each answer
unfoldable pub line : Told → List ℕ
line (ok ns) = joined (bytes "ok" ∷ map digits ns) ++ (10 ∷ [])
line (no n k) = joined (bytes "no" ∷ digits n ∷ digits k ∷ []) ++ (10 ∷ [])

unfoldable pub printed : List Answer → List ℕ
printed [] = []
printed (a ∷ more) = line (told a) ++ printed more

-- no line is longer
abbrev pub longest : ℕ
longest = 36

-- n bytes of o are free after the first `at`
abbrev pub Room : List ℕ → ℕ → ℕ → Type 0
Room o at n = at + n ≤ length o

-- o' has the bytes t after the first `at` of o, up to r
pub record Wrote (o : List ℕ) (at : ℕ) (t o' : List ℕ) (r : ℕ) : Type 0 where
  pub long : length o' ≡ length o
  pub end : r ≡ at + length t
  pub text : take r o' ≡ take at o ++ t

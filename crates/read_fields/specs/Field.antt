-- Fields of bytes: what the code's contracts say is read from the bytes that a reader still has. What a text reads as
-- is the definition's own (crate request, Text.antt).
use Rattle.std.specs.Prelude.{◌≡◌, List, [], ◌∷◌, Bool, true, false, ◌||◌, ◌&&◌, ℕ, ◌+◌, ◌*◌, ◌≤◌, ◌<◌, eqb, leb}
use Rattle.std.specs.Prelude.{length, Option as Read, Some, None}
use Rattle.std.proofs.Math.Option.{Option, none, some}
use Rattle.request.specs.Range.{Range}
use Rattle.request.specs.Text.{and_then, reads, decimal_digit, hex_digit}
use Rattle.logic.specs.Choice.{pick}

-- the bytes that end a field: a comma (44) and a line's end (10)
abbrev pub ends : ℕ → Bool
ends x = eqb x 44 || eqb x 10

abbrev pub Stop : ℕ → Type 0
Stop x = ends x ≡ true

-- the text before the first byte that ends a field, that byte, and what follows it
unfoldable pub cut : List ℕ → Option (List ℕ × ℕ × List ℕ)
cut [] = none
cut (x ∷ xs) = pick (ends x) (some ([], x, xs)) (and_then (cut xs) (λ p. some (x ∷ p.0, p.1, p.2)))

-- a field that the byte `stop` ends: what its text reads as, and what follows
unfoldable pub field_to : {A : Type 0} → ℕ → (List ℕ → Option A) → List ℕ → Option (A × List ℕ)
field_to stop read b =
    and_then (cut b) (λ p. pick (eqb p.1 stop) (and_then (read p.0) (λ a. some (a, p.2))) none)

-- what follows a text that the bytes begin with
unfoldable pub strip : List ℕ → List ℕ → Option (List ℕ)
strip [] b = some b
strip (x ∷ w) [] = none
strip (x ∷ w) (y ∷ b) = pick (eqb y x) (strip w b) none

-- What an answer of the code says of the bytes, where it leaves those of c: the value, and the bytes after it
abbrev pub read_of : {A : Type 0} → Read A → List ℕ → Option (A × List ℕ)
read_of (Some a) c = some (a, c)
read_of None c = none

-- whether the bytes b begin with the text w; c is what follows it, or else all of b
abbrev pub Past : List ℕ → List ℕ → List ℕ → Bool → Type 0
Past w b c true = strip w b ≡ some c
Past w b c false = (strip w b ≡ none) × (c ≡ b)

-- and where it is the value alone
abbrev pub answer_of : {A : Type 0} → Read A → Option A
answer_of (Some a) = some a
answer_of None = none

-- a number of which the digits before t have the value v: after a zero none may follow
unfoldable pub more : ℕ → List ℕ → Option ℕ
more v [] = some v
more v (x ∷ t) = pick (eqb v 0) none (reads decimal_digit 10 v (x ∷ t))

-- n, if it is in the range
unfoldable pub within : Range → ℕ → Option ℕ
within r n = elim (leb r.first n && leb n r.last) [ true ↦ some n | false ↦ none ]

unfoldable pub more_in : Range → ℕ → List ℕ → Option ℕ
more_in r v t = and_then (more v t) (within r)

-- a set of labels of which the k digits before t have the value v
unfoldable pub set_in : ℕ → ℕ → List ℕ → Option ℕ
set_in k v t = pick (eqb (k + length t) 16) (reads hex_digit 16 v t) none

-- the value of digits once the byte x is read after those of the value v; x may be no digit
pub record DigitRead (v x w : ℕ) : Type 0 where
  pub digit : ℕ
  pub is : hex_digit x ≡ some digit
  pub below : digit < 16
  pub value : w ≡ v * 16 + digit

abbrev pub DigitsAre : ℕ → ℕ → Read ℕ → Type 0
DigitsAre v x (Some w) = DigitRead v x w
DigitsAre v x None = hex_digit x ≡ none

-- what the reader of numbers asks: a byte that ends the field, a bound of some digits
pub record NumberAsked (last stop : ℕ) : Type 0 where
  pub stops : Stop stop
  pub least : 9 ≤ last
  pub most : last ≤ 99999999

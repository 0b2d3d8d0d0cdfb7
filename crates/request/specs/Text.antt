-- "House form: lines ended by byte 10, fields in fixed order parted by commas, no quoting, no spaces. Numbers are
-- decimal without leading zeros, except a share: 16 lower-case hexadecimal digits."
use Rattle.std.specs.Prelude.{ℕ, ◌+◌, ◌*◌, ◌-◌, List, [], ◌∷◌, Bool, true, false, ◌&&◌, eqb, leb, length}
use Prim.Native.Char.{code}
use Prim.Native.String.{String}
use Rattle.std.proofs.Math.Option.{Option, none, some}
use Rattle.request.specs.Range.{Range}

-- the bytes of a quoted text (a character below 128 is its byte)
unfoldable pub bytes : String → List ℕ
bytes String.[] = []
bytes (String.◌∷◌ c s) = code c ∷ bytes s

unfoldable pub same_bytes : List ℕ → List ℕ → Bool
same_bytes [] [] = true
same_bytes [] (y ∷ ys) = false
same_bytes (x ∷ xs) [] = false
same_bytes (x ∷ xs) (y ∷ ys) = eqb x y && same_bytes xs ys

-- go on with what was read
unfoldable pub and_then : {A B : Type 0} → Option A → (A → Option B) → Option B
and_then none k = none
and_then (some a) k = k a

-- a byte before the first of the texts
unfoldable pub push : ℕ → List (List ℕ) → List (List ℕ)
push x [] = (x ∷ []) ∷ []
push x (t ∷ ts) = (x ∷ t) ∷ ts

-- the fields of a line: the texts between its commas (byte 44), one more than there are commas
unfoldable pub fields : List ℕ → List (List ℕ)
fields [] = [] ∷ []
fields (x ∷ xs) = elim (eqb x 44) [ true ↦ [] ∷ fields xs | false ↦ push x (fields xs) ]

-- a byte before the first line; without a line it is a byte that no byte 10 ends
unfoldable pub push_line : ℕ → List (List ℕ) → Option (List (List ℕ))
push_line x [] = none
push_line x (l ∷ ls) = some ((x ∷ l) ∷ ls)

-- the lines of a text, each ended by byte 10; none where bytes follow the last byte 10
unfoldable pub lines : List ℕ → Option (List (List ℕ))
lines [] = some []
lines (x ∷ xs) = and_then (lines xs) (λ ls. elim (eqb x 10) [ true ↦ some ([] ∷ ls) | false ↦ push_line x ls ])

-- digits in a base, most significant first, after those that gave `value`
unfoldable pub reads : (ℕ → Option ℕ) → ℕ → ℕ → List ℕ → Option ℕ
reads digit base value [] = some value
reads digit base value (x ∷ xs) = and_then (digit x) (λ d. reads digit base (value * base + d) xs)

-- 0 to 9
unfoldable pub decimal_digit : ℕ → Option ℕ
decimal_digit x = elim (leb 48 x && leb x 57) [ true ↦ some (x - 48) | false ↦ none ]

-- the bytes of a and f, the letters of hexadecimal digits, and how far above their value they stand
abbrev pub hex_first : ℕ
hex_first = 97

abbrev pub hex_last : ℕ
hex_last = 102

abbrev pub hex_shift : ℕ
hex_shift = hex_first - 10

-- 0 to 9, a to f
unfoldable pub hex_digit : ℕ → Option ℕ
hex_digit x =
    elim (leb 48 x && leb x 57) [
      | true ↦ some (x - 48)
      | false ↦ elim (leb hex_first x && leb x hex_last) [ true ↦ some (x - hex_shift) | false ↦ none ]
    ]

-- a decimal number without leading zeros, of any length
unfoldable pub decimal : List ℕ → Option ℕ
decimal [] = none
decimal (x ∷ []) = reads decimal_digit 10 0 (x ∷ [])
decimal (x ∷ y ∷ ys) = elim (eqb x 48) [ true ↦ none | false ↦ reads decimal_digit 10 0 (x ∷ y ∷ ys) ]

-- a decimal number of a range
unfoldable pub number_in : Range → List ℕ → Option ℕ
number_in r t =
    and_then (decimal t) (λ n. elim (leb r.first n && leb n r.last) [ true ↦ some n | false ↦ none ])

-- a set of labels (document 01: a share): bit k, worth 2 to the k, stands for label k
unfoldable pub label_set_in : List ℕ → Option ℕ
label_set_in t = elim (eqb (length t) 16) [ true ↦ reads hex_digit 16 0 t | false ↦ none ]

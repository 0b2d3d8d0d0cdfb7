-- What a writer leaves of the rest of a buffer that it was lent, and the texts that are written.
use Rattle.std.specs.Prelude.{◌≡◌, List, [], ◌∷◌, ◌++◌, ℕ, ◌+◌, ◌/◌, ◌%◌, ◌≤◌, length, drop, set}
use Prim.Native.Char.{code}
unfoldable pub use Rattle.request.specs.Text.{bytes}
use Rattle.request.specs.Write.{digits, joined, minutes}
use Rattle.text_write.specs.declared.Shape.{Shape}
use Rattle.text_write.specs.declared.Shape.TheVariants.{One, Single, Pair, At, Superset, Triple}

-- the text stands at the front, "Bytes past the written text stay", and the answer is "the number of bytes it wrote"
pub record Put (rest text rest' : List ℕ) (r : ℕ) : Type 0 where
  pub wrote : r ≡ length text
  pub long : length rest' ≡ length rest
  pub stays : rest' ≡ text ++ drop (length text) rest

-- there is room for the text
abbrev pub Room : List ℕ → List ℕ → Type 0
Room rest text = length text ≤ length rest

-- the length of a text, which is never more than `most`
pub record Measured (text : List ℕ) (most r : ℕ) : Type 0 where
  pub exact : r ≡ length text
  pub small : r ≤ most

-- the two digits of a number below 100, put at a place
abbrev pub put_two : List ℕ → ℕ → ℕ → List ℕ
put_two o at n = set (set o at (48 + n / 10)) (at + 1) (48 + n % 10)

-- fields parted by commas, and the byte that ends the last
unfoldable pub ended : ℕ → List (List ℕ) → List ℕ
ended stop fs = joined fs ++ (stop ∷ [])

-- the numbers of the first line
abbrev pub counts : ℕ → ℕ → ℕ → List (List ℕ)
counts next lines live = digits next ∷ digits lines ∷ digits live ∷ []

-- the fields of a formula line, by what stands after its letter
abbrev pub shape_fields : Shape → List (List ℕ)
shape_fields One = (code "o" ∷ []) ∷ []
shape_fields (Single x i) = (x ∷ []) ∷ digits i ∷ []
shape_fields (Pair x i j) = (x ∷ []) ∷ digits i ∷ digits j ∷ []
shape_fields (At i w) = (code "h" ∷ []) ∷ digits i ∷ minutes w
shape_fields (Superset v w) = (code "g" ∷ []) ∷ minutes v ++ minutes w
shape_fields (Triple i j k) = (code "n" ∷ []) ∷ digits i ∷ digits j ∷ digits k ∷ []

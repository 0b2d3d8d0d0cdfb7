-- The lines of bytes, one at a time: a request is its first line and what the bytes after it say.
use mathlib.Core.Path.{◌≡◌, refl, sym, ◌∙◌}
use mathlib.Core.List.{List, [], ◌∷◌}
use mathlib.Core.Option.{Option, none, some}
use Prim.Native.Nat.{ℕ}
use lib.Dec.{eqb}
use Rattle.request.specs.Text.{and_then, fields, lines, push_line}
use Rattle.request.specs.Reader.{Reader, return, ◌>>=◌, next, ended, whole, line}
use Rattle.request.specs.Read.{first_line, rest, request_lines, request_of, request_with}
use Rattle.read_formulas.specs.Line.{split, read_line}
use Rattle.read_fields.proofs.Then.{then_then, then_same, then_none, then_swap, by_test}
use Rattle.read_heads.specs.First.{request_from}

-- the first of the lines
abbrev first_of : List ℕ × List ℕ → Option (List (List ℕ))
first_of p = and_then (lines p.1) (λ ls. some (p.0 ∷ ls))

-- a byte before the first line, where that is not empty
abbrev pushed : ℕ → List ℕ × List ℕ → Option (List (List ℕ))
pushed x p = and_then (lines p.1) (λ ls. some ((x ∷ p.0) ∷ ls))

lines_of : (x : ℕ) (xs : List ℕ) → and_then (lines xs) (push_line x) ≡ and_then (split xs) (pushed x)
    → lines (x ∷ xs) ≡ and_then (split (x ∷ xs)) first_of
unfolding lines split and_then
lines_of x xs h = by_test (eqb x 10)
    (λ e. then_same (lines xs) {g = λ ls. some ([] ∷ ls)} (λ ls. rw e) ∙ sym (rw (split, e, and_then)))
    (λ e. then_same (lines xs) {g = push_line x} (λ ls. rw e) ∙ h ∙ sym (rw (split, e) (then_then (split xs) _ _)))

lines_first : (x : ℕ) (xs : List ℕ) → lines (x ∷ xs) ≡ and_then (split (x ∷ xs)) first_of
unfolding lines split and_then push_line
lines_first x [] = lines_of x [] refl
lines_first x (y ∷ ys) =
    lines_of x (y ∷ ys) (rw (lines_first y ys) (then_then (split (y ∷ ys)) first_of (push_line x)
    ∙ then_same (split (y ∷ ys)) (λ p. then_then (lines p.1) _ (push_line x))))

module _ {A B : Type 0} (r : Reader A) (k : A → Reader B) where
  whole_line : (l : List ℕ) (ls : List (List ℕ))
      → whole (line r >>= k) (l ∷ ls) ≡ and_then (whole r (fields l)) (λ a. whole (k a) ls)
  unfolding line next ◌>>=◌ whole and_then
  whole_line l ls = then_then (line r (l ∷ ls)) _ _ ∙ then_then (whole r (fields l)) _ _

  -- a line, and what the bytes after it say
  pub lines_then : (b : List ℕ)
      → and_then (lines b) (whole (line r >>= k))
      ≡ and_then (read_line r b) (λ p. and_then (lines p.1) (whole (k p.0)))
  unfolding read_line lines split line next ◌>>=◌ whole and_then
  lines_then [] = refl
  lines_then (x ∷ xs) =
      rw (lines_first x xs) (then_then (split (x ∷ xs)) first_of _
      ∙ then_same (split (x ∷ xs)) (λ p. then_then (lines p.1) _ _
      ∙ then_same (lines p.1) (λ ls. whole_line p.0 ls)
      ∙ then_swap (lines p.1) (whole r (fields p.0)) (λ ls a. whole (k a) ls)
      ∙ sym (then_then (whole r (fields p.0)) _ _))
      ∙ sym (then_then (split (x ∷ xs)) _ _))

-- lines where none is wanted
pub lines_several : {A : Type 0} (r : A) (x : ℕ) (xs : List ℕ) → and_then (lines (x ∷ xs)) (whole (return r)) ≡ none
unfolding whole return ended and_then
lines_several r x xs =
    rw (lines_first x xs) (then_then (split (x ∷ xs)) first_of _
    ∙ then_none (split (x ∷ xs)) (λ p. then_then (lines p.1) _ _ ∙ then_none (lines p.1) (λ ls. refl)))

pub request_first : (b : List ℕ) → request_of b ≡ request_from (read_line first_line b)
unfolding request_with request_lines request_from
request_first b = lines_then first_line rest b

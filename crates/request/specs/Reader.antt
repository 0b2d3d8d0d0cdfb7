-- Readers: they read from a list of texts, the fields of a line or the lines of a request, in fixed order.
use Rattle.std.specs.Prelude.{ℕ, zero, suc, List, [], ◌∷◌, true, false}
use Prim.Native.String.{String}
use Rattle.std.proofs.Math.Option.{Option, none, some}
use Rattle.request.specs.Text.{bytes, same_bytes, and_then, fields}

-- what was read and the texts that are left, or none
abbrev pub Reader : Type 0 → Type 0
Reader A = List (List ℕ) → Option (A × List (List ℕ))

unfoldable pub return : {A : Type 0} → A → Reader A
return a ts = some (a, ts)

infixl 10 ◌>>=◌
unfoldable pub ◌>>=◌ : {A B : Type 0} → Reader A → (A → Reader B) → Reader B
◌>>=◌ r k ts = and_then (r ts) (λ x. k x.0 x.1)

-- the next text, as `read` reads it
unfoldable pub next : {A : Type 0} → (List ℕ → Option A) → Reader A
next read [] = none
next read (t ∷ ts) = and_then (read t) (λ a. some (a, ts))

-- the same n times
unfoldable pub many : {A : Type 0} → ℕ → Reader A → Reader (List A)
many zero r = return []
many (suc n) r = do
  a ← r
  more ← many n r
  return (a ∷ more)

-- the reader that a table has for the next text
unfoldable pub named : {A : Type 0} → List (String × Reader A) → List ℕ → Reader A
named [] t = λ ts. none
named (e ∷ es) t = elim (same_bytes t (bytes e.0)) [ true ↦ e.1 | false ↦ named es t ]

unfoldable pub choose : {A : Type 0} → List (String × Reader A) → Reader A
choose table [] = none
choose table (t ∷ ts) = named table t ts

-- what was read, if no text is left
unfoldable pub ended : {A : Type 0} → A → List (List ℕ) → Option A
ended a [] = some a
ended a (t ∷ ts) = none

-- all texts, and no more
unfoldable pub whole : {A : Type 0} → Reader A → List (List ℕ) → Option A
whole r ts = and_then (r ts) (λ x. ended x.0 x.1)

-- the next line, whose fields r reads, all of them
unfoldable pub line : {A : Type 0} → Reader A → Reader A
line r = next (λ l. whole r (fields l))

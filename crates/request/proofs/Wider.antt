-- What a reader reads, one that reads more fields reads too: sheets in use where a range of numbers grows.
use mathlib.Core.Path.{◌≡◌, refl}
use mathlib.Core.List.{List, [], ◌∷◌}
use mathlib.Core.Option.{Option, none, some}
use mathlib.Core.Bool.{Bool, true, false}
use Prim.Native.Nat.{ℕ}
use Prim.Native.String.{String}
use native.Mathlib.Omega.{arith}
use Rattle.request.specs.Range.{Range, session}
use Rattle.request.specs.Text.{bytes, same_bytes, and_then, fields, lines}
use Rattle.request.specs.Reader.{Reader, ◌>>=◌, next, named, choose, whole, line}
use Rattle.request.specs.Read.{number, formula_line_with, first_line_with, request_lines, request_with}
use Rattle.request.specs.Statements.{session_before, SheetsAsBefore}
use Rattle.request.proofs.Readers.{Texts}
use Rattle.request.proofs.Digits.{number_wider}

-- whatever the one gives, the other gives
abbrev Also : {A : Type 0} → Option A → Option A → Type 0
Also {A} o p = (a : A) → o ≡ some a → p ≡ some a

-- whatever the one reads, the other reads, and leaves the same
abbrev Wide : {A : Type 0} → Reader A → Reader A → Type 0
Wide r s = (ts : Texts) → Also (r ts) (s ts)

wide_same : {A : Type 0} (r : Reader A) → Wide r r
wide_same r ts a e = e

also_then : {A B : Type 0} (o : Option A) {p : Option A} {j k : A → Option B} → Also o p
    → ((a : A) → Also (j a) (k a)) → Also (and_then o j) (and_then p k)
unfolding and_then
also_then none h f b e = absurd (let z : ◌≡◌ {A = ℕ} 0 1 = cc in omega arith)
also_then (some a) h f b e = rw (h a refl, and_then) (f a b e)

wide_next : {A : Type 0} {f g : List ℕ → Option A} → ((t : List ℕ) → Also (f t) (g t)) → Wide (next f) (next g)
unfolding next
wide_next h [] a e = e
wide_next {f} h (t ∷ ts) a e = also_then (f t) (h t) (λ x b q. q) a e

wide_then : {A B : Type 0} {r s : Reader A} {j k : A → Reader B} → Wide r s → ((a : A) → Wide (j a) (k a))
    → Wide (r >>= j) (s >>= k)
unfolding ◌>>=◌
wide_then {r} h f ts b e = also_then (r ts) (h ts) (λ x. f x.0 x.1) b e

-- tables of the same words; `row` is of a word that reads more
data Tables {A : Type 0} : List (String × Reader A) → List (String × Reader A) → Type 0 where
  same : {es : List (String × Reader A)} → Tables es es
  row : {t : String} {r s : Reader A} {es fs : List (String × Reader A)} → Wide r s → Tables es fs
      → Tables ((t, r) ∷ es) ((t, s) ∷ fs)

wide_named : {A : Type 0} {es fs : List (String × Reader A)} → Tables es fs → (t : List ℕ)
    → Wide (named es t) (named fs t)
unfolding named
wide_named same t = wide_same _
wide_named {A} (row {t = u} {r = r} {s = s} {es = es} {fs = fs} w h) t =
    go (same_bytes t (bytes u)) (wide_named h t)
  where
    go : (b : Bool) → Wide (named es t) (named fs t)
        → Wide {A = A} (elim b as (λ z. Reader A) [ true ↦ r | false ↦ named es t ])
        (elim b as (λ z. Reader A) [ true ↦ s | false ↦ named fs t ])
    go true k = w
    go false k = k

wide_choose : {A : Type 0} {es fs : List (String × Reader A)} → Tables es fs → Wide (choose es) (choose fs)
unfolding choose
wide_choose h [] a q = q
wide_choose h (t ∷ ts) a q = wide_named h t ts a q

also_whole : {A : Type 0} {r s : Reader A} → Wide r s → (ts : Texts) → Also (whole r ts) (whole s ts)
unfolding whole
also_whole {r} h ts = also_then (r ts) (h ts) (λ x b q. q)

wide_line : {A : Type 0} {r s : Reader A} → Wide r s → Wide (line r) (line s)
unfolding line
wide_line h = wide_next (λ t. also_whole h (fields t))

-- The reader of requests, where the range of sessions is wider

module _ (before after : Range) (wide : Wide (number before) (number after)) where
  formula_line_wide : Wide (formula_line_with before) (formula_line_with after)
  unfolding formula_line_with
  formula_line_wide =
      wide_choose (row (wide_then (wide_same _) (λ p. wide_then wide (λ s. wide_same _)))
      (row (wide_same _) (row (wide_same _) (row (wide_same _) (row (wide_same _) (row (wide_same _)
      (row (wide_same _) (row (wide_same _) (row (wide_same _) (row (wide_same _) (row (wide_same _)
      (row (wide_then (wide_same _) (λ p. wide_then wide (λ s. wide_same _))) same))))))))))))

  first_line_wide : Wide (first_line_with before) (first_line_with after)
  unfolding first_line_with
  first_line_wide =
      wide_choose (row (wide_then formula_line_wide (λ l. wide_same _))
      (row (wide_same _) (row (wide_same _) (row (wide_same _) (row (wide_then wide (λ s. wide_same _)) same)))))

  request_wide : (b : List ℕ) → Also (request_with before b) (request_with after b)
  unfolding request_with request_lines
  request_wide b =
      also_then (lines b) (λ ls e. e)
      (λ ls. also_whole (wide_then (wide_line first_line_wide) (λ h. wide_same _)) ls)

pub sheets_as_before : SheetsAsBefore
unfolding number
sheets_as_before =
    request_wide session_before session
    (wide_next (number_wider session_before session (omega arith) (omega arith)))

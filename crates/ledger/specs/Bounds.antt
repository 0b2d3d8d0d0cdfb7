-- What holds of every ledger that calls gave: "a contract may ask of its till what holds of all such". The store's
-- invariant rests on it.
use Rattle.std.specs.Prelude.{◌≡◌, List, [], ◌∷◌, ℕ, ◌+◌, ◌≤◌, ◌<◌, length, get_or}
use Rattle.logic.specs.Formula.{size}
use Rattle.logic.specs.Multiset.{Every}
use Rattle.request.specs.Range.{serial}
use Rattle.request.specs.Request.{Line}
use Rattle.ledger.specs.declared.Credential.{Credential}
use Rattle.ledger.specs.Table.{form, names}
use Rattle.ledger.specs.Ledger.{Ledger, empty, formula}
use Rattle.ledger.specs.Checks.{max_size, max_formulas, max_live}
use Rattle.ledger.specs.Calls.{after}

-- The table of formulas

abbrev pub line_at : Ledger → ℕ → Line
line_at t n = get_or t.lines n Line.one

-- the numbers name formulas of the ledger
abbrev pub There : Ledger → List ℕ → Type 0
There t = Every (λ k. k < length t.lines)

-- "A wording refers to earlier wordings i, j by number": each formula is what its line says of the formulas that it
-- names, and these are there.
pub record Tabled (t : Ledger) : Type 0 where
  pub reads : (n : ℕ) → formula t n ≡ form (formula t) (line_at t n)
  pub refs : (n : ℕ) → There t (names (line_at t n))

-- The live credentials

-- Serials are "never given again": the live credentials stand in the order of their serials, no two alike, all above lo
abbrev pub Rises : ℕ → List Credential → Type 0
Rises lo [] = Unit {0}
Rises lo (c ∷ cs) = (lo < c.serial) × Rises c.serial cs

-- and below n
abbrev pub Below : ℕ → List Credential → Type 0
Below n = Every (λ c. c.serial < n)

pub record Bounded (t : Ledger) : Type 0 where
  pub tabled : Tabled t
  -- live serials have been given: they are below the next
  pub rises : Rises 0 t.live
  pub below : Below t.next t.live
  -- "holds at most 200"; "Up to 2,048 live coupons"
  pub lines : length t.lines ≤ max_formulas
  pub live : length t.live ≤ max_live
  -- "serial 1 to 999,999": after the last of them none is given
  pub first : 1 ≤ t.next
  pub last : t.next ≤ serial.last + 1
  -- "Size: .. at most 64"
  pub sizes : (n : ℕ) → size (formula t n) ≤ max_size

-- "A till is what calls give, beginning from the empty one": so of all such
abbrev pub AlwaysBounded : Type 0
AlwaysBounded = (calls : List (List ℕ)) → Bounded (after empty calls)

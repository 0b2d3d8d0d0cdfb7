-- The formula line of a row that was read.
use mathlib.Core.Path.{◌≡◌, refl, ap}
use mathlib.Core.List.{List}
use mathlib.Core.Option.{Option, none, some}
use Prim.Native.Nat.{ℕ}
use native.Mathlib.Omega.{arith}
use Rattle.request.specs.Text.{and_then}
use Rattle.request.specs.Request.{Line}
use Rattle.steps.specs.declared.Row.{Row}
use Rattle.ledger.specs.Table.{row_of}
use Rattle.read_formulas.specs.Line.{rowed}

-- the line of a row
pub record Rowed (o : Option (Line × List ℕ)) (x : Row) (c : List ℕ) : Type 0 where
  pub line : Line
  pub is : o ≡ some (line, c)
  pub row : row_of line ≡ x

pub row_line : (o : Option (Line × List ℕ)) {x : Row} {c : List ℕ} → rowed o ≡ some (x, c) → Rowed o x c
unfolding rowed and_then
row_line none e = let z : ◌≡◌ {A = ℕ} 0 1 = cc in absurd (omega arith)
row_line (some p) {x} {c} e =
    let q : ◌≡◌ {A = Row × List ℕ} (row_of p.0, p.1) (x, c) = cc in
    record { line = p.0; is = ap (λ (z : Row × List ℕ). some (p.0, z.1)) q; row = ap (λ (z : Row × List ℕ). z.0) q }

pub row_none : (o : Option (Line × List ℕ)) → rowed o ≡ none → o ≡ none
unfolding rowed and_then
row_none none e = refl
row_none (some p) e = cc

-- Sets of formulas, as numbers: bit j of number w stands for formula set_lines * w + j. What the formulas of a set
-- give.
use Rattle.std.specs.Prelude.{◌≡◌, true, ℕ, ◌+◌, ◌*◌, ◌<◌}
use Rattle.ledger.specs.Ledger.{Ledger}
use Rattle.ledger.specs.Calls.{only}
use Rattle.labels.specs.Labels.{member}
use Rattle.store_cells.specs.Layout.{set_lines, set_width}
use Rattle.formula_tally.specs.declared.Sums.{Sums}
use Rattle.formula_tally.specs.ByFormula.{sum_to, open_at, seats_at, places_at}

-- the sum of f over the bits of d; over those of bits 0, .., bits (set_width - 1)
unfoldable pub over_set : ℕ → (ℕ → ℕ) → ℕ
over_set d f = sum_to set_lines (λ j. only (member d j) (f j))

abbrev pub over_sets : (ℕ → ℕ) → (ℕ → ℕ) → ℕ
over_sets bits f = sum_to set_width (λ w. over_set (bits w) (λ j. f (set_lines * w + j)))

-- where bit j stands for formula base + j, there are n formulas, and no bit stands for another
abbrev pub Named : ℕ → ℕ → ℕ → Type 0
Named n base d = (j : ℕ) → j < set_lines → member d j ≡ true → base + j < n

-- what the formulas of a set give
pub record SetAdded (t : Ledger) (s m base d : ℕ) (r : Sums) : Type 0 where
  pub opens : r.«open» ≡ over_set d (λ j. open_at t s m (base + j))
  pub seats : r.seats ≡ over_set d (λ j. seats_at t s m (base + j))
  pub places : r.places ≡ over_set d (λ j. places_at t s m (base + j))

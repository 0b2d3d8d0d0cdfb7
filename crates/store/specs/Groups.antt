-- Document 02, ask 9: "The panel asks for every session after each booking." So that a tally looks at the wordings of
-- its session alone, each group of sessions has a set of lines (store_cells/specs/Layout). What the sets have:
use Rattle.std.specs.Prelude.{◌≡◌, List, false, ℕ, ◌+◌, ◌*◌, ◌/◌, ◌%◌, ◌≤◌, ◌<◌}
use Rattle.labels.specs.Labels.{member, ◌∋◌}
use Rattle.store_cells.specs.Layout.{groups, set_lines, set_width, group_at, filled_at, line_count, low_at, high_at}

-- line n is in the set of session s
abbrev pub Near : List ℕ → ℕ → ℕ → Type 0
Near l s n = group_at l (s % groups) (n / set_lines) ∋ n % set_lines

-- bit w of a group's last number is set where number w of its set is not 0
pub record Filled (l : List ℕ) : Type 0 where
  pub numbers : (g w : ℕ) → g < groups → filled_at l g ∋ w → w < set_width
  pub others : (g w : ℕ) → g < groups → w < set_width → member (filled_at l g) w ≡ false → group_at l g w ≡ 0

-- only lines are in sets, and each line between whose two numbers a session is stands in the session's
pub record Grouped (l : List ℕ) : Type 0 where
  pub within : (g w j : ℕ) → g < groups → w < set_width → j < set_lines → group_at l g w ∋ j
      → w * set_lines + j < line_count l
  pub near : (n s : ℕ) → n < line_count l → low_at l n ≤ s → s ≤ high_at l n → Near l s n
  pub filled : Filled l

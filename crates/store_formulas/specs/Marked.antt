-- Line n joins the sets of the groups that the sessions from low to high are of: m is the store after it, l before.
use Rattle.std.specs.Prelude.{◌≡◌, List, ℕ, ◌+◌, ◌*◌, ◌≤◌, ◌<◌, length, get_or}
use Rattle.labels.specs.Labels.{member}
use Rattle.store_cells.specs.Layout.{cells, group_base, groups, set_lines, set_width, credential_base, group_at}
use Rattle.store.specs.Groups.{Near, Filled}

-- all that is not a set stays, and so does every other line in the sets
pub record OnlyLine (l m : List ℕ) (n : ℕ) : Type 0 where
  pub long : length m ≡ cells
  pub below : (k : ℕ) → k < group_base → get_or m k 0 ≡ get_or l k 0
  pub above : (k : ℕ) → credential_base ≤ k → get_or m k 0 ≡ get_or l k 0
  pub others : (g w j : ℕ) → g < groups → w < set_width → j < set_lines → (w * set_lines + j ≡ n → ⊥)
      → member (group_at m g w) j ≡ member (group_at l g w) j
  pub filled : Filled l → Filled m

pub record Marked (l m : List ℕ) (n low high : ℕ) : Type 0 where
  pub only : OnlyLine l m n
  pub near : (s : ℕ) → low ≤ s → s ≤ high → Near m s n

-- the sessions from low to before k are done
pub record MarkedTo (l m : List ℕ) (n low k : ℕ) : Type 0 where
  pub only : OnlyLine l m n
  pub near : (s : ℕ) → low ≤ s → s < k → Near m s n

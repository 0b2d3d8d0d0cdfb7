-- What is kept of a sheet that has begun.
use Rattle.std.specs.Prelude.{◌≡◌, List, ◌++◌, ℕ, ◌≤◌, length, take}
use Rattle.stream_sheets.specs.Sheets.{most}

-- the bytes x after the first h of k, `most` of them at most
pub record Kept (k : List ℕ) (h : ℕ) (x k' : List ℕ) (h' : ℕ) : Type 0 where
  pub long : length k' ≡ most
  pub few : h' ≤ most
  pub bytes : take h' k' ≡ take most (take h k ++ x)

-- Document 02, ask 5, of the running code: closing and opening from C, after any calls.
use Rattle.std.specs.Prelude.{◌≡◌, List, [], ◌∷◌, ℕ, ◌≤◌, length, take}
use Rattle.ledger.specs.Ledger.{Ledger}
use Rattle.ledger.specs.Calls.{after}
use Rattle.snapshot.specs.Snapshot.{text}
use Rattle.entry.specs.Played.{Played, Made}
use Rattle.entry.specs.Saved.{Closed, Reopened}

-- "Reading a written text gives the till": t was closed with the numbers n, and what was written opened with n'
pub record Restored (t : Ledger) (n n' l' : List ℕ) : Type 0 where
  pub written : n ≡ 1 ∷ length (text t) ∷ 0 ∷ 0 ∷ []
  pub alike : n' ≡ n
  pub made : Made l' t

-- After any calls on a block that was made, closing into a buffer with room for it tells how long the text is; opening
-- these bytes, in whatever block, is told alike and makes that block the till that was closed, from which calls begin.
abbrev pub SavedOpens : Type 0
SavedOpens =
    (start : Ledger) (l l₁ o n o' m n' m' : List ℕ) (bs ns : List (List ℕ)) → Made l start → Played l bs ns l₁
    → Closed l₁ o n o' → length (text (after start bs)) ≤ length o
    → Reopened m (take (length (text (after start bs))) o') n' m' → Restored (after start bs) n n' m'

-- "every text that is read is the one which that till writes": where b is opened, in whatever block, closing that block
-- into a buffer with room for it is told alike and writes b.
pub record WrittenAgain (b n n' o' : List ℕ) : Type 0 where
  pub told : n ≡ 1 ∷ length b ∷ 0 ∷ 0 ∷ []
  pub alike : n' ≡ n
  pub written : take (length b) o' ≡ b

abbrev pub OpenedSaves : Type 0
OpenedSaves =
    (l b n l' o n' o' : List ℕ) (count : ℕ) → Reopened l b n l' → n ≡ 1 ∷ count ∷ 0 ∷ 0 ∷ [] → Closed l' o n' o'
    → length b ≤ length o → WrittenAgain b n n' o'

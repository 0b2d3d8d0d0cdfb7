-- What a call from C leaves.
use Rattle.std.specs.Prelude.{◌≡◌, List, [], ◌∷◌, ◌++◌, ℕ, length, take}
use Rattle.ledger.specs.Calls.{Told, ok, call, told_of}
use Rattle.store.specs.Store.{ledger_of, Good}

-- What is told, in four numbers: how many values, or 0 for a refusal; then the values, or refusal and step.
abbrev pub numbers : Told → List ℕ
numbers (ok ns) = length ns ∷ take 3 (ns ++ (0 ∷ 0 ∷ 0 ∷ []))
numbers (Told.no n k) = 0 ∷ n ∷ k ∷ 0 ∷ []

-- l, l': the till's block before and after; b: the sheet; n: the numbers of the answer
pub record Entered (l b n l' : List ℕ) : Type 0 where
  pub good : Good l'
  pub answer : n ≡ numbers (told_of (ledger_of l) b)
  pub ledger : ledger_of l' ≡ (call (ledger_of l) b).ledger
  pub same : (f k : ℕ) → told_of (ledger_of l) b ≡ Told.no f k → l' ≡ l

-- A list made from a count and a function from the index, and what is there of a list.
use Rattle.std.specs.Prelude.{List, [], ◌∷◌, ℕ, zero, suc}
use Rattle.std.proofs.Math.Option.{Option}
use Rattle.ledger.specs.Ledger.{cons_some}

module _ {A : Type 0} where
  -- f 0, f 1, .. f (n - 1)
  unfoldable pub tab : ℕ → (ℕ → A) → List A
  tab zero f = []
  tab (suc n) f = f zero ∷ tab n (λ k. f (suc k))

  -- those that are there, in order
  unfoldable pub present : List (Option A) → List A
  present [] = []
  present (o ∷ os) = cons_some o (present os)

-- Looking through rows in order, where a row is given by its index: what is found.
use mathlib.Core.Path.{◌≡◌, refl, ◌∙◌}
use mathlib.Core.List.{List}
use mathlib.Core.Option.{Option, none, some}
use mathlib.Core.Bool.{Bool, true, false}
use Prim.Native.Nat.{ℕ, zero, suc, ◌<◌}
use native.Mathlib.Omega.{arith}
use native.Mathlib.Nat.{le_of_suc-le-suc, not-suc-le-zero}
use borrow.Author.Tests.{eq-eqb, ne_eqb}
use Rattle.ledger.specs.declared.Credential.{Credential}
use Rattle.logic.specs.Choice.{pick}
use Rattle.ledger.specs.Ledger.{cons_some, find}
use Rattle.store.specs.Tab.{tab, present}

-- A row is what stands there, and whether it is a gap.
abbrev pub entry : (ℕ → Credential) → (ℕ → Bool) → ℕ → Option Credential
entry f g k = pick (g k) none (some (f k))

-- of the first n rows, gaps too, only row i has the serial
pub record Only (f : ℕ → Credential) (s n i : ℕ) : Type 0 where
  pub here : (f i).serial ≡ s
  pub apart : (k : ℕ) → k < n → (k ≡ i → ⊥) → (f k).serial ≡ s → ⊥

pub only_later : (f : ℕ → Credential) (s n i : ℕ) → Only f s (suc n) (suc i) → Only (λ k. f (suc k)) s n i
only_later f s n i o = record { here = o.here; apart = λ k q h. o.apart (suc k) (omega arith) (omega arith) }

-- a first row of another serial is passed
find_pass : (b : Bool) (c : Credential) (cs : List Credential) (s : ℕ) → (c.serial ≡ s → ⊥)
    → find (cons_some (pick b none (some c)) cs) s ≡ find cs s
unfolding find
find_pass true c cs s h = refl
find_pass false c cs s h = rw (ne_eqb c.serial s h, find)

module _ (s : ℕ) where
  pub find_none : (n : ℕ) (f : ℕ → Credential) (g : ℕ → Bool) → ((k : ℕ) → k < n → (f k).serial ≡ s → ⊥)
      → find (present (tab n (entry f g))) s ≡ none
  unfolding tab present find
  find_none zero f g h = refl
  find_none (suc n) f g h =
      find_pass (g zero) (f zero) _ s (h zero (omega arith))
      ∙ find_none n (λ k. f (suc k)) (λ k. g (suc k)) (λ k q. h (suc k) (omega arith))

  -- the one of its serial is found, unless it has left
  pub find_row : (n : ℕ) (f : ℕ → Credential) (g : ℕ → Bool) (i : ℕ) → i < n → Only f s n i
      → find (present (tab n (entry f g))) s ≡ entry f g i
  unfolding tab present find
  find_row zero f g i q o = absurd (not-suc-le-zero q)
  find_row (suc n) f g zero q o =
      go (g zero) (find_none n (λ k. f (suc k)) (λ k. g (suc k)) (λ k q. o.apart (suc k) (omega arith) (omega arith)))
    where
      go : (b : Bool) → find (present (tab n (entry (λ k. f (suc k)) (λ k. g (suc k))))) s ≡ none
          → find (cons_some (pick b none (some (f zero))) (present (tab n (entry (λ k. f (suc k)) (λ k. g (suc k)))))) s
          ≡ pick b none (some (f zero))
      go true e = e
      go false e = rw (eq-eqb (f zero).serial s o.here, find)
  find_row (suc n) f g (suc i) q o =
      find_pass (g zero) (f zero) _ s (o.apart zero (omega arith) (omega arith))
      ∙ find_row n (λ k. f (suc k)) (λ k. g (suc k)) i (le_of_suc-le-suc q) (only_later f s n i o)

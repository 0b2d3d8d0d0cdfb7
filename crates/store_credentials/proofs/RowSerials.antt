-- Rows by their serials: what is left without the one of a serial, and which serial is above which.
use mathlib.Core.Path.{◌≡◌, refl, ap}
use mathlib.Core.List.{List, ◌∷◌}
use mathlib.Core.Option.{Option, none, some}
use mathlib.Core.Bool.{Bool, true, false}
use Prim.Native.Nat.{ℕ, zero, suc, ◌<◌}
use native.Mathlib.Omega.{arith}
use native.Mathlib.Nat.{le_of_suc-le-suc, not-suc-le-zero}
use borrow.Author.Tests.{eq-eqb, ne_eqb}
use Rattle.ledger.specs.declared.Credential.{Credential}
use Rattle.logic.specs.Choice.{pick}
use Rattle.ledger.specs.Ledger.{cons_some, without_serial}
use Rattle.ledger.specs.Bounds.{Rises}
use Rattle.store.specs.Tab.{tab, present}
use Rattle.store.proofs.Tabs.{tab_ext}
use Rattle.store.proofs.Search.{entry, Only, only_later}

-- a first row of another serial stays
without_pass : (b : Bool) (c : Credential) (cs : List Credential) (s : ℕ) → (c.serial ≡ s → ⊥)
    → without_serial (cons_some (pick b none (some c)) cs) s ≡ cons_some (pick b none (some c)) (without_serial cs s)
unfolding without_serial
without_pass true c cs s h = refl
without_pass false c cs s h = rw (ne_eqb c.serial s h, without_serial)

module _ (s : ℕ) where
  -- the one at i is the one taken out
  pub without_row : (n : ℕ) (f : ℕ → Credential) (g : ℕ → Bool) (e : ℕ → Option Credential) (i : ℕ) → i < n
      → Only f s n i → entry f g i ≡ some (f i) → e i ≡ none → ((k : ℕ) → (k ≡ i → ⊥) → e k ≡ entry f g k)
      → present (tab n e) ≡ without_serial (present (tab n (entry f g))) s
  unfolding tab present without_serial
  without_row zero f g e i q o a b h = absurd (not-suc-le-zero q)
  without_row (suc n) f g e zero q o a b h =
      rw (a, b, tab_ext n (λ k. e (suc k)) (entry (λ k. f (suc k)) (λ k. g (suc k))) (λ k q. h (suc k) (omega arith)))
      (taken (f zero) _ o.here)
    where
      taken : (c : Credential) (cs : List Credential) → c.serial ≡ s → cs ≡ without_serial (c ∷ cs) s
      taken c cs e = rw (eq-eqb c.serial s e, without_serial)
  without_row (suc n) f g e (suc i) q o a b h =
      rw (
        h zero (omega arith),
        without_pass (g zero) (f zero) (present (tab n (entry (λ k. f (suc k)) (λ k. g (suc k))))) s
            (o.apart zero (omega arith) (omega arith)),
      )
      (ap (cons_some (pick (g zero) none (some (f zero))))
      (without_row n (λ k. f (suc k)) (λ k. g (suc k)) (λ k. e (suc k)) i (le_of_suc-le-suc q)
      (only_later f s n i o) a b (λ k d. h (suc k) (omega arith))))

-- Where serials rise, a later one is above an earlier one.
rises_above : (lo n : ℕ) (f : ℕ → Credential) (i : ℕ) → Rises lo (tab n f) → i < n → lo < (f i).serial
unfolding tab
rises_above lo zero f i r q = absurd (not-suc-le-zero q)
rises_above lo (suc n) f zero r q = r.0
rises_above lo (suc n) f (suc i) r q =
    omega (arith, r.0, rises_above (f zero).serial n (λ k. f (suc k)) i r.1 (le_of_suc-le-suc q))

pub rises_between : (lo n : ℕ) (f : ℕ → Credential) (i j : ℕ) → Rises lo (tab n f) → i < j → j < n
    → (f i).serial < (f j).serial
unfolding tab
rises_between lo zero f i j r h q = absurd (not-suc-le-zero q)
rises_between lo (suc n) f i zero r h q = absurd (omega arith)
rises_between lo (suc n) f zero (suc j) r h q =
    rises_above (f zero).serial n (λ k. f (suc k)) j r.1 (le_of_suc-le-suc q)
rises_between lo (suc n) f (suc i) (suc j) r h q =
    rises_between (f zero).serial n (λ k. f (suc k)) i j r.1 (le_of_suc-le-suc h) (le_of_suc-le-suc q)

-- A search by halves: what is left after each look.
use mathlib.Core.Path.{◌≡◌}
use mathlib.Core.List.{List}
use Prim.Native.Nat.{ℕ, ◌+◌, ◌≤◌, ◌<◌}
use native.Mathlib.Omega.{arith}
use native.Mathlib.Decide.{dec_lt}
use Rattle.store_cells.specs.Layout.{row_count, credential_at}
use Rattle.store.specs.Store.{Good}

module _ (l : List ℕ) where
  -- A search by halves: serials before row `low` are smaller, those from `high` on are larger.
  pub record Halving (s low high : ℕ) : Type 0 where
    pub ends : (low ≤ high) × (high ≤ row_count l)
    pub smaller : (k : ℕ) → k < low → (credential_at l k).serial < s
    pub larger : (k : ℕ) → high ≤ k → k < row_count l → s < (credential_at l k).serial

  module _ (g : Good l) (s : ℕ) where
    pub first_half : {n : ℕ} → n ≡ row_count l → Halving s 0 n
    first_half e = record {
      ends = (omega arith, omega arith);
      smaller = λ k h. absurd (omega arith);
      larger = λ k h q. absurd (omega arith);
    }

    module _ {low high : ℕ} (h : Halving s low high) where
      pub upper_half : (i : ℕ) → low ≤ i → i < high → (credential_at l i).serial < s → Halving s (i + 1) high
      upper_half i p q e = record {
        ends = (omega arith, h.ends.1);
        smaller = λ k z. below k z (dec_lt k i);
        larger = h.larger;
      }
        where
          below : (k : ℕ) → k < i + 1 → Dec (k < i) → (credential_at l k).serial < s
          below k z (yes y) = omega (arith, g.ordered.between k i y (omega (arith, h.ends.1)))
          below k z (no y) = let x : k ≡ i = omega arith in rw x e

      pub lower_half : (i : ℕ) → low ≤ i → i < high → s < (credential_at l i).serial → Halving s low i
      lower_half i p q e = record {
        ends = (p, omega (arith, h.ends.1));
        smaller = h.smaller;
        larger = λ k z y. above k z y (dec_lt i k);
      }
        where
          above : (k : ℕ) → i ≤ k → k < row_count l → Dec (i < k) → s < (credential_at l k).serial
          above k z y (yes x) = omega (arith, g.ordered.between i k x y)
          above k z y (no x) = let w : k ≡ i = omega arith in rw w e

      -- nothing is left: no row has the serial
      pub none_left : high ≤ low → (k : ℕ) → k < row_count l → (credential_at l k).serial ≡ s → ⊥
      none_left z k q e = go (dec_lt k low)
        where
          go : Dec (k < low) → ⊥
          go (yes y) = omega (arith, h.smaller k y)
          go (no y) = omega (arith, h.larger k (omega arith) q)

-- Two numbers between which the sessions of a formula's atoms are.
use mathlib.Core.Path.{◌≡◌}
use mathlib.Core.Logic.{◌⊎◌, inl, inr}
use Prim.Native.Nat.{ℕ, ◌<◌, ◌≤◌}
use native.Mathlib.Omega.{arith}
use Rattle.logic.specs.Formula.{Formula}
use Rattle.logic.specs.Span.{Spans}

pub spans_same : {a b : Formula} {u v x y : ℕ} → a ≡ b → u ≡ x → v ≡ y → Spans b x y → Spans a u v
spans_same e f g h = rw (e, f, g) h

-- between numbers further apart
pub wider : (a : Formula) {u v x y : ℕ} → x ≤ u → v ≤ y → Spans a u v → Spans a x y
wider a {u} {v} {x} {y} h k w = λ q s o. w q s (go s o)
  where
    go : (s : ℕ) → (s < x) ⊎ (y < s) → (s < u) ⊎ (v < s)
    go s (inl z) = inl (omega arith)
    go s (inr z) = inr (omega arith)

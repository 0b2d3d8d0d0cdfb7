-- Laws of plans that stand under a test, and of tests for labels.
use mathlib.Core.Path.{◌≡◌, refl, sym, ◌∙◌}
use mathlib.Core.Bool.{Bool, true, false, not}
use Prim.Native.Nat.{ℕ, ◌^◌, ◌≤◌, ◌<◌}
use native.Mathlib.Omega.{arith}
use borrow.Author.Tests.{ne_eqb, not-true, not-false}
use lib.Pow.{pow_mono}
use Rattle.labels.specs.Labels.{member, is_just}
use Rattle.labels.proofs.Sets.{member_below}
use Rattle.steps.specs.declared.Plan.TheVariants.{Refused}
use Rattle.steps.specs.Plans.{when}

pub when_refused : (b : Bool) → when b Refused ≡ Refused
unfolding when
when_refused true = refl
when_refused false = refl

-- a test that a function makes, where the code goes on if it holds
pub holds : {a b : Bool} → a ≡ b → not a ≡ false → b ≡ true
holds {a} e n = sym e ∙ not-false a n

pub fails : {a b : Bool} → a ≡ b → not a ≡ true → b ≡ false
fails {a} e n = sym e ∙ not-true a n

-- no set has a label from 64 on
pub no_member : (d k : ℕ) → d < 2 ^ 64 → 64 ≤ k → member d k ≡ false
no_member d k h l = go (member d k) refl
  where
    go : (b : Bool) → member d k ≡ b → b ≡ false
    go true e = absurd (omega (arith, member_below d 64 k h e))
    go false e = refl

pub not_just : (d k : ℕ) → d < 2 ^ 64 → 64 ≤ k → is_just d k ≡ false
not_just d k h l = ne_eqb d (2 ^ k) (λ e. omega (arith, pow_mono l))

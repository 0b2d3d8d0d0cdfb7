-- A test by its verdict, and what the tests need of numbers.
use mathlib.Core.Path.{◌≡◌, refl, sym, ap, subst, ◌∙◌}
use mathlib.Core.Bool.{Bool, true, false, not}
use Prim.Native.Nat.{ℕ, ◌-◌, ◌≤◌}
use lib.Dec.{leb}
use borrow.Author.Tests.{lt-leb}
use native.Mathlib.Omega.{arith}
use Rattle.logic.specs.Formula.{Formula}
use Rattle.request.specs.declared.Kind.{Kind}
use Rattle.ledger.specs.Checks.{◌if◌, max_live, unissuable, unissuable_number}
use Rattle.ledger.proofs.Answers.{some_none}
use Rattle.ledger.proofs.Firsts.{if_false, if_true}
use Rattle.call_checks.specs.declared.Verdict.{Verdict}
use Rattle.call_checks.specs.declared.Verdict.TheVariants.{Passed, Failed}
use Rattle.call_checks.specs.Verdicts.{checked, Tells}

-- whether a check fails
abbrev pub fails : Verdict → Bool
fails Passed = false
fails Failed = true

-- a test by its verdict
pub by_verdict : {n : ℕ} {v w : Verdict} {b : Bool} → Tells n v b → v ≡ w → b ≡ fails w
unfolding ◌if◌
by_verdict {n} {v} {w} {b} e g = go v b e.check ∙ ap fails g
  where
    go : (v : Verdict) (b : Bool) → checked n v ≡ (n if b) → b ≡ fails v
    go Passed true e = absurd (some_none (sym e))
    go Passed false e = refl
    go Failed true e = refl
    go Failed false e = absurd (some_none e)

-- its check, by the verdict
pub shown : {n : ℕ} {v w : Verdict} {b : Bool} → Tells n v b → v ≡ w → (n if b) ≡ checked n w
shown {n} e g = sym e.check ∙ ap (checked n) g

-- a verdict by its test
pub passing : (n : ℕ) {b : Bool} → b ≡ false → Tells n Passed b
passing n {b} e = record { check = sym (if_false n b e) }

pub failing : (n : ℕ) {b : Bool} → b ≡ true → Tells n Failed b
failing n {b} e = record { check = sym (if_true n b e) }

-- the same test in other words
pub reworded : {n : ℕ} {v : Verdict} {a b : Bool} → Tells n v a → a ≡ b → Tells n v b
reworded {n} {v} h e = subst (Tells n v) e h

-- the check of an issue's formula, by its kind
pub by_kind : {k j : Kind} → k ≡ j → (a : Formula) {v : Verdict} → Tells (unissuable_number j) v (unissuable j a)
    → Tells (unissuable_number k) v (unissuable k a)
by_kind e a {v} h = subst (λ (x : Kind). Tells (unissuable_number x) v (unissuable x a)) (sym e) h

-- no more live than are held
pub room_free : {m n k : ℕ} → m ≡ n → m ≤ k → Tells 22 Passed (leb max_live (n - k))
room_free {m} {n} {k} e l = passing 22 (lt-leb max_live (n - k) (omega arith))

pub not_not : (b : Bool) → not (not b) ≡ b
not_not true = refl
not_not false = refl

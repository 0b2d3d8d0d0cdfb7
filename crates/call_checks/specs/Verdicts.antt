-- What a verdict says.
use Rattle.std.specs.Prelude.{◌≡◌, Bool, ℕ}
use Rattle.std.proofs.Math.Option.{none, some}
use Rattle.ledger.specs.Checks.{Check, ◌if◌}
use Rattle.call_checks.specs.declared.Verdict.{Verdict}
use Rattle.call_checks.specs.declared.Verdict.TheVariants.{Passed, Failed}

-- what a verdict says of the check with number n: it passes, or it fails with that number and no step
abbrev pub checked : ℕ → Verdict → Check
checked n Passed = none
checked n Failed = some (record { number = n; step = 0 })

-- the verdict is that of the check with number n, which fails where b
pub record Tells (n : ℕ) (v : Verdict) (b : Bool) : Type 0 where
  pub check : checked n v ≡ (n if b)

-- `mark` meets its contract: two numbers are read, and put with one bit more.
use mathlib.Core.Path.{◌≡◌, ◌∙◌}
use Prim.Native.Nat.{ℕ, ◌*◌, ◌/◌, ◌%◌, ◌^◌, ◌<◌}
use native.Mathlib.Omega.{arith}
use native.Mathlib.Nat.{one-mul}
use lib.Pow.{shl_exact}
use Rattle.ledger.specs.Checks.{max_formulas}
use Rattle.store_cells.specs.Layout.{set_lines, put_mark}
use borrow.Author.Rules.{rules}
use Rattle.store_cells.proofs.groups.mark.Statement.{statement}
use Rattle.store_cells.proofs.groups.mark.Tie as tie

-- the bit of a line, and of the number that has it
bit_is : (n : ℕ) → n < 32 → 1 * 2 ^ n % 2 ^ 32 ≡ 2 ^ n
bit_is n h = shl_exact 1 n 32 (omega arith) (omega arith) ∙ one-mul (2 ^ n)

returns : tie.Need-returns
unfolding put_mark
returns c =
    let s = c.before.before.before in
    let n = s.args.line in
    rw (
      c.set-2.ensures,
      c.before.set.ensures,
      bit_is (n % set_lines) (omega arith),
      bit_is (n / set_lines) (omega (arith, s.requires.1)),
    )

pub mark_spec : {M : Type 1} → statement M
mark_spec =
    tie.close
    (tie.spec
    (λ c κs. search rules)
    (λ c. search rules)
    (λ c κs. search rules)
    (λ c. search rules)
    (λ c. search rules)
    (λ c. search rules)
    (λ c. search rules)
    (λ c. search rules)
    (λ c. search rules)
    (λ c. search rules)
    (λ c. search rules)
    (λ c. search rules)
    (λ c. search rules)
    (λ c. search rules)
    returns)

-- `said` meets its contract. The numbers fit: a count is no more than a byte.
use mathlib.Core.Bool.{Bool, true, false}
use Prim.Native.Nat.{ℕ, ◌*◌, ◌<◌}
use native.Mathlib.Omega.{arith}
use borrow.Author.Rules.{rules}
use lib.Dec.{eqb}
use Rattle.logic.specs.Formula.{house}
use Rattle.logic.specs.Choice.{pick}
use Rattle.logic.specs.Packed.{byte, under_unit, house_in, under_in}
use Rattle.formula_facts.specs.Gives.{nearest}
use Rattle.formula_facts.proofs.gives.said.Statement.{statement}
use Rattle.formula_facts.proofs.gives.said.Tie as tie

-- no count is more than a byte, of a number of four bytes
low : (k n : ℕ) → n < byte * under_unit → nearest k n < byte
low k n h = go (eqb k house)
  where
    go : (b : Bool) → pick b (under_in n) (house_in n) < byte
    go true = omega arith
    go false = omega arith

pub said_spec : {M : Type 1} → statement M
said_spec =
    tie.close
    (tie.spec
    (λ c κs. search rules)
    (λ c. omega (arith, c.under-house.ensures, low c.args.principal c.args.part (search rules)))
    (λ c. omega (arith, c.under-house.ensures, low c.args.principal c.args.part (search rules)))
    (λ c. omega (arith, c.under-house.ensures)))

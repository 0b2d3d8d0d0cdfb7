-- `only` meets its contract.
use mathlib.Core.Path.{◌∙◌}
use Prim.Native.Nat.{◌^◌}
use native.Mathlib.Omega.{arith}
use native.Mathlib.Nat.{one-mul}
use lib.Pow.{shl_exact}
use borrow.Author.Rules.{rules}
use Rattle.labels.proofs.only.Statement.{statement}
use Rattle.labels.proofs.only.Tie as tie

returns : tie.Need-returns
returns c = shl_exact 1 c.args.k 64 (omega arith) (omega arith) ∙ one-mul (2 ^ c.args.k)

pub only_spec : {M : Type 1} → statement M
only_spec = tie.close (tie.spec (λ c. search rules) returns)

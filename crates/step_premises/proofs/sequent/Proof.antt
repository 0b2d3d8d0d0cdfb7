-- `sequent` meets its contract.
use mathlib.Core.Path.{sym, ap}
use borrow.Author.Rules.{rules}
use Rattle.step_premises.specs.Begin.{sequent}
use Rattle.step_premises.proofs.sequent.Statement.{statement}
use Rattle.step_premises.proofs.sequent.Tie as tie

returns : tie.Need-returns-in-Holds
returns c = ap (sequent _ _) (sym c.in-Holds.is)

returns_2 : tie.Need-returns-in-Affirms
returns_2 c = ap (sequent _ _) (sym c.in-Affirms.is)

pub sequent_spec : {M : Type 1} → statement M
sequent_spec = tie.close (tie.spec (λ c. search rules) (λ c. search rules) returns returns_2)

-- `joined` meets its contract.
use borrow.Author.Rules.{rules}
use borrow.Author.Tests.{ne_eqb}
use Rattle.formula_weights.specs.RowWeights.{joined_weight}
use Rattle.formula_weights.proofs.joined.Statement.{statement}
use Rattle.formula_weights.proofs.joined.Tie as tie

returns : tie.Need-returns-in-116
unfolding joined_weight
returns c = rw c.in-116.is

returns_2 : tie.Need-returns-in-108
unfolding joined_weight
returns_2 c = rw c.in-108.is

returns_3 : tie.Need-returns-in-117
unfolding joined_weight
returns_3 c = rw c.in-117.is

returns_4 : tie.Need-returns-in_default
unfolding joined_weight
returns_4 c =
    let m = c.in_default.in_default-own.rest in
    simp (ne_eqb _ _ m.1, ne_eqb _ _ m.0.1, ne_eqb _ _ m.0.0.1)

pub joined_spec : {M : Type 1} → statement M
joined_spec =
    tie.close
    (tie.spec
    (λ c. search rules)
    (λ c. search rules)
    (λ c. search rules)
    (λ c. search rules)
    (λ c. search rules)
    (λ c. search rules)
    returns
    returns_2
    returns_3
    returns_4)

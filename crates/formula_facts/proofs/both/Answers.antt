-- `both` meets its contract.
use Rattle.std.proofs.Common.{ap₂, ◌+◌, arith}
use Rattle.formula_facts.proofs.Spanned.{given_le}
use Rattle.formula_facts.proofs.both.Goals as goal

-- what two formulas have fits in a number
pub overflow_add-result : goal.overflow_add-result
overflow_add-result c = omega (arith, c.requires, c.given.ensures, c.given-2.ensures, given_le)

pub returns : goal.returns
returns c =
    record {
      lows = (omega arith, omega arith);
      highs = (omega arith, omega arith);
      given = ap₂ ◌+◌ c.given.ensures c.given-2.ensures;
    }

-- `spend_one` meets its contract.
use mathlib.Core.Path.{sym, ◌∙◌}
use Rattle.store_lookup.proofs.Places.{occupied}
use Rattle.call_holds.proofs.Spending.{spent_nothing, spent_linear, spent_unrestricted}
use Rattle.call_holds.proofs.spend_one.Goals as goal

pub linear_at-linear-requires : goal.linear_at-linear-requires
linear_at-linear-requires c = (c.requires, (occupied c.requires c.in-Some.ensures).0)

pub remove-requires : goal.remove-requires
remove-requires c = (c.requires, occupied c.requires c.in-Some.ensures)

pub returns-then-linear : goal.returns-then-linear
returns-then-linear c =
    spent_linear c.requires c.in-Some.ensures (sym c.linear_at-linear.ensures ∙ c.if-linear.true) c.remove.ensures

pub returns-else-linear : goal.returns-else-linear
returns-else-linear c =
    spent_unrestricted c.requires c.in-Some.ensures (sym c.linear_at-linear.ensures ∙ c.if-linear.false)

pub returns-in_default : goal.returns-in_default
returns-in_default c = spent_nothing c.requires c.in_default.ensures

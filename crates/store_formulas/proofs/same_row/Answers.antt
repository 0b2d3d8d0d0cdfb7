-- `same_row` meets its contract: what is left of the definition after each test.
use Rattle.std.proofs.Common.{sym, ◌∙◌}
use borrow.Author.Tests.{eq-eqb, ne_eqb}
use Rattle.store_formulas.proofs.Found.{in_turn}
use Rattle.store_formulas.proofs.same_row.Goals as goal

pub returns-then-x-y : goal.returns-then-x-y
returns-then-x-y c = sym (in_turn _ _ ∙ rw (ne_eqb _ _ c.if-x-y.true))

pub returns-then-same : goal.returns-then-same
returns-then-same c = c.same-then-same.ensures
    ∙ sym (in_turn _ _ ∙ rw (eq-eqb _ _ c.if-x-y.false, c.if-x-y-2.true, sym c.same.ensures ∙ c.if-same.true))

pub returns-else-same : goal.returns-else-same
returns-else-same c =
    sym (in_turn _ _ ∙ rw (eq-eqb _ _ c.if-x-y.false, c.if-x-y-2.true, sym c.same.ensures ∙ c.if-same.false))

pub returns-else-x-y-2 : goal.returns-else-x-y-2
returns-else-x-y-2 c = sym (in_turn _ _ ∙ rw (eq-eqb _ _ c.if-x-y.false, c.if-x-y-2.false))

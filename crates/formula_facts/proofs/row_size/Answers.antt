-- `row_size` meets its contract.
use Rattle.std.proofs.Common.{arith}
use Rattle.logic.specs.Multiset.{sum}
use Rattle.formula_facts.proofs.Named.{parts_there, parts_size}
use Rattle.formula_facts.proofs.row_size.Goals as goal

pub facts_at-requires : goal.facts_at-requires
facts_at-requires c = (c.requires.good, (parts_there _ _ _ c.parts_of.ensures c.in-One.is _ c.requires).0)

pub facts_at-requires-in-Two : goal.facts_at-requires-in-Two
facts_at-requires-in-Two c = (c.requires.good, (parts_there _ _ _ c.parts_of.ensures c.in-Two.is _ c.requires).0)

pub facts_at-requires-in-Two-2 : goal.facts_at-requires-in-Two-2
facts_at-requires-in-Two-2 c = (c.requires.good, (parts_there _ _ _ c.parts_of.ensures c.in-Two.is _ c.requires).1.0)

pub returns-in-Nothing : goal.returns-in-Nothing
unfolding sum
returns-in-Nothing c = parts_size _ _ _ c.parts_of.ensures c.in-Nothing.is _ c.requires

pub returns-in-One : goal.returns-in-One
unfolding sum
returns-in-One c =
    let e = parts_size _ _ _ c.parts_of.ensures c.in-One.is _ c.requires in
    omega (arith, e, c.facts_at.ensures.kept.sized)

pub returns-in-Two : goal.returns-in-Two
unfolding sum
returns-in-Two c =
    let e = parts_size _ _ _ c.parts_of.ensures c.in-Two.is _ c.requires in
    omega (arith, e, c.facts_at-in-Two.ensures.kept.sized, c.facts_at-in-Two-2.ensures.kept.sized)

-- `row_balanced` meets its contract: the sessions tried are those of the definition.
use Rattle.std.proofs.Common.{refl, ◌∙◌}
use Rattle.logic.specs.Counts.{balanced}
use Rattle.formula_weights.proofs.Weighing.{parted}
use Rattle.formula_weights.proofs.row_balanced.Goals as goal

pub facts_at-requires : goal.facts_at-requires
facts_at-requires c = (parted _ _ c.parts_of.ensures _ c.requires refl c.in-One.is).each.0.there

pub returns-in-One : goal.returns-in-One
returns-in-One c =
    c.facts_at.ensures.kept.balancedly ∙ (parted _ _ c.parts_of.ensures _ c.requires refl c.in-One.is).balance

pub returns : goal.returns
unfolding balanced
returns c = c.is_ok.ensures.value ∙ c.neutral_within-tried.ensures.all

-- `span_at` meets its contract.
use Rattle.formula_facts.proofs.span_at.Goals as goal

pub returns : goal.returns
returns c = let k = c.facts_at-kept.ensures.kept in record { between = k.spanned; given = k.given }

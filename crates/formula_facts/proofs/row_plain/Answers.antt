-- `row_plain` meets its contract.
use Rattle.std.proofs.Common.{◌≡◌, sym, ◌∙◌, true}
use mathlib.Core.Bool.{◌&&◌, and-true}
use Rattle.logic.specs.Formula.{plain}
use Rattle.logic.specs.Counts.{all_of}
use Rattle.ledger.specs.Table.{form}
use Rattle.ledger.specs.Ledger.{formula}
use Rattle.store.specs.Store.{line_of, ledger_of}
use Rattle.formula_parts.specs.Parts.{among, plains}
use Rattle.formula_facts.proofs.Named.{other_letter, parts_there, parts_plain}
use Rattle.formula_facts.proofs.row_plain.Goals as goal
use Rattle.formula_facts.proofs.row_plain.Goals.{After-facts_at-in-Two}

pub returns-then-not-plain_letter : goal.returns-then-not-plain_letter
returns-then-not-plain_letter c =
    other_letter (formula (ledger_of c.args.store.now)) _ c.requires.canonical
    (sym c.plain_letter.ensures ∙ c.if-not-plain_letter.true)

pub facts_at-requires : goal.facts_at-requires
facts_at-requires c = (c.requires.good, (parts_there _ _ _ c.parts_of.ensures c.in-One.is _ c.requires).0)

pub facts_at-requires-in-Two : goal.facts_at-requires-in-Two
facts_at-requires-in-Two c = (c.requires.good, (parts_there _ _ _ c.parts_of.ensures c.in-Two.is _ c.requires).0)

pub facts_at-requires-then-facts_at : goal.facts_at-requires-then-facts_at
facts_at-requires-then-facts_at c =
    (c.requires.good, (parts_there _ _ _ c.parts_of.ensures c.in-Two.is _ c.requires).1.0)

pub returns-in-Nothing : goal.returns-in-Nothing
unfolding all_of
returns-in-Nothing c =
    parts_plain _ _ _ c.parts_of.ensures c.in-Nothing.is c.args.store.now c.requires
    (sym c.plain_letter.ensures ∙ c.if-not-plain_letter.false)

pub returns-in-One : goal.returns-in-One
unfolding all_of
returns-in-One c =
    c.facts_at.ensures.kept.plain_kept ∙ sym (and-true _)
    ∙ parts_plain _ _ _ c.parts_of.ensures c.in-One.is c.args.store.now c.requires
    (sym c.plain_letter.ensures ∙ c.if-not-plain_letter.false)

-- two parts
two : (c : After-facts_at-in-Two)
    → (c.facts_at-in-Two.result.plain && (plain (formula (ledger_of c.args.store.now) c.in-Two.j) && true))
    ≡ plain (form (formula (ledger_of c.args.store.now)) (line_of c.args.row))
unfolding all_of
two c =
    rw c.facts_at-in-Two.ensures.kept.plain_kept
    (parts_plain _ _ _ c.parts_of.ensures c.in-Two.is c.args.store.now c.requires
    (sym c.plain_letter.ensures ∙ c.if-not-plain_letter.false))

pub returns-then-facts_at : goal.returns-then-facts_at
returns-then-facts_at c =
    c.facts_at-then-facts_at.ensures.kept.plain_kept ∙ sym (and-true _)
    ∙ (simp c.if-facts_at.true at (two c.before.before))

pub returns-else-facts_at : goal.returns-else-facts_at
returns-else-facts_at c = c.if-facts_at.false ∙ (simp c.if-facts_at.false at (two c.before))

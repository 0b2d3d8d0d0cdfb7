-- `row_nested` meets its contract.
use mathlib.Core.Path.{sym, ◌∙◌, subst}
use mathlib.Core.Bool.{or-false}
use borrow.Author.Tests.{eq-eqb, ne_eqb}
use Rattle.ledger.specs.Checks.{any_of}
use Rattle.ledger.specs.Bounds.{There}
use Rattle.store.specs.Store.{ledger_of}
use Rattle.formula_facts.proofs.Named.{every_part, nests_is}
use Rattle.formula_facts.proofs.row_nested.Statement.{statement}
use Rattle.formula_facts.proofs.row_nested.Tie as tie

returns : tie.Need-returns-then-row-ne-FOR_EVERY
returns c =
    rw (nests_is c.args.store.now c.args.row c.requires.canonical, ne_eqb _ _ c.if-row-ne-FOR_EVERY.true)

quantified-at-requires : tie.Need-facts_at-requires
quantified-at-requires c κs = (
  c.requires.good,
  (subst (There (ledger_of c.args.store.now))
      (every_part c.args.row c.requires.canonical c.if-row-ne-FOR_EVERY.false) c.requires.there).0,
)

returns_2 : tie.Need-returns
unfolding any_of
returns_2 c =
    rw (
      nests_is c.args.store.now c.args.row c.requires.canonical,
      eq-eqb _ _ c.if-row-ne-FOR_EVERY.false,
      every_part c.args.row c.requires.canonical c.if-row-ne-FOR_EVERY.false,
    ) (c.facts_at.ensures.0.quantified_kept ∙ sym (or-false _))

pub row_nested_spec : {M : Type 1} → statement M
row_nested_spec = tie.close (tie.spec returns quantified-at-requires returns_2)

-- `row_span` meets its contract.
use borrow.Author.Rules.{rules}
use borrow.Author.Tests.{eq-eqb, ne_eqb}
use Rattle.ledger.specs.Ledger.{formula}
use Rattle.store.specs.Store.{ledger_of}
use Rattle.formula_facts.proofs.Spanned.{atom_span, parts_span}
use Rattle.formula_facts.proofs.row_span.Statement.{statement}
use Rattle.formula_facts.proofs.row_span.Tie as tie

returns : tie.Need-returns-then-row
returns c =
    atom_span (formula (ledger_of c.args.store.now)) _ c.requires.canonical c.if-row.true c.own.ensures

returns_2 : tie.Need-returns-then-row-eq-SAYS
returns_2 c =
    parts_span (formula (ledger_of c.args.store.now)) _ c.requires.canonical c.requires.good.bounded.sizes
    c.if-row.false _ c.parts_span-parts.ensures.between c.parts_span-parts.ensures.given
    (rw (eq-eqb _ _ c.if-row-eq-SAYS.true) c.said.ensures)

returns_3 : tie.Need-returns
returns_3 c =
    parts_span (formula (ledger_of c.args.store.now)) _ c.requires.canonical c.requires.good.bounded.sizes
    c.if-row.false _ c.parts_span-parts.ensures.between c.parts_span-parts.ensures.given
    (rw (ne_eqb _ _ c.if-row-eq-SAYS.false))

pub row_span_spec : {M : Type 1} → statement M
row_span_spec =
    tie.close
    (tie.spec
    (λ c κs. search rules)
    returns
    (λ c κs. search rules)
    (λ c κs. search rules)
    returns_2
    returns_3)

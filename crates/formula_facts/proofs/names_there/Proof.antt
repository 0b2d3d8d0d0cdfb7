-- `names_there` meets its contract.
use mathlib.Core.Path.{◌≡◌, sym, ◌∙◌}
use mathlib.Core.Bool.{true, ◌&&◌, not, and-true}
use borrow.Author.Rules.{rules}
use borrow.Author.Tests.{lt-ltb, le-ltb}
use lib.Dec.{ltb}
use Rattle.logic.specs.Counts.{all_of}
use Rattle.ledger.specs.Table.{names}
use Rattle.ledger.specs.Checks.{any_of, missing}
use Rattle.store.specs.Store.{line_of, ledger_of}
use Rattle.formula_facts.proofs.Named.{all_below}
use Rattle.formula_facts.proofs.names_there.Statement.{statement}
use Rattle.formula_facts.proofs.names_there.Tie as tie

returns : tie.Need-returns-in-Nothing
unfolding all_of
returns c =
    all_below _ _ _ c.parts_of.ensures c.in-Nothing.is c.args.store.now _
    c.formula_count-n.ensures c.requires

returns_2 : tie.Need-returns-in-One
unfolding all_of
returns_2 c =
    sym (and-true _)
    ∙ all_below _ _ _ c.parts_of.ensures c.in-One.is c.args.store.now _
    c.formula_count-n.ensures c.requires

-- two parts
two : (c : tie.In-Two)
    → (ltb c.in-Two.i c.formula_count-n.result
    && (ltb c.in-Two.j c.formula_count-n.result && true))
    ≡ not (any_of (missing (ledger_of c.args.store.now))
    (names (line_of c.args.row)))
unfolding all_of
two c =
    all_below _ _ _ c.parts_of.ensures c.in-Two.is c.args.store.now _
    c.formula_count-n.ensures c.requires

returns_3 : tie.Need-returns-then-i-n
returns_3 c = sym (and-true _) ∙ (simp (lt-ltb _ _ c.if-i-n.true) at (two c.before))

returns_4 : tie.Need-returns-else-i-n
returns_4 c = le-ltb _ _ c.if-i-n.false ∙ (simp (le-ltb _ _ c.if-i-n.false) at (two c.before))

pub names_there_spec : {M : Type 1} → statement M
names_there_spec =
    tie.close
    (tie.spec
    (λ c κs. search rules)
    (λ c κs. search rules)
    (λ c. search rules)
    (λ c. search rules)
    (λ c. search rules)
    returns
    returns_2
    returns_3
    returns_4)

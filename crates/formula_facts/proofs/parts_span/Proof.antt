-- `parts_span` meets its contract.
use mathlib.Core.Path.{◌≡◌, refl, ap, subst, ◌∙◌}
use mathlib.Core.List.{List, [], ◌∷◌}
use Prim.Native.Nat.{ℕ}
use native.Mathlib.Omega.{arith}
use borrow.Author.Rules.{rules}
use Rattle.logic.specs.Multiset.{Every, sum}
use Rattle.logic.specs.Packed.{counts}
use Rattle.logic.specs.Span.{Spans}
use Rattle.steps.specs.declared.Row.{Row}
use Rattle.ledger.specs.Bounds.{There}
use Rattle.ledger.specs.Ledger.{formula}
use Rattle.ledger.specs.Table.{names}
use Rattle.store.specs.Store.{line_of, ledger_of}
use Rattle.formula_facts.specs.declared.Span.{Span}
use Rattle.formula_facts.specs.Gives.{PartsSpanOf}
use Rattle.formula_facts.proofs.Named.{parts_there, parts_names}
use Rattle.formula_facts.proofs.Spanned.{gives_small, first_spans, second_spans, both_given}
use Rattle.formula_facts.proofs.parts_span.Statement.{statement}
use Rattle.formula_facts.proofs.parts_span.Tie as tie

-- from the numbers of the parts
together : (l : List ℕ) (r : Row) {ns : List ℕ} → ns ≡ names (line_of r) → (x : Span)
    → Every (λ k. Spans (formula (ledger_of l) k) x.low x.high) ns
    → x.gives ≡ sum (λ k. counts x.low (formula (ledger_of l) k)) ns → PartsSpanOf l r x
together l r e x h g = record {
  between = subst (Every (λ k. Spans (formula (ledger_of l) k) x.low x.high)) e h;
  given = g ∙ ap (sum (λ k. counts x.low (formula (ledger_of l) k))) e;
}

-- one part, and two
there_one : (c : tie.In-One)
    → There (ledger_of c.args.store.now) (c.in-One.i ∷ [])
there_one c =
    parts_there _ _ _ c.parts_of.ensures c.in-One.is _
    c.requires

there_two : (c : tie.In-Two)
    → There (ledger_of c.args.store.now)
    (c.in-Two.i ∷ c.in-Two.j ∷ [])
there_two c =
    parts_there _ _ _ c.parts_of.ensures c.in-Two.is _
    c.requires

span-at-requires : tie.Need-span_at-requires
span-at-requires c κs = (c.requires.good, (there_one c).0)

span_at_requires_2 : tie.Need-span_at-requires-in-Two
span_at_requires_2 c κs = (c.requires.good, (there_two c).0)

span_at_requires_3 : tie.Need-span_at-requires-in-Two-2
span_at_requires_3 c κs = (c.requires.good, (there_two c.before).1.0)

both-requires : tie.Need-both-requires
both-requires c κs =
    let sizes = c.requires.good.bounded.sizes in (
      gives_small _ _ c.span_at-in-Two.ensures (sizes c.in-Two.i),
      gives_small _ _ c.span_at-in-Two-2.ensures (sizes c.in-Two.j),
    )

returns : tie.Need-returns-in-Nothing
unfolding sum
returns c =
    together c.args.store.now _
    (parts_names _ _ _ c.parts_of.ensures c.in-Nothing.is c.requires.canonical) _ tt refl

returns_2 : tie.Need-returns-in-One
unfolding sum
returns_2 c =
    let w = c.span_at.ensures in
    together c.args.store.now _
    (parts_names _ _ _ c.parts_of.ensures c.in-One.is c.requires.canonical) _
    (w.between, tt) (omega (arith, w.given))

returns_3 : tie.Need-returns-in-Two
unfolding sum
returns_3 c =
    let v = c.span_at-in-Two.ensures in
    let w = c.span_at-in-Two-2.ensures in
    let o = c.both.ensures in
    together c.args.store.now _
    (parts_names _ _ _ c.parts_of.ensures c.in-Two.is c.requires.canonical) _
    (first_spans _ _ _ _ _ v w o, (second_spans _ _ _ _ _ v w o, tt)) (omega (arith, both_given _ _ _ _ _ v w o))

pub parts_span_spec : {M : Type 1} → statement M
parts_span_spec =
    tie.close
    (tie.spec
    (λ c κs. search rules)
    (λ c. search rules)
    (λ c. search rules)
    span-at-requires
    (λ c. search rules)
    span_at_requires_2
    span_at_requires_3
    both-requires
    returns
    returns_2
    returns_3)

-- `has_row` meets its contract.
use Rattle.std.proofs.Common.{sym, ap, ◌∙◌, arith, below_more}
use Rattle.ledger.specs.Checks.{same_row}
use Rattle.store.proofs.Views.{lines_length}
use Rattle.store_formulas.proofs.Found.{has_at, has_none}
use Rattle.store_formulas.proofs.has_row.Goals as goal

pub line_at-line-requires : goal.line_at-line-requires
line_at-line-requires c = (c.requires, omega (arith, lines_length c.args.store.now))

pub loop-i-preserved : goal.loop-i-preserved
loop-i-preserved c = below_more _ _ c.loop-i.invariant
    (ap (same_row c.args.row) (sym c.line_at-line.ensures) ∙ sym c.same_row-same.ensures ∙ c.if-same.false)

pub returns-then-same : goal.returns-then-same
returns-then-same c = sym (has_at c.args.store.now c.requires (same_row c.args.row) c.loop-i.i (omega arith)
    (ap (same_row c.args.row) (sym c.line_at-line.ensures) ∙ sym c.same_row-same.ensures ∙ c.if-same.true))

pub returns : goal.returns
returns c = sym (has_none c.args.store.now c.requires (same_row c.args.row) (λ k h. c.loop-i.invariant k (omega arith)))

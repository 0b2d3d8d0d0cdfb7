-- `count_formula` meets its contract.
use Rattle.std.proofs.Common.{◌≡◌, ap, sym, ◌∙◌, ℕ, ◌<◌, arith}
use mathlib.Core.Logic.{inl, inr}
use Rattle.logic.specs.Packed.{counts}
use Rattle.ledger.specs.Ledger.{formula}
use Rattle.store_cells.specs.Layout.{low_at, high_at}
use Rattle.store.specs.Store.{ledger_of}
use Rattle.formula_tally.proofs.Tallied.{outside, kept}
use Rattle.formula_tally.proofs.count_formula.Goals as goal

-- the lowest session
pub returns-then-session-low : goal.returns-then-session-low
returns-then-session-low c =
    let l = c.args.store.now in
    let k = c.facts_at-low.ensures in
    kept l c.args.session 0 c.requires.0 c.args.formula c.requires.1 (c.if-session-low.true ∙ k.low)
    (k.kept.given ∙ ap (λ (s : ℕ). counts s (formula (ledger_of l) c.args.formula)) k.low)

pub returns-then-session-low-2 : goal.returns-then-session-low-2
returns-then-session-low-2 c =
    let l = c.args.store.now in
    let h : c.args.session < low_at l c.args.formula = omega (arith, c.facts_at-low.ensures.low) in
    sym (outside l c.args.session 0 c.requires.0 c.args.formula c.requires.1 (inl h))

pub returns-then-high-session : goal.returns-then-high-session
returns-then-high-session c =
    let l = c.args.store.now in
    let h : high_at l c.args.formula < c.args.session = omega (arith, c.facts_at-low.ensures.high) in
    sym (outside l c.args.session 0 c.requires.0 c.args.formula c.requires.1 (inr h))

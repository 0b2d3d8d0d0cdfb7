-- `row_at` meets its contract.
use mathlib.Core.Path.{sym, ◌∙◌}
use Prim.Native.Nat.{◌<◌, ◌≤◌}
use native.Mathlib.Omega.{arith}
use borrow.Author.Rules.{rules}
use Rattle.store_cells.specs.Layout.{line_count}
use Rattle.store_cells.proofs.CellWrites.{row_below, row_past, row_wide}
use Rattle.store.proofs.row_at.Statement.{statement}
use Rattle.store.proofs.row_at.Tie as tie

returns : tie.Need-returns-then-number-ge-MAX_FORMULAS
returns c = c.one_row.ensures ∙ sym (row_wide _ _ c.if-number-ge-MAX_FORMULAS.true)

returns_2 : tie.Need-returns-then-read-number
returns_2 c =
    let l = c.args.store.now in
    let n = c.args.number in
    let h : line_count l ≤ n = omega (arith, c.read.ensures) in
    c.one_row-then-read-number.ensures ∙ sym (row_past l n h)

returns_3 : tie.Need-returns
returns_3 c =
    let l = c.args.store.now in
    let n = c.args.number in
    let h : n < line_count l = omega (arith, c.read.ensures) in
    c.line_row.ensures ∙ sym (row_below l n h c.if-number-ge-MAX_FORMULAS.false)

pub row_at_spec : {M : Type 1} → statement M
row_at_spec = tie.close (tie.spec (λ c κs. search rules) returns (λ c κs. search rules) (λ c κs. search rules) returns_2
    (λ c κs. search rules) returns_3)

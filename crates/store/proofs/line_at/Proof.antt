-- `line_at` meets its contract.
use mathlib.Core.Path.{sym, ◌∙◌}
use native.Mathlib.Omega.{arith}
use Rattle.store_cells.proofs.CellWrites.{row_below}
use Rattle.store.proofs.Views.{lines_length}
use Rattle.store.proofs.line_at.Statement.{statement}
use Rattle.store.proofs.line_at.Tie as tie

line-row-requires : tie.Need-line_row-requires
line-row-requires c κs =
    omega (arith, c.requires.1, lines_length c.args.store.now, c.requires.0.lines)

returns : tie.Need-returns
returns c =
    let l = c.args.store.now in
    c.line_row.ensures
    ∙ sym (row_below l _ (omega (arith, c.requires.1, lines_length l))
    (omega (arith, c.requires.1, lines_length l, c.requires.0.lines)))

pub line_at_spec : {M : Type 1} → statement M
line_at_spec = tie.close (tie.spec line-row-requires returns)

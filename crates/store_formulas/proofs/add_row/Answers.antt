-- `add_row` meets its contract. The stores are the row, its marks in the sets and the count.
use Rattle.std.proofs.Common.{ap, ◌∙◌, ◌<◌, length, arith}
use Rattle.ledger.specs.Checks.{max_formulas}
use Rattle.store_cells.proofs.CellWrites.{line_live}
use Rattle.store.proofs.Views.{lines_length}
use Rattle.store_formulas.proofs.Added.{add_done}
use Rattle.store_formulas.proofs.add_row.Goals as goal

pub put_line-requires : goal.put_line-requires
put_line-requires c = omega (arith, lines_length c.args.store.now, c.requires.room, c.read-n.ensures)

-- the length and the line's number
pub mark-requires : goal.mark-requires
mark-requires c =
    let n : c.read-n.result < max_formulas =
    omega (arith, lines_length c.args.store.now, c.requires.room, c.read-n.ensures) in
    (ap length c.put_line.ensures ∙ (line_live _ _ _ _ c.requires.good.long n).long, n)

pub returns : goal.returns
returns c =
    add_done _ _ _ c.requires c.read-n.ensures c.put_line.ensures c.mark.ensures c.put.ensures

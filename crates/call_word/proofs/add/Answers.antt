-- `add` meets its contract.
use Rattle.call_word.proofs.WordOutcomes.{word_added, word_done}
use Rattle.call_word.proofs.add.Goals as goal

pub add_row-requires : goal.add_row-requires
add_row-requires c =
    word_added c.requires c.row_plain-plain.ensures c.row_balanced-balanced.ensures c.row_holders-holders.ensures
    c.row_span-span.ensures

pub returns : goal.returns
returns c = word_done c.requires c.formula_count-number.ensures c.add_row.ensures

use Rattle.std.proofs.Common.{arith}
use Rattle.read_fields.proofs.LabelSets.{hex_number, hex_letter}
use Rattle.read_fields.proofs.with_digit.Goals as goal

pub returns-in-48-to-57 : goal.returns-in-48-to-57
returns-in-48-to-57 c = rw c.from.ensures (hex_number _ _ (omega arith) (omega arith))

pub returns-in-97-to-102 : goal.returns-in-97-to-102
returns-in-97-to-102 c = rw c.from-in-97-to-102.ensures (hex_letter _ _ (omega arith) (omega arith))

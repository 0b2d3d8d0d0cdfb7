-- `op_of` meets its contract: here where no word begins with the first letter.
use Rattle.std.proofs.Common.{rules}
use Rattle.request.specs.Text.{bytes, same_bytes}
use Rattle.read_formulas.specs.Line.{lookup}
use Rattle.read_lines.specs.Step.{op_of, ops}
use Rattle.read_lines.proofs.rows.op_of.Goals as goal

pub returns-in_default-13 : goal.returns-in_default-13
unfolding op_of ops lookup bytes same_bytes
returns-in_default-13 c = search rules

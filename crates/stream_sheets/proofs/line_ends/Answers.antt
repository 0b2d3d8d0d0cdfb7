-- What comes before the bytes makes no difference.
use Rattle.stream_sheets.proofs.EmptyLines.{line_after}
use Rattle.stream_sheets.proofs.line_ends.Goals as goal

pub returns : goal.returns
returns c = λ f. line_after c.args.piece.now f c.requires

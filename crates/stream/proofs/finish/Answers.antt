-- Where nothing is held, nothing more is answered.
use Rattle.stream.proofs.Pieces.{ended_none, ended_one}
use Rattle.stream.proofs.finish.Goals as goal

pub returns-then-ended : goal.returns-then-ended
returns-then-ended c = ended_none c.requires c.if-ended.true

pub returns : goal.returns
returns c = ended_one c.requires c.if-ended.false c.answer.ensures

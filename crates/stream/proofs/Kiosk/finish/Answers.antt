-- What is asked and said of the parts is asked and said of the kiosk.
use Rattle.stream.proofs.Pieces.{ready_parts, ended_whole}
use Rattle.stream.proofs.Kiosk.finish.Goals as goal

pub finish-requires : goal.finish-requires
finish-requires c = ready_parts c.requires

pub returns-clause-ended : goal.returns-clause-ended
returns-clause-ended c = ended_whole c.finish.ensures

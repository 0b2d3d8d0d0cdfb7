-- The last bytes are put after those that are held, if any are.
use Rattle.stream.proofs.Pieces.{said_whole, said_kept}
use Rattle.stream.proofs.Kiosk.answer_ended.Goals as goal

pub returns-then-none_held-clause-said : goal.returns-then-none_held-clause-said
returns-then-none_held-clause-said c = said_whole _ c.if-none_held.true c.answer.ensures

pub returns-clause-said : goal.returns-clause-said
returns-clause-said c = said_kept c.keep-filled.ensures c.answer-2.ensures

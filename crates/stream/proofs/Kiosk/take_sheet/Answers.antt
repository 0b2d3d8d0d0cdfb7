-- A sheet ends in the piece, or all of it is held.
use Rattle.std.proofs.Common.{refl, ◌∙◌}
use Rattle.stream.proofs.Pieces.{took_ended, took_open}
use Rattle.stream.proofs.Kiosk.take_sheet.Goals as goal

pub returns-in-Some-clause-took : goal.returns-in-Some-clause-took
returns-in-Some-clause-took c =
    took_ended _ c.requires.ready c.requires.piece_nonzero (c.answer_ended-text.ensures.kept ∙ c.requires.ready.begun)
    c.in-Some.ensures refl refl c.answer_ended-text.ensures.said

pub returns-in-None-clause-took : goal.returns-in-None-clause-took
returns-in-None-clause-took c =
    took_open _ c.requires.ready c.requires.piece_nonzero c.in-None.ensures
    (c.line_ends.ensures c.args.self.now.place.fresh) c.keep-filled.ensures
    (record { store = refl; text = refl; waits = refl })

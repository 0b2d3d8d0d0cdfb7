-- A buffer that is too short stays, and the text is written into another.
use Rattle.text_close.proofs.Texts.{closed_short, has_room, closed_written}
use Rattle.text_close.proofs.close.Goals as goal

pub returns-in_default : goal.returns-in_default
returns-in_default c = closed_short _ _ c.text_length-n.ensures.exact (c.tested.ensures 52) c.in_default.is

pub put_text-requires : goal.put_text-requires
put_text-requires c =
    (c.requires, has_room _ c.args.buffer.now c.text_length-n.ensures.exact (c.tested.ensures 52) c.in-Passed.is)

pub returns : goal.returns
returns c =
    closed_written _ _ c.text_length-n.ensures.exact (c.tested.ensures 52) c.in-Passed.is c.put_text.ensures

use Rattle.std.proofs.Common.{sym}
use Rattle.text_write.proofs.Puts.{room_as, wrote_as}
use Rattle.text_close.proofs.Texts.{title_as}
use Rattle.text_close.proofs.put_title.Goals as goal

pub put_title-requires : goal.put_title-requires
put_title-requires c = room_as (sym (title_as _ c.title_of.ensures)) c.requires.1

pub returns : goal.returns
returns c = wrote_as (title_as _ c.title_of.ensures) c.put_title.ensures

use Rattle.text_write.proofs.Lengths.{measured_as}
use Rattle.text_close.proofs.Texts.{title_as}
use Rattle.text_close.proofs.title_length.Goals as goal

pub returns : goal.returns
returns c = measured_as (title_as _ c.title_of.ensures) c.title_length.ensures

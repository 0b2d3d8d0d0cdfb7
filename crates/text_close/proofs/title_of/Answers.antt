-- Each field is what the store says.
use Rattle.std.proofs.Common.{refl}
use Rattle.text_close.proofs.title_of.Goals as goal

pub returns : goal.returns
returns c =
    rw (c.edition_of.ensures, c.next_serial.ensures, c.formula_count.ensures, c.live_count.ensures) refl

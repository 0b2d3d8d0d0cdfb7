use Rattle.text_write.proofs.Lengths.{title_measured}
use Rattle.text_write.proofs.title_length.Goals as goal

pub returns : goal.returns
returns c =
    title_measured c.args.title c.digits_length.ensures c.digits_length-2.ensures c.digits_length-3.ensures

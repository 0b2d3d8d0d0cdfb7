use Rattle.text_write.proofs.Lengths.{credential_measured}
use Rattle.text_write.proofs.credential_length.Goals as goal

pub returns : goal.returns
returns c =
    credential_measured c.args.c c.digits_length.ensures c.digits_length-2.ensures c.interval_length.ensures

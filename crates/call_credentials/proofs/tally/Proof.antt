-- `tally` meets its contract.
use borrow.Author.Rules.{rules}
use Rattle.call_credentials.proofs.CallOutcomes.{tally_done}
use Rattle.call_credentials.proofs.tally.Statement.{statement}
use Rattle.call_credentials.proofs.tally.Tie as tie

returns : tie.Need-returns
returns c =
    tally_done c.args.store.now c.args.session c.args.minute _ c.requires
    c.tally-f.ensures

pub tally_spec : {M : Type 1} → statement M
tally_spec = tie.close (tie.spec (λ c κs. search rules) returns)

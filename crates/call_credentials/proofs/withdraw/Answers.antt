-- `withdraw` meets its contract.
use Rattle.store_lookup.proofs.Places.{occupied}
use Rattle.call_credentials.proofs.CallOutcomes.{withdraw_dead, withdraw_done}
use Rattle.call_credentials.proofs.withdraw.Goals as goal

pub returns-in_default : goal.returns-in_default
returns-in_default c = withdraw_dead c.requires c.in_default.ensures

pub withdraw-requires : goal.withdraw-requires
withdraw-requires c = (c.requires, occupied c.requires c.in-Some.ensures)

pub returns : goal.returns
returns c = withdraw_done c.requires c.in-Some.ensures c.withdraw.ensures

-- `intervals_are_decided` meets its contract.
use Rattle.logic.proofs.Intervals.{contains_decides, formed_decides, same_decides}
use Rattle.logic.proofs.intervals_are_decided.Statement.{statement}
use Rattle.logic.proofs.intervals_are_decided.Tie as tie

pub intervals_are_decided_spec : {M : Type 1} → statement M
intervals_are_decided_spec = tie.close (tie.spec (λ c. (contains_decides, (formed_decides, same_decides))))

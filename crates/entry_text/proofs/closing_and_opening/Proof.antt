-- `closing_and_opening` meets its contract.
use Rattle.entry_text.proofs.Saving.{saved_opens, opened_saves}
use Rattle.entry_text.proofs.closing_and_opening.Statement.{statement}
use Rattle.entry_text.proofs.closing_and_opening.Tie as tie

pub closing_and_opening_spec : {M : Type 1} → statement M
closing_and_opening_spec = tie.close (tie.spec (λ c. (saved_opens, opened_saves)))

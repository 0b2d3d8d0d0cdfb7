-- `one_row` meets its contract.
use borrow.Author.Rules.{rules}
use Rattle.store.proofs.one_row.Statement.{statement}
use Rattle.store.proofs.one_row.Tie as tie

pub one_row_spec : {M : Type 1} → statement M
one_row_spec = tie.close (tie.spec (λ c κs. search rules) (λ c. simp c.none-i.ensures))

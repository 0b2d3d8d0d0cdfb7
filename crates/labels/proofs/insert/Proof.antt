-- `insert` meets its contract.
use borrow.Author.Rules.{rules}
use Rattle.labels.proofs.insert.Statement.{statement}
use Rattle.labels.proofs.insert.Tie as tie

returns : tie.Need-returns
returns c = simp c.only.ensures

pub insert_spec : {M : Type 1} → statement M
insert_spec = tie.close (tie.spec (λ c κs. search rules) returns)

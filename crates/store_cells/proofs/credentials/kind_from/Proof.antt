-- `kind_from` meets its contract: each branch is a side of the test.
use borrow.Author.Tests.{eq-eqb, ne_eqb}
use Rattle.store_cells.proofs.credentials.kind_from.Statement.{statement}
use Rattle.store_cells.proofs.credentials.kind_from.Tie as tie

returns : tie.Need-returns-then-n-eq-LINEAR
returns c = simp (eq-eqb _ _ c.if-n-eq-LINEAR.true)

returns_2 : tie.Need-returns-else-n-eq-LINEAR
returns_2 c = simp (ne_eqb _ _ c.if-n-eq-LINEAR.false)

pub kind_from_spec : {M : Type 1} → statement M
kind_from_spec = tie.close (tie.spec returns returns_2)

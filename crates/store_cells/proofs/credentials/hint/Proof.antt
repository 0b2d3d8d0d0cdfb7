-- `hint` meets its contract: one read.
use mathlib.Core.Path.{refl}
use Rattle.store_cells.specs.Layout.{hint_at}
use borrow.Author.Rules.{rules}
use Rattle.store_cells.proofs.credentials.hint.Statement.{statement}
use Rattle.store_cells.proofs.credentials.hint.Tie as tie

returns : tie.Need-returns
unfolding hint_at
returns c = refl

pub hint_spec : {M : Type 1} → statement M
hint_spec =
    tie.close (tie.spec (λ c. search rules) (λ c. search rules) (λ c. search rules) (λ c. search rules) returns)

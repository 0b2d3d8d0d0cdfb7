-- `set` meets its contract: one read.
use mathlib.Core.Path.{refl}
use Rattle.store_cells.specs.Layout.{cell, group_at}
use borrow.Author.Rules.{rules}
use Rattle.store_cells.proofs.groups.set.Statement.{statement}
use Rattle.store_cells.proofs.groups.set.Tie as tie

returns : tie.Need-returns
unfolding group_at cell
returns c = refl

pub set_spec : {M : Type 1} → statement M
set_spec =
    tie.close
    (tie.spec
    (λ c. search rules)
    (λ c. search rules)
    (λ c. search rules)
    (λ c. search rules)
    (λ c. search rules)
    returns)

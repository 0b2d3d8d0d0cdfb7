-- `put_hint` meets its contract: one store.
use mathlib.Core.Path.{refl}
use Rattle.store_cells.specs.Layout.{put_hint}
use borrow.Author.Rules.{rules}
use Rattle.store_cells.proofs.credentials.put_hint.Statement.{statement}
use Rattle.store_cells.proofs.credentials.put_hint.Tie as tie

returns : tie.Need-returns
unfolding put_hint
returns c = refl

pub put_hint_spec : {M : Type 1} → statement M
put_hint_spec =
    tie.close (tie.spec (λ c. search rules) (λ c. search rules) (λ c. search rules) (λ c. search rules) returns)

-- `put_gap` meets its contract: one store.
use mathlib.Core.Path.{refl}
use Rattle.store_cells.specs.Layout.{put_gap}
use borrow.Author.Rules.{rules}
use Rattle.store_cells.proofs.credentials.put_gap.Statement.{statement}
use Rattle.store_cells.proofs.credentials.put_gap.Tie as tie

returns : tie.Need-returns
unfolding put_gap
returns c = refl

pub put_gap_spec : {M : Type 1} → statement M
put_gap_spec =
    tie.close
    (tie.spec
    (λ c. search rules)
    (λ c. search rules)
    (λ c. search rules)
    (λ c. search rules)
    (λ c. search rules)
    returns)

-- `live_count` meets its contract.
use mathlib.Core.Path.{◌∙◌}
use borrow.Author.Rules.{rules}
use Rattle.store.proofs.live_count.Statement.{statement}
use Rattle.store.proofs.live_count.Tie as tie

returns : tie.Need-returns
returns c = c.read.ensures ∙ c.requires.ordered.counted

pub live_count_spec : {M : Type 1} → statement M
live_count_spec = tie.close (tie.spec (λ c κs. search rules) returns)

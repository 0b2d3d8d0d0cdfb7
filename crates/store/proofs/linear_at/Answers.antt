-- `linear_at` meets its contract: the row's kind is compared with linear.
use Rattle.std.proofs.Common.{refl, ◌∙◌}
use Rattle.store_cells.proofs.CredentialRows.{linear_kind}
use Rattle.store.proofs.linear_at.Goals as goal

pub returns : goal.returns
returns c = c.eq.ensures ∙ linear_kind _ _ c.kind_at.ensures _ refl refl

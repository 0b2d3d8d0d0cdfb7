-- `locate` meets its contract: it stands in the row of the hint, or the search by halves answers.
use Rattle.std.proofs.Common.{◌≡◌, ap, ◌∙◌, ◌<◌, false, arith}
use Rattle.std.specs.Prelude.{not}
use Rattle.store_cells.specs.Layout.{row_count, credential_at, gap_at}
use Rattle.store_cells.proofs.CredentialRows.{row_there}
use Rattle.store_lookup.proofs.Places.{stands}
use Rattle.store_lookup.proofs.locate.Goals as goal

-- the row of the hint is in use, has the serial and is no gap
pub returns-then-is_some : goal.returns-then-is_some
returns-then-is_some c =
    let l = c.args.store.now in
    let i = c.hint-i.result in
    let here : i < row_count l = omega (arith, c.read.ensures) in
    let its : (credential_at l i).serial ≡ c.args.serial = omega (arith, c.serial.ensures) in
    let live : gap_at l i ≡ false = row_there l i c.kind_at.ensures c.is_some.ensures ∙ ap not c.if-is_some.true in
    stands c.requires here its live

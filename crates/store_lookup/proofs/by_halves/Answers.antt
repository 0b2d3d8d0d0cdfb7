-- `by_halves` meets its contract.
use Rattle.std.proofs.Common.{◌≡◌, ◌∙◌, ◌+◌, ◌/◌, ◌<◌, true, false, arith}
use Rattle.store_cells.specs.Layout.{row_count, credential_at, gap_at}
use Rattle.store_cells.proofs.CredentialRows.{row_left}
use Rattle.store_lookup.proofs.Halves.{first_half, upper_half, lower_half, none_left}
use Rattle.store_lookup.proofs.Places.{nowhere, has_left, stands}
use Rattle.store_lookup.proofs.by_halves.Goals as goal

pub loop-low-init : goal.loop-low-init
loop-low-init c = first_half _ c.requires _ c.read-high.ensures

pub returns-then-left : goal.returns-then-left
returns-then-left c =
    let l = c.args.store.now in
    let i = (c.loop-low.low + c.loop-low.high) / 2 in
    let here : i < row_count l = omega (arith, c.loop-low.invariant.ends.1) in
    let its : (credential_at l i).serial ≡ c.args.serial = omega (arith, c.serial-seen.ensures) in
    let left : gap_at l i ≡ true = row_left l i c.kind_at.ensures c.is_none-left.ensures ∙ c.if-left.true in
    has_left c.requires here its left

pub returns-then-seen-serial : goal.returns-then-seen-serial
returns-then-seen-serial c =
    let l = c.args.store.now in
    let i = (c.loop-low.low + c.loop-low.high) / 2 in
    let here : i < row_count l = omega (arith, c.loop-low.invariant.ends.1) in
    let its : (credential_at l i).serial ≡ c.args.serial = omega (arith, c.serial-seen.ensures) in
    let live : gap_at l i ≡ false = row_left l i c.kind_at.ensures c.is_none-left.ensures ∙ c.if-left.false in
    stands c.requires here its live

pub loop-low-preserved-then-seen-serial-2 : goal.loop-low-preserved-then-seen-serial-2
loop-low-preserved-then-seen-serial-2 c =
    upper_half _ c.requires _ c.loop-low.invariant _ (omega arith) (omega arith)
    (omega (arith, c.serial-seen.ensures, c.if-seen-serial-2.true))

pub loop-low-preserved : goal.loop-low-preserved
loop-low-preserved c =
    lower_half _ c.requires _ c.loop-low.invariant _ (omega arith) (omega arith)
    (omega (arith, c.serial-seen.ensures, c.if-seen-serial.false, c.if-seen-serial-2.false))

pub returns : goal.returns
returns c = nowhere c.requires (none_left _ c.requires _ c.loop-low.invariant c.loop-low-test.false)

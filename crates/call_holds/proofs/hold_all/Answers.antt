-- `hold_all` meets its contract.
use mathlib.Core.Path.{sym, ap, ◌∙◌}
use mathlib.Core.Option.{some}
use native.Mathlib.Omega.{arith}
use Rattle.store_lookup.proofs.Places.{is_dead, occupied, one_found}
use Rattle.step_rows.specs.LabelRows.{put_label}
use Rattle.call_holds.proofs.HoldSerials.{next_serial_holds, no_serial}
use Rattle.call_holds.proofs.Holding.{dead_hold, next_linear, next_unrestricted, live_holds}
use Rattle.call_holds.proofs.hold_all.Goals as goal
use Rattle.call_holds.proofs.hold_all.Goals.{in-Linear, in-Unrestricted}

pub returns-in_err-at : goal.returns-in_err-at
returns-in_err-at c =
    rw c.from_residual.ensures (dead_hold _ _ _ c.loop-k.invariant
    (next_serial_holds c.args.serials.now c.loop-k.k (omega arith))
    (is_dead c.requires.0 c.in_err-at.ensures))

pub credential_at-c-requires : goal.credential_at-c-requires
credential_at-c-requires c =
    (c.requires.0, (occupied c.requires.0 c.in_ok-at.ensures).0)

pub loop-k-preserved : goal.loop-k-preserved
loop-k-preserved c =
    let next = next_serial_holds c.args.serials.now c.loop-k.k (omega arith) in
    let found = one_found c.requires.0 c.in_ok-at.ensures ∙ ap some (sym c.credential_at-c.ensures) in
    let put = ap (put_label c.loop-k.table c.loop-k.k) c.hypothesis.ensures in
    elim c.match-c.branch [
      | in-Linear w ↦ rw w.sides-is
          (next_linear _ _ _ c.loop-k.invariant next found put w.in-Linear.is w.insert.ensures)
      | in-Unrestricted w ↦ rw w.sides-is
          (next_unrestricted _ _ _ c.loop-k.invariant next found put w.in-Unrestricted.is
          w.insert-in-Unrestricted.ensures)
    ]

pub returns : goal.returns
returns c = live_holds _ _ _ c.loop-k.invariant (no_serial c.args.serials.now c.loop-k.k (omega arith))

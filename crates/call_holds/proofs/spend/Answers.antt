-- `spend` meets its contract.
use mathlib.Core.Path.{refl}
use native.Mathlib.Omega.{arith}
use Rattle.call_holds.proofs.HoldSerials.{next_serial_holds, no_serial}
use Rattle.call_holds.proofs.Spending.{first_spent, next_spent, last_spent}
use Rattle.call_holds.proofs.spend.Goals as goal

pub loop-serial-init : goal.loop-serial-init
loop-serial-init c = first_spent _ _ _ c.requires.good refl c.requires.alive c.requires.apart

pub loop-serial-preserved : goal.loop-serial-preserved
loop-serial-preserved c =
    next_spent _ _ c.loop-serial.invariant
    (next_serial_holds c.args.serials.now c.loop-serial.serial-index (omega arith)) c.spend_one.ensures

pub returns : goal.returns
returns c =
    last_spent _ _ c.loop-serial.invariant (no_serial c.args.serials.now c.loop-serial.serial-index (omega arith))

-- The loop keeps what its invariant says, with one read fewer left; what it leaves is played, cut where a write failed.
use Rattle.std.proofs.Common.{ap, arith, rules}
use Rattle.stream_console.specs.declared.Input.{Input}
use Rattle.tillrun.proofs.Turns.{going_start, going_on, fewer, played_cut, played_whole}
use Rattle.tillrun.proofs.play.Goals as goal

pub loop-kiosk-init : goal.loop-kiosk-init
loop-kiosk-init c = (going_start (omega arith) c.requires c.reading.ensures c.writing.ensures, search rules)

pub loop-kiosk-preserved : goal.loop-kiosk-preserved
loop-kiosk-preserved c = (going_on c.loop-kiosk.invariant.0 c.next_piece-run.ensures.turned, search rules)

pub loop-kiosk-smaller : goal.loop-kiosk-smaller
loop-kiosk-smaller c =
    fewer c.loop-kiosk-test.ensures.1.1 (ap (λ (i : Input). i.reads) c.next_piece-run.ensures.turned.received.note)

pub finish-end-requires : goal.finish-end-requires
finish-end-requires c =
    let d = c.loop-kiosk.invariant.0.ready in
    record { good = d.good; begun = d.begun; filled = d.filled; text = omega arith }

pub returns-then-failed : goal.returns-then-failed
returns-then-failed c = played_cut c.loop-kiosk.invariant.0 c.loop-kiosk-test.ensures (search rules)

pub returns : goal.returns
returns c =
    played_whole c.loop-kiosk.invariant.0 c.loop-kiosk-test.ensures (search rules) c.finish-end.ensures.ended
    c.send.ensures.sent

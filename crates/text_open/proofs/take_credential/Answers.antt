use Rattle.std.proofs.Common.{arith}
use Rattle.text_open.proofs.Outcomes.{not_rising, not_below, serial_raisable, credential_taken}
use Rattle.text_open.proofs.take_credential.Goals as goal

pub returns-then-c-next_serial : goal.returns-then-c-next_serial
returns-then-c-next_serial c = record {
  result_after = not_rising _ _ _ (omega (arith, c.if-c-next_serial.true, c.next_serial.ensures));
  raisable = c.requires.raisable;
}

pub returns-then-next-c : goal.returns-then-next-c
returns-then-next-c c = record {
  result_after = not_below _ _ _ c.if-next-c.true;
  raisable = c.requires.raisable;
}

pub set_next-requires : goal.set_next-requires
set_next-requires c =
    serial_raisable c.requires (omega (arith, c.if-c-next_serial.false, c.next_serial.ensures))

pub returns : goal.returns
returns c =
    let taken =
    credential_taken c.args.c c.args.next c.accepted.result c.requires
    (omega (arith, c.if-c-next_serial.false, c.next_serial.ensures)) (omega (arith, c.if-next-c.false))
    c.set_next.ensures c.issue.ensures c.accepted.ensures in
    record { result_after = taken.0; raisable = taken.1 }

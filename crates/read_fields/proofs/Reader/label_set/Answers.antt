use Rattle.std.proofs.Common.{◌≡◌, arith, sym, ◌∙◌}
use Rattle.std.proofs.lemmas.List.{take_rest}
use Rattle.read_fields.proofs.Bytes.{here}
use Rattle.read_fields.proofs.LabelSets.{labels_short, set_start, hex_no, hex_on, set_stop, set_other}
use Rattle.read_fields.proofs.LabelSets.{hex_smaller, hex_room}
use Rattle.read_fields.proofs.Reader.label_set.Goals as goal

pub returns-then-s-lt17-clause-read : goal.returns-then-s-lt17-clause-read
returns-then-s-lt17-clause-read c = sym (labels_short _ _ c.if-s-lt17.true)

pub loop-k-init : goal.loop-k-init
loop-k-init c = (omega arith, set_start _ _)

pub with_digit-requires : goal.with_digit-requires
with_digit-requires c = hex_room _ _ c.loop-k-test.true c.loop-k.invariant.0

pub returns-in_err-v-clause-read : goal.returns-in_err-v-clause-read
returns-in_err-v-clause-read c =
    rw c.from_residual.ensures
    (sym (c.loop-k.invariant.1 ∙ rw (here c.args.self.now.rest.now c.loop-k.k (omega arith))
    (hex_no _ c.requires _ _ c.loop-k-test.true _ _ c.in_err-v.ensures)))

pub loop-k-preserved : goal.loop-k-preserved
loop-k-preserved c =
    let d = c.in_ok-v.ensures in (
      rw d.value (hex_smaller _ _ _ c.loop-k.invariant.0 d.below),
      c.loop-k.invariant.1 ∙ rw (here c.args.self.now.rest.now c.loop-k.k (omega arith), d.value)
          (hex_on _ _ _ _ _ _ d.is),
    )

pub returns-then-s-stop-clause-read : goal.returns-then-s-stop-clause-read
returns-then-s-stop-clause-read c =
    let q : c.loop-k.k ≡ 16 = omega arith in
    sym (rw q at c.loop-k.invariant.1 ∙ rw (here c.args.self.now.rest.now 16 (omega arith))
    (set_other _ _ _ _ c.if-s-stop.true))

pub returns-clause-read : goal.returns-clause-read
returns-clause-read c =
    let q : c.loop-k.k ≡ 16 = omega arith in
    rw (take_rest c.args.self.now.rest.now 17)
    (sym (rw q at c.loop-k.invariant.1 ∙ rw (here c.args.self.now.rest.now 16 (omega arith))
    (set_stop _ c.requires _ _ _ c.if-s-stop.false)))

use Rattle.std.proofs.Common.{arith, refl, ◌∙◌, ◌≡◌, length}
use Rattle.std.proofs.lemmas.List.{take_rest}
use Rattle.read_fields.proofs.Bytes.{here, past}
use Rattle.read_fields.proofs.Prefixes.{strip_done, strip_short, strip_on, strip_no}
use Rattle.read_fields.proofs.Reader.past.Goals as goal

pub returns-then-s-w : goal.returns-then-s-w
returns-then-s-w c = (strip_short _ _ c.if-s-w.true, refl)

pub returns-then-other : goal.returns-then-other
returns-then-other c = (
  c.loop-k.invariant ∙ rw (
    here c.args.w.now c.loop-k.k c.loop-k-test.true,
    here c.args.self.now.rest.now c.loop-k.k (omega (arith, c.loop-k-test.true, c.if-s-w.false)),
  )
      (strip_no _ _ _ _ c.if-other.true),
  refl,
)

pub loop-k-preserved : goal.loop-k-preserved
loop-k-preserved c =
    c.loop-k.invariant ∙ rw (
      here c.args.w.now c.loop-k.k c.loop-k-test.true,
      here c.args.self.now.rest.now c.loop-k.k (omega (arith, c.loop-k-test.true, c.if-s-w.false)),
    )
    (strip_on _ _ _ _ c.if-other.false)

pub returns : goal.returns
returns c =
    let q : c.loop-k.k ≡ length c.args.w.now = omega arith in
    rw (take_rest c.args.self.now.rest.now (length c.args.w.now))
    (rw q at c.loop-k.invariant ∙ rw (past c.args.w.now (length c.args.w.now) (omega arith)) (strip_done _))

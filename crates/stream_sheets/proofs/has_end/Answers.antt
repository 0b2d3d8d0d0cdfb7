-- The first byte is no empty line; each further one is counted if it is.
use Rattle.std.proofs.Common.{arith, sym, ap, ◌∙◌, ◌-◌, false, get_or}
use Rattle.std.proofs.Math.Seq.{take_all}
use Rattle.stream_sheets.specs.Sheets.{empty_line}
use Rattle.stream_sheets.proofs.EmptyLines.{empty_first, ten_few, counted}
use Rattle.stream_sheets.proofs.has_end.Goals as goal

pub loop-i-init : goal.loop-i-init
loop-i-init c = (omega arith, sym (empty_first c.args.bytes.now c.requires.0))

pub loop-i-preserved : goal.loop-i-preserved
loop-i-preserved c =
    let x = c.args.bytes.now in
    let i = c.loop-i.i in
    let few = ten_few (get_or x (i - 1) 0) (get_or x i 0) c.both_ten-found.result c.both_ten-found.ensures in (
      omega (arith, few),
      counted false x i c.loop-i.found c.both_ten-found.result (omega arith) (omega arith)
          c.loop-i.invariant.1 c.both_ten-found.ensures,
    )

-- all bytes are looked at
pub returns : goal.returns
returns c =
    c.loop-i.invariant.1 ∙ ap (empty_line false) (take_all c.loop-i.i c.args.bytes.now (omega arith))

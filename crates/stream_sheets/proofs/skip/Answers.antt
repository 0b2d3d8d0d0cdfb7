-- No empty line stands in the first byte, nor in a block more.
use Rattle.std.proofs.Common.{◌≡◌, ℕ, ◌+◌, ◌*◌, ◌-◌, arith, sym, ap, subst, ◌∙◌, false, take, drop}
use Rattle.stream_sheets.specs.Sheets.{empty_line}
use Rattle.stream_sheets.specs.Ends.{Skipped}
use Rattle.stream_sheets.proofs.EmptyLines.{empty_first, skip_on}
use Rattle.stream_sheets.proofs.skip.Goals as goal

pub loop-block-init : goal.loop-block-init
loop-block-init c = record { inside = c.requires; none = empty_first c.args.piece.now c.requires }

pub loop-block-preserved : goal.loop-block-preserved
loop-block-preserved c =
    let x = c.args.piece.now in
    let i = 64 * c.loop-block.block in
    let s : 65 ≡ i + 65 - i = omega arith in
    let next : i + 64 ≡ 64 * (c.loop-block.block + 1) = omega arith in
    subst (Skipped x) next (record {
      inside = omega arith;
      none = skip_on x i 64 c.loop-block.invariant.inside c.loop-block.invariant.none
          (ap (λ (k : ℕ). empty_line false (take k (drop i x))) s ∙ sym c.has_end.ensures ∙ c.if-has_end.false);
    })

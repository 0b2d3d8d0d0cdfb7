-- As many bytes are kept as there is room for.
use Rattle.std.proofs.Common.{arith, rules, ◌+◌, ◌-◌, ◌≡◌}
use Rattle.stream_sheets.proofs.Keeping.{kept_first}
use Rattle.stream_sheets.proofs.keep.Goals as goal

pub returns : goal.returns
returns c =
    let h = c.args.filled in
    let n = c.min-n.result in
    let s : h + n - h ≡ n = omega arith in
    kept_first c.args.begun.now c.args.bytes.now c.copy_from_slice.new.self h n (h + n - h) c.requires.0
    c.requires.1 (search rules) s (search rules) (search rules)

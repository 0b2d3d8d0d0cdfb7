-- The lines that are left to pass.
use Rattle.std.proofs.Common.{◌≡◌, ◌-◌}
use Rattle.request.specs.Read.{formula_line}
use Rattle.text_read.specs.TextForm.{lines_past}
use Rattle.text_read.proofs.past_formulas.Given as goal

abbrev pub invariant-loop : goal.invariant-loop
invariant-loop l =
    lines_past l.count formula_line l.fn.r.rest.now ≡ lines_past (l.count - l.counter) formula_line l.r.rest.now

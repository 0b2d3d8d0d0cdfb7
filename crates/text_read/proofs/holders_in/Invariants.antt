-- The lines that are left to ask.
use Rattle.std.proofs.Common.{◌≡◌, ◌-◌}
use Rattle.text_read.specs.TextForm.{holders_in}
use Rattle.text_read.proofs.holders_in.Given as goal

abbrev pub invariant-loop : goal.invariant-loop
invariant-loop l = holders_in l.count l.fn.r.rest.now ≡ holders_in (l.count - l.counter) l.r.rest.now

-- The lines that are left to pass.
use Rattle.std.proofs.Common.{◌≡◌, ◌-◌}
use Rattle.text_read.specs.TextForm.{rising_past}
use Rattle.text_read.proofs.past_credentials.Given as goal

abbrev pub invariant-loop : goal.invariant-loop
invariant-loop l = rising_past 0 l.count l.fn.r.rest.now ≡ rising_past l.last (l.count - l.counter) l.r.rest.now

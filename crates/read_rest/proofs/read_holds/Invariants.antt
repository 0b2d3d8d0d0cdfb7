-- Before each turn: `serial-index` lines are read, their serials written.
use Rattle.std.proofs.Common.{◌≡◌, ◌-◌, take}
use Rattle.request.specs.Read.{hold_line}
use Rattle.read_rest.specs.LinesRead.{read_lines}
use Rattle.read_rest.proofs.Several.{prefixed}
use Rattle.read_rest.proofs.read_holds.Given as goal

abbrev pub invariant-loop-serial : goal.invariant-loop-serial
invariant-loop-serial l =
    read_lines l.count hold_line l.fn.r.rest.now
    ≡ prefixed (take l.serial-index l.serial-items) (read_lines (l.count - l.serial-index) hold_line l.at.rest.now)

-- Document 01's limits on derivations, as far as they speak of intervals and step lines.
use Rattle.std.specs.Prelude.{List, ◌≤◌}
use Rattle.logic.specs.Interval.{WellFormed}
use Rattle.logic.specs.Multiset.{Every}
use Rattle.logic.specs.Derives.{Hyp, Judgment, Derives}
use Rattle.request.specs.Range.{minute}
use Rattle.request.specs.Request.{Step, step_intervals}
use Rattle.request.specs.InRange.{StepInRange}

-- "minutes in range": the intervals that a derivation chooses, at `ll` and `ul`, end by the last minute, and so do
-- their breaks
abbrev pub Minutes : {R D : List Hyp} {g : Judgment} → Derives R D g → Type 0
Minutes (Derives.same m n d) = Minutes d
Minutes (Derives.ax c) = Unit {0}
Minutes (Derives.cp m d) = Minutes d
Minutes (Derives.tr d e) = Minutes d × Minutes e
Minutes (Derives.tl d) = Minutes d
Minutes Derives.or = Unit {0}
Minutes (Derives.ol d) = Minutes d
Minutes (Derives.wr d e) = Minutes d × Minutes e
Minutes (Derives.w1 d) = Minutes d
Minutes (Derives.w2 d) = Minutes d
Minutes (Derives.p1 d) = Minutes d
Minutes (Derives.p2 d) = Minutes d
Minutes (Derives.pl d e) = Minutes d × Minutes e
Minutes (Derives.ll {j = j} o c d e) = (j.to ≤ minute.last) × Minutes d × Minutes e
Minutes (Derives.ul {j = j} o c d e) = (j.to ≤ minute.last) × Minutes d × Minutes e
Minutes (Derives.br d) = Minutes d
Minutes (Derives.bl d) = Minutes d
Minutes (Derives.hr d) = Minutes d
Minutes (Derives.hl d) = Minutes d
Minutes (Derives.sr d) = Minutes d
Minutes (Derives.af d) = Minutes d
Minutes (Derives.sl c d) = Minutes d
Minutes (Derives.gr c) = Unit {0}
Minutes (Derives.al n d) = Minutes d

-- a step line of a request that passes 2, 3 and 43: its fields in range, its interval well formed
abbrev pub Writable : Step → Type 0
Writable s = StepInRange s × Every WellFormed (step_intervals s)

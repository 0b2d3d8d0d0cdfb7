-- Intervals (document 01: windows; document 02, ask 2: with a break).
use Rattle.std.specs.Prelude.{◌≡◌, Bool, true, ◌&&◌, ◌||◌, not, ◌⊎◌, ℕ, ◌+◌, min, max, ◌≤◌, ◌<◌, eqb, leb, ltb}
use Rattle.logic.specs.declared.Interval.{Interval}
use Rattle.logic.specs.Choice.{pick}

-- the interval from..to with the break first..last: "Every window gets two more fields, break first and break last,
-- after from and to."
abbrev pub span : ℕ → ℕ → ℕ → ℕ → Interval
span i j p q = record { from = i; to = j; first = p; last = q }

-- when a hypothesis or a goal holds, and what `ll` and `ul` choose; other intervals are those that lines write
abbrev pub Window : Type 0
Window = Interval

-- what stands where there is no interval
abbrev pub no_interval : Interval
no_interval = span 0 0 0 0

-- the minute lies in the break: "0,0 is no break", and every other break ends after minute 0
unfoldable pub in_break : Interval → ℕ → Bool
in_break i m = ltb 0 i.last && (leb i.first m && leb m i.last)

-- the interval has the minute: "A window is then the set of its minutes without the break"
unfoldable pub has : Interval → ℕ → Bool
has i m = (leb i.from m && leb m i.to) && not (in_break i m)

-- "and ⊇, "has the minute" and every rule that uses a window mean that set": I ⊇ J where I has every minute of J
infix 40 ◌⊇◌
pub record ◌⊇◌ (i j : Interval) : Type 0 where
  pub minute : (m : ℕ) → has j m ≡ true → has i m ≡ true

-- the interval has all minutes from p to before q: there are none, or they lie within from..to and the break is none,
-- before them or after them
unfoldable pub covers : Interval → ℕ → ℕ → Bool
covers i p q =
    leb q p || (leb i.from p && (leb q (i.to + 1)
    && (eqb i.last 0 || (ltb i.last i.first || (ltb i.last p || leb q i.first)))))

-- the test for ⊇, for all four numbers of both: I covers what J has before its break and what it has after it
unfoldable pub contains : Interval → Interval → Bool
contains i j =
    pick (eqb j.last 0) (covers i j.from (j.to + 1))
    (covers i j.from (min (j.to + 1) j.first) && covers i (max j.from (j.last + 1)) (j.to + 1))

-- the same four numbers
unfoldable pub same_interval : Interval → Interval → Bool
same_interval i j =
    (eqb i.from j.from && eqb i.to j.to) && (eqb i.first j.first && eqb i.last j.last)

-- "A window from..to needs from ≤ to."
abbrev pub Ordered : Interval → Type 0
Ordered i = i.from ≤ i.to

-- its test: reversed where from > to
unfoldable pub reversed : Interval → Bool
reversed i = ltb i.to i.from

-- "0,0 is no break; otherwise from < first ≤ last < to."
pub record Inside (i : Interval) : Type 0 where
  pub begins : i.from < i.first
  pub lasts : i.first ≤ i.last
  pub ends : i.last < i.to

abbrev pub Parted : Interval → Type 0
Parted i = ((i.first ≡ 0) × (i.last ≡ 0)) ⊎ Inside i

-- its test: broken where the break "is neither 0,0 nor strictly inside its window"
unfoldable pub broken : Interval → Bool
broken i =
    not ((eqb i.first 0 && eqb i.last 0)
    || (ltb i.from i.first && (leb i.first i.last && ltb i.last i.to)))

-- an interval as a request may name it
pub record WellFormed (i : Interval) : Type 0 where
  pub ordered : Ordered i
  pub parted : Parted i

-- The ranges that the fields of a request keep. Intervals may be reversed and breaks anywhere: those are
-- checks of their own (refusals 3 and 43).
use Rattle.std.specs.Prelude.{ℕ, ◌^◌, ◌≤◌, ◌<◌, length}
use Rattle.logic.specs.declared.Interval.{Interval}
use Rattle.logic.specs.Multiset.{Every}
use Rattle.request.specs.Range.{Range, predicate, session, principal, minute, formula_number, serial, label}
use Rattle.request.specs.Range.{holds, steps, holder, named_holder}
use Rattle.request.specs.Request.{Line, Step, Booking, Request, word, issue, withdraw, book, tally}

-- n is in the range
infix 30 ◌in_range◌
pub record ◌in_range◌ (n : ℕ) (r : Range) : Type 0 where
  pub least : r.first ≤ n
  pub most : n ≤ r.last

-- a set of the labels 0 to 63
abbrev pub LabelSet : ℕ → Type 0
LabelSet s = s < 2 ^ 64

pub record IntervalInRange (i : Interval) : Type 0 where
  pub from : i.from in_range minute
  pub to : i.to in_range minute
  pub first : i.first in_range minute
  pub last : i.last in_range minute

-- the numbers of two earlier formulas
pub record Parts (i j : ℕ) : Type 0 where
  pub left : i in_range formula_number
  pub right : j in_range formula_number

abbrev pub LineInRange : Line → Type 0
LineInRange (Line.atom p s) = record { predicate : p in_range predicate; session : s in_range session }
LineInRange Line.one = Unit {0}
LineInRange (Line.tensor i j) = Parts i j
LineInRange (Line.with i j) = Parts i j
LineInRange (Line.plus i j) = Parts i j
LineInRange (Line.lolli i j) = Parts i j
LineInRange (Line.implies i j) = Parts i j
LineInRange (Line.bang i) = i in_range formula_number
LineInRange (Line.at i w) = record { part : i in_range formula_number; interval : IntervalInRange w }
LineInRange (Line.says k i) = record { principal : k in_range principal; part : i in_range formula_number }
LineInRange (Line.superset v w) = record { first : IntervalInRange v; second : IntervalInRange w }
LineInRange (Line.named p s h) =
    record { predicate : p in_range predicate; session : s in_range session; holder : h in_range holder }
LineInRange (Line.for_every i) = i in_range formula_number

abbrev pub StepInRange : Step → Type 0
StepInRange (Step.ax l) = l in_range label
StepInRange (Step.cp l) = l in_range label
StepInRange (Step.tr s) = LabelSet s
StepInRange (Step.tl l) = l in_range label
StepInRange Step.or = Unit {0}
StepInRange (Step.ol l) = l in_range label
StepInRange Step.wr = Unit {0}
StepInRange (Step.w1 l) = l in_range label
StepInRange (Step.w2 l) = l in_range label
StepInRange Step.p1 = Unit {0}
StepInRange Step.p2 = Unit {0}
StepInRange (Step.pl l) = l in_range label
StepInRange (Step.ll l s j) = record { label : l in_range label; share : LabelSet s; interval : IntervalInRange j }
StepInRange (Step.ul l j) = record { label : l in_range label; interval : IntervalInRange j }
StepInRange Step.br = Unit {0}
StepInRange (Step.bl l) = l in_range label
StepInRange Step.hr = Unit {0}
StepInRange (Step.hl l) = l in_range label
StepInRange Step.sr = Unit {0}
StepInRange Step.af = Unit {0}
StepInRange (Step.sl l) = l in_range label
StepInRange Step.gr = Unit {0}
StepInRange (Step.al l h) = record { label : l in_range label; holder : h in_range named_holder }

pub record BookingInRange (b : Booking) : Type 0 where
  pub now : b.now in_range minute
  pub formula : b.formula in_range formula_number
  pub interval : IntervalInRange b.interval
  pub hold_count : length b.holds in_range holds
  pub step_count : length b.steps in_range steps
  pub holds : Every (λ n. n in_range serial) b.holds
  pub steps : Every StepInRange b.steps

abbrev pub InRange : Request → Type 0
InRange (word l) = LineInRange l
InRange (issue k n i) = record { formula : n in_range formula_number; interval : IntervalInRange i }
InRange (withdraw n) = n in_range serial
InRange (book b) = BookingInRange b
InRange (tally s m) = record { session : s in_range session; minute : m in_range minute }

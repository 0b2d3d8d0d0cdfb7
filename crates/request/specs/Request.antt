-- What a request says (document 01: a sheet): formula lines, step lines, the five requests.
use Rattle.std.specs.Prelude.{ℕ, List, [], ◌∷◌, ◌++◌}
use Rattle.logic.specs.declared.Interval.{Interval}
use Rattle.logic.specs.Interval.{Window}
use Rattle.request.specs.declared.Kind.{Kind}

-- A formula line (document 01: a wording line), in the paper's order; parts are the numbers of earlier formulas. The
-- last two are document 02's, ask 7: `n,predicate,session,holder` and `q,i`.
pub data Line : Type 0 where
  atom : ℕ → ℕ → Line
  one : Line
  tensor with plus lolli implies : ℕ → ℕ → Line
  bang : ℕ → Line
  at : ℕ → Interval → Line
  says : ℕ → ℕ → Line
  superset : Interval → Interval → Line
  named : ℕ → ℕ → ℕ → Line
  for_every : ℕ → Line

-- A step line, in the paper's order: a label L, a set of labels (a share), an interval. The last one is document 02's,
-- ask 7: a label and a holder.
pub data Step : Type 0 where
  ax cp : ℕ → Step
  tr : ℕ → Step
  tl : ℕ → Step
  or : Step
  ol : ℕ → Step
  wr : Step
  w1 w2 : ℕ → Step
  p1 p2 : Step
  pl : ℕ → Step
  ll : ℕ → ℕ → Window → Step
  ul : ℕ → Window → Step
  br : Step
  bl : ℕ → Step
  hr : Step
  hl : ℕ → Step
  sr af : Step
  sl : ℕ → Step
  gr : Step
  al : ℕ → ℕ → Step

-- `book,now,wording,from,to,first,last,holds,steps`, the serials held, the step lines
pub record Booking : Type 0 where
  pub now : ℕ
  pub formula : ℕ
  pub interval : Interval
  pub holds : List ℕ
  pub steps : List Step

pub data Request : Type 0 where
  word : Line → Request
  issue : Kind → ℕ → Interval → Request
  withdraw : ℕ → Request
  book : Booking → Request
  tally : ℕ → ℕ → Request

-- "any window field": the intervals of a request, in "head, or any step or wording"
abbrev pub line_intervals : Line → List Interval
line_intervals (Line.atom p s) = []
line_intervals Line.one = []
line_intervals (Line.tensor i j) = []
line_intervals (Line.with i j) = []
line_intervals (Line.plus i j) = []
line_intervals (Line.lolli i j) = []
line_intervals (Line.implies i j) = []
line_intervals (Line.bang i) = []
line_intervals (Line.at i w) = w ∷ []
line_intervals (Line.says k i) = []
line_intervals (Line.superset v w) = v ∷ w ∷ []
line_intervals (Line.named p s h) = []
line_intervals (Line.for_every i) = []

abbrev pub step_intervals : Step → List Interval
step_intervals (Step.ax l) = []
step_intervals (Step.cp l) = []
step_intervals (Step.tr s) = []
step_intervals (Step.tl l) = []
step_intervals Step.or = []
step_intervals (Step.ol l) = []
step_intervals Step.wr = []
step_intervals (Step.w1 l) = []
step_intervals (Step.w2 l) = []
step_intervals Step.p1 = []
step_intervals Step.p2 = []
step_intervals (Step.pl l) = []
step_intervals (Step.ll l s j) = j ∷ []
step_intervals (Step.ul l j) = j ∷ []
step_intervals Step.br = []
step_intervals (Step.bl l) = []
step_intervals Step.hr = []
step_intervals (Step.hl l) = []
step_intervals Step.sr = []
step_intervals Step.af = []
step_intervals (Step.sl l) = []
step_intervals Step.gr = []
step_intervals (Step.al l h) = []

unfoldable pub steps_intervals : List Step → List Interval
steps_intervals [] = []
steps_intervals (s ∷ ss) = step_intervals s ++ steps_intervals ss

unfoldable pub intervals : Request → List Interval
intervals (word l) = line_intervals l
intervals (issue k n i) = i ∷ []
intervals (withdraw n) = []
intervals (book b) = b.interval ∷ steps_intervals b.steps
intervals (tally s m) = []

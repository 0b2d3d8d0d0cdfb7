-- What the premise checker, the step checker and `check` answer, as the definition's outcome.
use Rattle.std.specs.Prelude.{◌≡◌, List, [], ℕ, ◌-◌, ◌≤◌, Result, Ok, Err}
use Rattle.std.proofs.Math.Option.{none, some}
use Rattle.request.specs.Request.{Step}
use Rattle.steps.specs.declared.Hypothesis.{Hypothesis}
use Rattle.steps.specs.declared.Sequent.{Sequent}
use Rattle.steps.specs.declared.Plan.{Plan}
use Rattle.steps.specs.Check.{Outcome, Judge, done, stopped, follow, premise_of}
use Rattle.ledger.specs.declared.Answer.{Answer}
use Rattle.ledger.specs.declared.Answer.TheVariants.{Refused}
use Rattle.ledger.specs.Checks.{Check, verdict}
use Rattle.steps.specs.Instance.{instance_row}
use Rattle.store_cells.specs.Layout.{row_at}
use Rattle.step_rows.specs.LabelRows.{label_at, put_label}
use Rattle.step_rows.specs.StepRows.{max_steps, steps_from}
use Rattle.step_checker.specs.declared.Closed.{Closed}
use Rattle.step_checker.specs.declared.Stop.{Stop}

-- what no step changes: the ledger's array, the step rows, the number of steps
pub record Setting : Type 0 where
  pub store : List ℕ
  pub steps : List ℕ
  pub total : ℕ

-- the last `left` step lines
abbrev pub lines_left : Setting → ℕ → List Step
lines_left e left = steps_from e.steps (e.total - left) left

-- with the table of labels after
abbrev pub outcome_of : Setting → Result Closed Stop → List Hypothesis → Outcome (List Hypothesis)
outcome_of e (Ok c) t = done (lines_left e c.left) t c.next
outcome_of e (Err s) t = stopped s.refusal s.step

abbrev pub left_of : Result Closed Stop → ℕ
left_of (Ok c) = c.left
left_of (Err s) = 0

-- the definition, at a fuel
abbrev pub judge : Setting → ℕ → Judge (List Hypothesis)
judge e f = premise_of (instance_row (row_at e.store)) label_at put_label e.total f

-- An answer r, with the table t' after, is the definition's at every fuel that suffices; the lines left do not grow.
pub record PremiseChecked (e : Setting) (left next : ℕ) (t : List Hypothesis) (q : Sequent)
    (r : Result Closed Stop) (t' : List Hypothesis) : Type 0 where
  pub same : (f : ℕ) → left ≤ f → outcome_of e r t' ≡ judge e f (lines_left e left) t next q
  pub fewer : left_of r ≤ left

pub record StepChecked (e : Setting) (left next : ℕ) (t : List Hypothesis) (R : ℕ) (p : Plan)
    (r : Result Closed Stop) (t' : List Hypothesis) : Type 0 where
  pub same : (f : ℕ) → left ≤ f
      → outcome_of e r t' ≡ follow put_label (judge e f) (e.total - left) (lines_left e left) t next R p
  pub fewer : left_of r ≤ left

-- how many step lines there are, and are left
pub record Fits (total left : ℕ) : Type 0 where
  pub among : left ≤ total
  pub few : total ≤ max_steps

-- What `check` answers, as document 01's check of the steps: it passes, or gives its refusal, 40 to 42, with its step.
abbrev pub refusal_of : Result (Unit {0}) Stop → Check
refusal_of (Ok u) = none
refusal_of (Err s) = some (record { number = s.refusal; step = s.step })

-- "the first to fail answers, with its step": a call's answer where that check fails; one that passes answers nothing,
-- written here as 0, 0
abbrev pub refused_by : Check → Answer
refused_by (some f) = Refused f.number f.step
refused_by none = Refused 0 0

-- an answer r is the definition's outcome o, with t the table after where the steps close the sequent
pub record Answers (o : Outcome (List Hypothesis)) (r : Result (Unit {0}) Stop) (t : List Hypothesis) : Type 0 where
  pub same : refusal_of r ≡ verdict o
  pub closes : r ≡ Ok tt → (n : ℕ) × (o ≡ done [] t n)

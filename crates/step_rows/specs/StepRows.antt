-- Step lines as rows: step k's number, label, the high and low 32 bits of its share, and its interval's from, to, first
-- and last. The holder of `al` stands as the low number.
use Rattle.std.specs.Prelude.{List, [], ◌∷◌, ℕ, zero, suc, ◌+◌, ◌*◌, get_or}
use Rattle.std.proofs.lemmas.List.Edits.{sets}
use Rattle.logic.specs.declared.Interval.{Interval}
use Rattle.logic.specs.Interval.{span}
use Rattle.request.specs.Range.{steps}
use Rattle.request.specs.Request.{Step}
use Rattle.step_rows.specs.declared.StepRow.{StepRow}

-- how wide a step's row is, how many rows there are, and how long the list
abbrev pub step_width : ℕ
step_width = 8

abbrev pub max_steps : ℕ
max_steps = steps.last

abbrev pub step_cells : ℕ
step_cells = max_steps * step_width

-- where the row of a step starts
abbrev pub step_place : ℕ → ℕ
step_place k = k * step_width

abbrev pub step_row : ℕ → ℕ → ℕ → ℕ → Interval → StepRow
step_row op l h w i = record { op = op; label = l; high = h; low = w; interval = i }

-- The step of a row

-- a set of labels is kept as two numbers, high and low, each below 2 to the 32
abbrev pub half : ℕ
half = 4294967296

-- the set of labels of a row
abbrev pub share : StepRow → ℕ
share r = r.high * half + r.low

abbrev pub implies : StepRow → Step
implies r = Step.ul r.label r.interval

-- A step's number is its place here, so that right and left steps are ranges: `af`, the right steps and `ax`, `cp`,
-- the left steps, of which `ll` and `ul` have intervals.
abbrev pub makers : List (StepRow → Step)
makers =
    (λ r. Step.af) ∷ (λ r. Step.or) ∷ (λ r. Step.gr) ∷ (λ r. Step.p1) ∷ (λ r. Step.p2) ∷ (λ r. Step.br) ∷
    (λ r. Step.hr) ∷ (λ r. Step.sr) ∷ (λ r. Step.wr) ∷ (λ r. Step.tr (share r)) ∷
    (λ r. Step.ax r.label) ∷ (λ r. Step.cp r.label) ∷ (λ r. Step.ol r.label) ∷ (λ r. Step.w1 r.label) ∷
    (λ r. Step.w2 r.label) ∷ (λ r. Step.bl r.label) ∷ (λ r. Step.hl r.label) ∷ (λ r. Step.sl r.label) ∷
    (λ r. Step.tl r.label) ∷ (λ r. Step.pl r.label) ∷ (λ r. Step.al r.label r.low) ∷
    (λ r. Step.ll r.label (share r) r.interval) ∷ implies ∷ []

-- the numbers at which ranges end or begin, and that of no step; `tr` is the first with a field, `al` the first with
-- more than a label or a share
abbrev pub tr_number : ℕ
tr_number = 9

abbrev pub ax_number : ℕ
ax_number = 10

abbrev pub ol_number : ℕ
ol_number = 12

abbrev pub al_number : ℕ
al_number = 20

abbrev pub ll_number : ℕ
ll_number = 21

abbrev pub ul_number : ℕ
ul_number = 22

abbrev pub no_step : ℕ
no_step = 23

-- every number past the last reads as the last
unfoldable pub step_of : StepRow → Step
step_of r = get_or makers r.op implies r

-- Rows in a list of numbers

unfoldable pub step_row_at : List ℕ → ℕ → StepRow
step_row_at l k =
    step_row (get_or l (step_place k) 0) (get_or l (step_place k + 1) 0) (get_or l (step_place k + 2) 0)
    (get_or l (step_place k + 3) 0) (span (get_or l (step_place k + 4) 0) (get_or l (step_place k + 5) 0)
    (get_or l (step_place k + 6) 0) (get_or l (step_place k + 7) 0))

unfoldable pub put_step_row : List ℕ → ℕ → StepRow → List ℕ
put_step_row l k r =
    let i = r.interval in
    sets l (step_place k) (r.op ∷ r.label ∷ r.high ∷ r.low ∷ i.from ∷ i.to ∷ i.first ∷ i.last ∷ [])

abbrev pub step_at : List ℕ → ℕ → Step
step_at l k = step_of (step_row_at l k)

-- n steps from the k-th on
unfoldable pub steps_from : List ℕ → ℕ → ℕ → List Step
steps_from l k zero = []
steps_from l k (suc n) = step_at l k ∷ steps_from l (suc k) n

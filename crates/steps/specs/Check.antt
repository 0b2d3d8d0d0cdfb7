-- The step checker: it follows the plans of the steps, takes labels, and counts the step lines.
use Rattle.std.specs.Prelude.{List, [], ◌∷◌, true, false, ℕ, zero, suc, ◌+◌, ◌-◌, leb, length}
use Rattle.request.specs.Range.{label_count}
use Rattle.request.specs.Request.{Step}
use Rattle.labels.specs.Labels.{insert}
use Rattle.steps.specs.declared.Row.{Row}
use Rattle.steps.specs.declared.Hypothesis.{Hypothesis}
use Rattle.steps.specs.declared.Sequent.{Sequent}
use Rattle.steps.specs.declared.Fresh.{Fresh}
use Rattle.steps.specs.declared.Fresh.TheVariants.{Nothing, Linear, Both, Unrestricted}
use Rattle.steps.specs.declared.Premise.{Premise}
use Rattle.steps.specs.declared.Plan.{Plan}
use Rattle.steps.specs.declared.Plan.TheVariants.{Refused, Closed, One, Two}
use Rattle.steps.specs.Plans.{plan_of}

-- labels 0 to 63
unfoldable pub max_labels : ℕ
max_labels = label_count

-- what takes new labels, on the linear side and on the unrestricted
abbrev pub linears : Fresh → List Hypothesis
linears Nothing = []
linears (Linear h) = h ∷ []
linears (Both h k) = h ∷ k ∷ []
linears (Unrestricted h) = []

abbrev pub joins : Fresh → List Hypothesis
joins Nothing = []
joins (Linear h) = []
joins (Both h k) = []
joins (Unrestricted h) = h ∷ []

-- a set with new labels from n on
abbrev pub adds : ℕ → List Hypothesis → ℕ → ℕ
adds n [] d = d
adds n (h ∷ hs) d = adds (suc n) hs (insert d n)

-- A premise begins: the table of labels then, the next label and its sequent; or there is no label left.
pub data Beginning (T : Type 0) : Type 0 where
  full : Beginning T
  begun : T → ℕ → Sequent → Beginning T

-- A sequent closes: the step lines left, the table and the next label; or it is stopped, by a refusal with its step.
pub data Outcome (T : Type 0) : Type 0 where
  done : List Step → T → ℕ → Outcome T
  stopped : ℕ → ℕ → Outcome T

-- T is the table of labels, `put` writes what a label stands for.
module _ {T : Type 0} (put : T → ℕ → Hypothesis → T) where
  -- new labels from n on, in the table
  abbrev pub puts : T → ℕ → List Hypothesis → T
  puts t n [] = t
  puts t n (h ∷ hs) = puts (put t n h) (suc n) hs

  -- "A new label is the lowest never taken in this sheet, taken when its premise begins": the labels from `next` on,
  -- the linear ones first. "R passes to every premise": r is that of the step's sequent.
  unfoldable pub begin : T → ℕ → ℕ → Premise → Beginning T
  begin t next r p =
      let l = linears p.fresh in
      let j = joins p.fresh in
      elim (leb (next + (length l + length j)) max_labels) [
        | true ↦ begun (puts (puts t next l) (next + length l) j) (next + (length l + length j)) (record {
          unrestricted = adds (next + length l) j r;
          linear = adds next l p.linear;
          goal = p.goal;
        })
        | false ↦ full
      ]

-- how a sequent is judged: step lines, table, next label, sequent
abbrev pub Judge : Type 0 → Type 0
Judge T = List Step → T → ℕ → Sequent → Outcome T

-- A premise that has begun is judged; 41 where it could not begin, with n, the step that leaves it: "step is right but
-- needs label 64 (step = the one whose rule wants it, also for its second premise, found as that begins)"
unfoldable pub judged : {T : Type 0} → Judge T → ℕ → List Step → Beginning T → Outcome T
judged judge n ss full = stopped 41 n
judged judge n ss (begun t next q) = judge ss t next q

-- go on where the first premise closes
unfoldable pub onward : {T : Type 0} → Outcome T → (List Step → T → ℕ → Outcome T) → Outcome T
onward (done ss t next) k = k ss t next
onward (stopped c n) k = stopped c n

-- "A step closes the line or leaves one or two premises; first comes the whole of the first premise, then the whole of
-- the second." Step n, with the lines ss after it, at a sequent with the unrestricted labels r.
unfoldable pub follow : {T : Type 0} → (T → ℕ → Hypothesis → T) → Judge T → ℕ → List Step → T → ℕ → ℕ → Plan → Outcome T
follow put judge n ss t next r Refused = stopped 40 n
follow put judge n ss t next r Closed = done ss t next
follow put judge n ss t next r (One p) = judged judge n ss (begin put t next r p)
follow put judge n ss t next r (Two p q) =
    onward (judged judge n ss (begin put t next r p))
    (λ ss₁ t₁ next₁. judged judge n ss₁ (begin put t₁ next₁ r q))

-- "or lines follow the close (step = the first of them)", of `total` steps
unfoldable pub finished : {T : Type 0} → ℕ → Outcome T → Outcome T
finished total (done [] t next) = done [] t next
finished total (done (s ∷ ss) t next) = stopped 42 (total - length ss)
finished total (stopped c n) = stopped c n

-- `row` gives a formula's row, `held` and `put` read and write the table of labels, `total` is the number of steps.
module _ {T : Type 0} (row : ℕ → Row) (held : T → ℕ → Hypothesis) (put : T → ℕ → Hypothesis → T) (total : ℕ) where
  -- A sequent is judged by the next step line; 42 where there is none, with "step = steps + 1". The fuel, no less than
  -- the lines left, makes the recursion structural.
  unfoldable pub premise_of : ℕ → Judge T
  premise_of zero ss t next q = stopped 42 (total + 1)
  premise_of (suc f) [] t next q = stopped 42 (total + 1)
  premise_of (suc f) (s ∷ ss) t next q =
      follow put (premise_of f) (total - length ss) ss t next q.unrestricted
      (plan_of row (held t) q.unrestricted q.linear q.goal s)

  -- all step lines of a booking
  unfoldable pub check_of : List Step → T → ℕ → Sequent → Outcome T
  check_of ss t next q = finished total (premise_of (length ss) ss t next q)

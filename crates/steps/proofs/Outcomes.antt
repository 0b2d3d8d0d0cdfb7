-- What the step checker can answer: a refusal is 40, 41 or 42, its step counts from 1 to steps + 1.
use mathlib.Core.List.{List, [], ◌∷◌}
use Prim.Native.Nat.{ℕ, zero, suc, ◌+◌, ◌-◌, ◌≤◌}
use native.Mathlib.Omega.{arith}
use lib.ListN.{length}
use Rattle.request.specs.Request.{Step}
use Rattle.steps.specs.declared.Row.{Row}
use Rattle.steps.specs.declared.Hypothesis.{Hypothesis}
use Rattle.steps.specs.declared.Sequent.{Sequent}
use Rattle.steps.specs.declared.Plan.{Plan}
use Rattle.steps.specs.declared.Plan.TheVariants.{Refused, Closed, One, Two}
use Rattle.steps.specs.Plans.{plan_of}
use Rattle.steps.specs.Check.{Beginning, full, begun, Outcome, done, stopped, begin, Judge, judged, onward}
use Rattle.steps.specs.Check.{follow}
use Rattle.steps.specs.Check.{premise_of, finished, check_of}

-- a refusal of the steps, of which there are `total`
pub record StepRefusal (total c n : ℕ) : Type 0 where
  pub low : 40 ≤ c
  pub high : c ≤ 42
  pub counted : 1 ≤ n
  pub within : n ≤ total + 1

ended_sane : (total : ℕ) → StepRefusal total 42 (total + 1)
ended_sane total = record { low = omega arith; high = omega arith; counted = omega arith; within = omega arith }

module _ {T : Type 0} (total : ℕ) where
  -- at most `left` lines are left, or such a refusal
  abbrev pub Sane : ℕ → Outcome T → Type 0
  Sane left (done ss t next) = length ss ≤ left
  Sane left (stopped c n) = StepRefusal total c n

  abbrev SaneJudge : Judge T → Type 0
  SaneJudge judge = (ss : List Step) (t : T) (next : ℕ) (q : Sequent) → length ss ≤ total
      → Sane (length ss) (judge ss t next q)

  fewer : (m n : ℕ) → m ≤ n → (o : Outcome T) → Sane m o → Sane n o
  fewer m n h (done ss t next) s = omega (arith, s)
  fewer m n h (stopped c k) s = s

  onward_sane : (left : ℕ) (o : Outcome T) (k : List Step → T → ℕ → Outcome T) → Sane left o
      → ((ss : List Step) (t : T) (next : ℕ) → length ss ≤ left → Sane left (k ss t next)) → Sane left (onward o k)
  unfolding onward
  onward_sane left (done ss t next) k s h = h ss t next s
  onward_sane left (stopped c n) k s h = s

  finished_sane : (left : ℕ) (o : Outcome T) → left ≤ total → Sane left o → Sane left (finished total o)
  unfolding finished
  finished_sane left (done [] t next) h s = omega arith
  finished_sane left (done (x ∷ ss) t next) h s =
      record { low = omega arith; high = omega arith; counted = omega (arith, s); within = omega arith }
  finished_sane left (stopped c n) h s = s

  -- step n, with the lines ss after it
  module _ (judge : Judge T) (sane : SaneJudge judge) (n : ℕ) (from_one : 1 ≤ n) (few : n ≤ total) where
    judged_sane : (ss : List Step) (b : Beginning T) → length ss ≤ total → Sane (length ss) (judged judge n ss b)
    unfolding judged
    judged_sane ss full h = record { low = omega arith; high = omega arith; counted = from_one; within = omega arith }
    judged_sane ss (begun t next q) h = sane ss t next q h

    follow_sane : (put : T → ℕ → Hypothesis → T) (ss : List Step) (t : T) (next r : ℕ) (p : Plan) → length ss ≤ total
        → Sane (length ss) (follow put judge n ss t next r p)
    unfolding follow
    follow_sane put ss t next r Refused h =
        record { low = omega arith; high = omega arith; counted = from_one; within = omega arith }
    follow_sane put ss t next r Closed h = omega arith
    follow_sane put ss t next r (One p) h = judged_sane ss (begin put t next r p) h
    follow_sane put ss t next r (Two p q) h =
        onward_sane (length ss) (judged judge n ss (begin put t next r p)) _ (judged_sane ss (begin put t next r p) h)
        (λ ss₁ t₁ next₁ l. fewer (length ss₁) (length ss) l (judged judge n ss₁ (begin put t₁ next₁ r q))
        (judged_sane ss₁ (begin put t₁ next₁ r q) (omega arith)))

module _ {T : Type 0} (row : ℕ → Row) (held : T → ℕ → Hypothesis) (put : T → ℕ → Hypothesis → T) (total : ℕ) where
  premise_sane : (f : ℕ) → SaneJudge total (premise_of row held put total f)
  unfolding premise_of
  premise_sane zero ss t next q h = ended_sane total
  premise_sane (suc f) [] t next q h = ended_sane total
  premise_sane (suc f) (s ∷ ss) t next q h =
      fewer total (length ss) (length (s ∷ ss)) (omega arith)
      (premise_of row held put total (suc f) (s ∷ ss) t next q)
      (follow_sane total (premise_of row held put total f) (premise_sane f) (total - length ss) (omega arith)
      (omega arith) put ss t next q.unrestricted
      (plan_of row (held t) q.unrestricted q.linear q.goal s) (omega arith))

  pub check_sane : (ss : List Step) (t : T) (next : ℕ) (q : Sequent) → length ss ≤ total
      → Sane total (length ss) (check_of row held put total ss t next q)
  unfolding check_of
  check_sane ss t next q h =
      finished_sane total (length ss) (premise_of row held put total (length ss) ss t next q) h
      (premise_sane (length ss) ss t next q h)

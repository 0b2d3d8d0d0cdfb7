-- Steps by their numbers, and steps that break their rule.
use mathlib.Core.Path.{◌≡◌, refl, ap, subst}
use mathlib.Core.Bool.{false, ◌||◌}
use Prim.Native.Nat.{ℕ, zero, suc, ◌+◌, ◌-◌, ◌^◌, ◌≤◌, ◌<◌}
use Prim.Native.Char.{Char}
use native.Mathlib.Omega.{arith}
use native.Mathlib.Decide.{dec_le}
use lib.ListN.{get_or, get_or-eq_default}
use Rattle.logic.specs.declared.Interval.{Interval}
use Rattle.request.specs.Request.{Step}
use Rattle.labels.specs.Labels.{member}
use Rattle.steps.specs.declared.Row.{Row}
use Rattle.steps.specs.declared.Hypothesis.{Hypothesis}
use Rattle.steps.specs.declared.Goal.{Goal}
use Rattle.steps.specs.declared.Goal.TheVariants.{Holds, Affirms}
use Rattle.steps.specs.declared.Plan.{Plan}
use Rattle.steps.specs.declared.Plan.TheVariants.{Refused}
use Rattle.steps.specs.Plans.{when, is, right, affirmed, left, atomic, plan_of}
use Rattle.step_plans.proofs.PlanTests.{when_refused, not_just}
use Rattle.step_rows.specs.declared.StepRow.{StepRow}
use Rattle.step_rows.specs.StepRows.{makers, implies, step_of, ax_number, ol_number, ul_number, no_step}

-- the step of a row
pub numbered : (s : StepRow) {n : ℕ} → s.op ≡ n → step_of s ≡ get_or makers n implies s
unfolding step_of
numbered s e = ap (λ (k : ℕ). get_or makers k implies s) e

-- of a row t that is read as s
pub read_as : {s t : StepRow} {n : ℕ} → s ≡ t → s.op ≡ n → step_of t ≡ get_or makers n implies s
read_as {s} {n = n} e x = subst (λ (y : StepRow). step_of y ≡ get_or makers n implies s) e (numbered s x)

-- n is none of k numbers from b on, as a match leaves it
abbrev Others : ℕ → ℕ → ℕ → Type 0
Others b zero n = Unit {0}
Others b (suc k) n = Others b k n × (n ≡ b + k → ⊥)

beyond : (b k n : ℕ) → b ≤ n → Others b k n → b + k ≤ n
beyond b zero n h o = omega arith
beyond b (suc k) n h o = omega (arith, beyond b k n h o.0, o.1)

-- how many numbers the right steps and `ax` have before the last of them, and the left steps
abbrev rights : ℕ
rights = ax_number - 1

abbrev lefts : ℕ
lefts = ul_number - ol_number

-- the last of the right steps' numbers, where it is none of the others
pub last_right : (n : ℕ) → 1 ≤ n → n ≤ ax_number → Others 1 rights n → n ≡ ax_number
last_right n h l o = omega (arith, beyond 1 rights n h o)

from_last : (s : StepRow) → ul_number ≤ s.op → step_of s ≡ implies s
unfolding step_of
from_last s h = go (dec_le no_step s.op)
  where
    go : Dec (no_step ≤ s.op) → step_of s ≡ implies s
    go (yes l) = ap (λ (f : StepRow → Step). f s) (get_or-eq_default makers implies l)
    go (no l) =
        let e : s.op ≡ ul_number = omega (arith, l) in
        numbered s e

-- and of the left steps
last_left : (s : StepRow) → ol_number ≤ s.op → Others ol_number lefts s.op → step_of s ≡ implies s
last_left s h o = from_last s (omega (arith, beyond ol_number lefts s.op h o))

pub read_last : {s t : StepRow} → s ≡ t → ol_number ≤ s.op → Others ol_number lefts s.op → step_of t ≡ implies s
read_last {s} e h o = subst (λ (y : StepRow). step_of y ≡ implies s) e (last_left s h o)

-- the ranges of the right and of the left steps' numbers, at a row that is read as another
pub right_row : {s t : StepRow} → s ≡ t → 1 ≤ s.op → s.op ≤ ax_number → (1 ≤ t.op) × (t.op ≤ ax_number)
right_row e l u = (subst (λ (y : StepRow). 1 ≤ y.op) e l, subst (λ (y : StepRow). y.op ≤ ax_number) e u)

pub left_row : {s t : StepRow} → s ≡ t → ol_number ≤ s.op → ol_number ≤ t.op
left_row e l = subst (λ (y : StepRow). ol_number ≤ y.op) e l

-- what holds at 0 to k - 1 holds at each number below k
abbrev Each : (ℕ → Type 0) → ℕ → Type 0
Each P zero = Unit {0}
Each P (suc k) = P zero × Each (λ n. P (suc n)) k

each : (P : ℕ → Type 0) (k n : ℕ) → n < k → Each P k → P n
each P zero n h e = absurd (omega arith)
each P (suc k) zero h e = e.0
each P (suc k) (suc n) h e = each (λ m. P (suc m)) k n (omega arith) e.1

-- Steps that break their rule

module _ (row : ℕ → Row) (label : ℕ → Hypothesis) (R D : ℕ) where
  -- "The right steps .. and `ax` need a goal without affirms"
  pub right_refused : (k m : ℕ) (i : Interval) (s : StepRow) → 1 ≤ s.op → s.op ≤ ax_number
      → plan_of row label R D (Affirms m i k) (step_of s) ≡ Refused
  unfolding plan_of right atomic
  right_refused k m i s l u =
      let e : s.op ≡ 1 + (s.op - 1) = omega arith in
      let refuses : ℕ → Type 0 =
      λ n. plan_of row label R D (Affirms m i k) (get_or makers (1 + n) implies s) ≡ Refused in
      rw (numbered s e)
      (each refuses ax_number (s.op - 1) (omega arith)
      (refl, (refl, (refl, (refl, (refl, (refl, (refl, (refl, (refl, (refl, tt)))))))))))

  pub ax_refused : (n : ℕ) (i : Interval) (l : ℕ) → D < 2 ^ 64 → 64 ≤ l
      → plan_of row label R D (Holds n i) (Step.ax l) ≡ Refused
  unfolding plan_of atomic when
  ax_refused n i l h b = rw (not_just D l h b) (when_refused (is (row n) "a" || is (row n) "n"))

  -- "L is in D save at `cp`"
  module _ (g : Goal) (s : StepRow) (e : member D s.label ≡ false) where
    not_in : (c : Char) (k : Interval → Row → Plan) → left row label R D g s.label c k ≡ Refused
    unfolding left when
    not_in c k = rw e refl

    not_affirmed : (h : Goal) (k : ℕ → Interval → Interval → Row → Plan)
        → affirmed row label R D g h (λ p n j. left row label R D g s.label "s" (k p j)) ≡ Refused
    unfolding affirmed
    not_affirmed (Holds n i) k = refl
    not_affirmed (Affirms n j p) k = not_in "s" (k p j)

    pub left_refused : ol_number ≤ s.op → plan_of row label R D g (step_of s) ≡ Refused
    unfolding plan_of
    left_refused h = go (dec_le ul_number s.op)
      where
        go : Dec (ul_number ≤ s.op) → plan_of row label R D g (step_of s) ≡ Refused
        go (yes l) = rw (from_last s l) (not_in _ _)
        go (no l) =
            let e : s.op ≡ ol_number + (s.op - ol_number) = omega arith in
            let refuses : ℕ → Type 0 =
            λ n. plan_of row label R D g (get_or makers (ol_number + n) implies s) ≡ Refused in
            rw (numbered s e)
            (each refuses lefts (s.op - ol_number) (omega (arith, l)) (
              not_in _ _,
              (
                not_in _ _,
                (
                  not_in _ _,
                  (
                    not_in _ _,
                    (
                      not_in _ _,
                      (
                        not_affirmed g _,
                        (
                          not_in _ _,
                          (not_in _ _, (not_in _ _, (not_in _ _, tt))),
                        ),
                      ),
                    ),
                  ),
                ),
              ),
            ))

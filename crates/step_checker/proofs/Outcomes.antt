-- What each way out of the premise checker, the step checker and `check` answers.
use mathlib.Core.Path.{◌≡◌, refl, sym, ap, subst, ◌∙◌}
use mathlib.Core.List.{List, [], ◌∷◌}
use Prim.Native.Nat.{ℕ, zero, suc, ◌+◌, ◌-◌, ◌≤◌}
use native.Mathlib.Omega.{arith}
use Rattle.std.specs.Prelude.{Result, Ok, Err}
use Rattle.steps.specs.declared.Hypothesis.{Hypothesis}
use Rattle.steps.specs.declared.Sequent.{Sequent}
use Rattle.steps.specs.declared.Premise.{Premise}
use Rattle.steps.specs.declared.Plan.{Plan}
use Rattle.steps.specs.declared.Plan.TheVariants.{Refused, Closed, One, Two}
use Rattle.steps.specs.Check.{full, begun, begin, Outcome, done, stopped, judged, onward, follow, finished}
use Rattle.steps.specs.Check.{premise_of, check_of}
use Rattle.steps.specs.Plans.{plan_of}
use Rattle.ledger.specs.Checks.{verdict}
use Rattle.steps.specs.Instance.{instance_row}
use Rattle.store_cells.specs.Layout.{row_at}
use Rattle.step_rows.specs.LabelRows.{label_at, put_label}
use Rattle.step_rows.specs.StepRows.{step_at, steps_from}
use Rattle.step_rows.proofs.StepRows.{length_from}
use Rattle.step_checker.specs.declared.Closed.{Closed as Closing}
use Rattle.step_checker.specs.declared.Stop.{Stop}
use Rattle.step_checker.specs.Cycle.{Setting, lines_left, outcome_of, judge, PremiseChecked, StepChecked, Answers}

-- stopped by this refusal, at this step
abbrev pub stop_of : ℕ → ℕ → Stop
stop_of c n = record { refusal = c; step = n }

module _ {e : Setting} {left next : ℕ} {t : List Hypothesis} {R : ℕ} {p : Plan} where
  pub is_refused : {t' : List Hypothesis} → p ≡ Refused
      → StepChecked e left next t R p (Err (stop_of 40 (e.total - left))) t'
  unfolding follow
  is_refused x = record { same = λ f _. simp x; fewer = omega arith }

  pub is_closed : p ≡ Closed → StepChecked e left next t R p (Ok (record { left = left; next = next })) t
  unfolding follow
  is_closed x = record { same = λ f _. simp x; fewer = omega arith }

  pub one_full : {s : Premise} {t' : List Hypothesis} → p ≡ One s → full ≡ begin put_label t next R s
      → StepChecked e left next t R p (Err (stop_of 41 (e.total - left))) t'
  unfolding follow judged
  one_full x w = record { same = λ f _. simp (x, sym w); fewer = omega arith }

  pub one : {s : Premise} {q : Sequent} {n : ℕ} {t₁ t' : List Hypothesis} {r : Result Closing Stop} → p ≡ One s
      → begun t₁ n q ≡ begin put_label t next R s → PremiseChecked e left n t₁ q r t'
      → StepChecked e left next t R p r t'
  unfolding follow judged
  one x w m = record { same = λ f h. simp (x, sym w) (m.same f h); fewer = m.fewer }

  module _ {s s₂ : Premise} (x : p ≡ Two s s₂) where
    pub first_full : {t' : List Hypothesis} → full ≡ begin put_label t next R s
        → StepChecked e left next t R p (Err (stop_of 41 (e.total - left))) t'
    unfolding follow judged onward
    first_full w = record { same = λ f _. simp (x, sym w); fewer = omega arith }

    module _ {q : Sequent} {n : ℕ} {t₁ t₂ : List Hypothesis} (w : begun t₁ n q ≡ begin put_label t next R s) where
      pub first_stops : {k : Stop} {t' : List Hypothesis} → PremiseChecked e left n t₁ q (Err k) t₂
          → StepChecked e left next t R p (Err k) t'
      unfolding follow judged onward
      first_stops m = record { same = λ f h. simp (x, sym w, sym (m.same f h)); fewer = omega arith }

      module _ {c : Closing} (m : PremiseChecked e left n t₁ q (Ok c) t₂) where
        pub second_full : {t' : List Hypothesis} → full ≡ begin put_label t₂ c.next R s₂
            → StepChecked e left next t R p (Err (stop_of 41 (e.total - left))) t'
        unfolding follow judged onward
        second_full w₂ = record { same = λ f h. simp (x, sym w, sym (m.same f h), sym w₂); fewer = omega arith }

        pub both : {q₂ : Sequent} {n₂ : ℕ} {t₃ t' : List Hypothesis} {r : Result Closing Stop}
            → begun t₃ n₂ q₂ ≡ begin put_label t₂ c.next R s₂ → PremiseChecked e c.left n₂ t₃ q₂ r t'
            → StepChecked e left next t R p r t'
        unfolding follow judged onward
        both w₂ m₂ = record {
          same = λ f h. simp (x, sym w, sym (m.same f h), sym w₂) (m₂.same f (omega (arith, m.fewer)));
          fewer = omega (arith, m.fewer, m₂.fewer);
        }

-- the lines left, from the next on
lines_next : (e : Setting) (left : ℕ) → left ≤ e.total → (left ≡ 0 → ⊥)
    → lines_left e left ≡ step_at e.steps (e.total - left) ∷ lines_left e (left - 1)
unfolding steps_from
lines_next e zero h n = absurd (n refl)
lines_next e (suc m) h n =
    let a : suc m - 1 ≡ m = omega arith in
    let b : suc (e.total - suc m) ≡ e.total - m = omega arith in
    rw (a, b) refl

module _ {e : Setting} {left next : ℕ} {t : List Hypothesis} {q : Sequent} where
  pub none_left : {t' : List Hypothesis} → left ≡ 0 → PremiseChecked e left next t q (Err (stop_of 42 (e.total + 1))) t'
  unfolding premise_of steps_from
  none_left {t'} x = record { same = λ f _. go f; fewer = omega arith }
    where
      go : (f : ℕ) → outcome_of e (Err (stop_of 42 (e.total + 1))) t' ≡ judge e f (lines_left e left) t next q
      go zero = refl
      go (suc f) = simp x

  pub goes_on : {p : Plan} {r : Result Closing Stop} {t' : List Hypothesis} → left ≤ e.total → (left ≡ 0 → ⊥)
      → p ≡ plan_of (instance_row (row_at e.store)) (label_at t) q.unrestricted q.linear q.goal
      (step_at e.steps (e.total - left))
      → StepChecked e (left - 1) next t q.unrestricted p r t' → PremiseChecked e left next t q r t'
  unfolding premise_of
  goes_on {r = r} {t'} among n z m = record { same = go; fewer = omega (arith, m.fewer) }
    where
      go : (f : ℕ) → left ≤ f → outcome_of e r t' ≡ judge e f (lines_left e left) t next q
      go zero h = absurd (n (omega arith))
      go (suc f) h =
          rw (lines_next e left among n, premise_of, length_from, ← z) (m.same f (omega arith))

-- The whole

answers_is : {o o' : Outcome (List Hypothesis)} {r : Result (Unit {0}) Stop} {t : List Hypothesis}
    → o ≡ o' → Answers o' r t → Answers o r t
answers_is {r = r} {t} x a = subst (λ (y : Outcome (List Hypothesis)). Answers y r t) (sym x) a

answers_stopped : {k : Stop} {t : List Hypothesis} → Answers (stopped k.refusal k.step) (Err k) t
unfolding verdict
answers_stopped = record { same = refl; closes = λ x. absurd (cc) }

abbrev whole : Setting → List Hypothesis → ℕ → Sequent → Outcome (List Hypothesis)
whole e t next q =
    check_of (instance_row (row_at e.store)) label_at put_label e.total (steps_from e.steps 0 e.total) t next q

module _ {e : Setting} {t t' : List Hypothesis} {next : ℕ} {q : Sequent} where
  outcome : {r : Result Closing Stop} → PremiseChecked e e.total next t q r t'
      → whole e t next q ≡ finished e.total (outcome_of e r t')
  unfolding check_of
  outcome m =
      let z : e.total - e.total ≡ 0 = omega arith in
      rw length_from (ap (finished e.total) (sym (rw z at (m.same e.total (omega arith)))))

  pub whole_stops : {k : Stop} → PremiseChecked e e.total next t q (Err k) t' → Answers (whole e t next q) (Err k) t'
  unfolding finished
  whole_stops m = answers_is (outcome m) answers_stopped

  module _ {c : Closing} (m : PremiseChecked e e.total next t q (Ok c) t') where
    pub whole_closes : c.left ≡ 0 → Answers (whole e t next q) (Ok tt) t'
    unfolding finished steps_from verdict
    whole_closes z =
        let y : finished e.total (outcome_of e (Ok c) t') ≡ done [] t' c.next = simp z in
        answers_is (outcome m ∙ y) (record { same = refl; closes = λ _. (c.next, refl) })

    pub whole_follows : (c.left ≡ 0 → ⊥) → Answers (whole e t next q) (Err (stop_of 42 (e.total - c.left + 1))) t'
    unfolding finished
    whole_follows n =
        let among : c.left ≤ e.total = m.fewer in
        let k : e.total - (c.left - 1) ≡ e.total - c.left + 1 = omega (arith, n) in
        let y : finished e.total (outcome_of e (Ok c) t') ≡ stopped 42 (e.total - c.left + 1) =
        rw (lines_next e c.left among n, finished, length_from, k) refl in
        answers_is (outcome m ∙ y) answers_stopped

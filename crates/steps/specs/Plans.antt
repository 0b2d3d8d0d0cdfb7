-- Document 01's section "Steps", with document 02's `al`, as a computation on formula numbers and sets of labels: what
-- each step asks of a sequent, and what it leaves.
use Rattle.std.specs.Prelude.{Bool, true, false, ◌&&◌, ◌||◌, ℕ, eqb, leb}
use Prim.Native.Char.{Char, code}
use Rattle.logic.specs.declared.Interval.{Interval}
use Rattle.logic.specs.Interval.{contains}
use Rattle.logic.specs.Formula.{last_holder}
use Rattle.request.specs.Request.{Step}
use Rattle.labels.specs.Labels.{member, subset, is_empty, is_just, remove, without}
use Rattle.steps.specs.declared.Row.{Row}
use Rattle.steps.specs.declared.Hypothesis.{Hypothesis}
use Rattle.steps.specs.declared.Goal.{Goal}
use Rattle.steps.specs.declared.Goal.TheVariants.{Holds, Affirms}
use Rattle.steps.specs.declared.Fresh.{Fresh}
use Rattle.steps.specs.declared.Fresh.TheVariants.{Nothing, Linear, Both, Unrestricted}
use Rattle.steps.specs.declared.Premise.{Premise}
use Rattle.steps.specs.declared.Plan.{Plan}
use Rattle.steps.specs.declared.Plan.TheVariants.{Refused, Closed, One, Two}
use Rattle.steps.specs.Instance.{◌for◌}

-- the formula of a number at an interval
infix 90 ◌over◌
abbrev pub ◌over◌ : ℕ → Interval → Hypothesis
n over i = record { formula = n; interval = i }

-- a premise with the linear labels d, the goal g and what takes new labels
abbrev pub premise : ℕ → Goal → Fresh → Premise
premise d g f = record { linear = d; goal = g; fresh = f }

-- a step that fails its test breaks its rule
unfoldable pub when : Bool → Plan → Plan
when true p = p
when false p = Refused

-- the row is that of a formula with this letter
abbrev pub is : Row → Char → Bool
is x c = eqb x.letter (code c)

-- The sequent has unrestricted labels R, linear labels D and goal g; `label` tells what a label stands for, `row` the
-- row of a formula's number, which may have a holder in it.
module _ (row : ℕ → Row) (label : ℕ → Hypothesis) (R D : ℕ) (g : Goal) where
  -- "The right steps .. and `ax` need a goal without affirms": A at I, where A has the letter
  unfoldable pub right : Goal → Char → (Row → Interval → Plan) → Plan
  right (Holds n i) c k = when (is (row n) c) (k (row n) i)
  right (Affirms n i p) c k = Refused

  -- K affirms A at I
  unfoldable pub affirmed : Goal → (ℕ → ℕ → Interval → Plan) → Plan
  affirmed (Holds n i) k = Refused
  affirmed (Affirms n i p) k = k p n i

  -- "L is in D save at `cp`": and its formula has the letter
  unfoldable pub left : ℕ → Char → (Interval → Row → Plan) → Plan
  left l c k =
      when (member D l && is (row (label l).formula) c) (k (label l).interval (row (label l).formula))

  -- A at I, where A is an atom: `a`, or `n`
  unfoldable pub atomic : Goal → (Row → Interval → Plan) → Plan
  atomic (Holds n i) k = when (is (row n) "a" || is (row n) "n") (k (row n) i)
  atomic (Affirms n i p) k = Refused

  -- L is an atom equal to that of the row: by letter, predicate and session, and an `n` by its holder
  abbrev pub same_atom : ℕ → Row → Bool
  same_atom l x =
      let y = row (label l).formula in
      eqb y.letter x.letter
      && (eqb y.a x.a && (eqb y.b x.b && (is x "a" || eqb y.holder x.holder)))

  unfoldable pub plan_of : Step → Plan
  -- "D holds just L, an atom equal to the goal; L's window ⊇ goal's. Closes." Document 02: "Equality at `ax` is that of
  -- the formula after the holder is put in."
  plan_of (Step.ax l) =
      atomic g (λ x i. when (is_just D l && (same_atom l x && contains (label l).interval i)) Closed)
  -- "L in R; a new single label of the same wording and window."
  plan_of (Step.cp l) = when (member R l) (One (premise D g (Linear (label l))))
  -- "⊗; left from the share, right from the rest of D."
  plan_of (Step.tr s) =
      right g "t" (λ x i. when (subset s D)
      (Two (premise s (Holds x.a i) Nothing) (premise (without D s) (Holds x.b i) Nothing)))
  -- "both parts"
  plan_of (Step.tl l) = left l "t" (λ i x. One (premise (remove D l) g (Both (x.a over i) (x.b over i))))
  -- "1, D empty; closes."
  plan_of Step.or = right g "o" (λ x i. when (is_empty D) Closed)
  -- "drops L, a 1."
  plan_of (Step.ol l) = left l "o" (λ i x. One (premise (remove D l) g Nothing))
  -- "&, both arms, each from all of D."
  plan_of Step.wr =
      right g "w" (λ x i. Two (premise D (Holds x.a i) Nothing) (premise D (Holds x.b i) Nothing))
  -- "that arm"
  plan_of (Step.w1 l) = left l "w" (λ i x. One (premise (remove D l) g (Linear (x.a over i))))
  plan_of (Step.w2 l) = left l "w" (λ i x. One (premise (remove D l) g (Linear (x.b over i))))
  -- "⊕, that arm."
  plan_of Step.p1 = right g "p" (λ x i. One (premise D (Holds x.a i) Nothing))
  plan_of Step.p2 = right g "p" (λ x i. One (premise D (Holds x.b i) Nothing))
  -- "a premise for each arm"
  plan_of (Step.pl l) =
      left l "p" (λ i x.
      Two (premise (remove D l) g (Linear (x.a over i))) (premise (remove D l) g (Linear (x.b over i))))
  -- "A ⊸ B; L's window ⊇ J = from..to; A at J from the share, which must not have L; then the goal from the rest with
  -- B at J for L."
  plan_of (Step.ll l s j) =
      left l "l" (λ i x. when (contains i j && subset s (remove D l))
      (Two (premise s (Holds x.a j) Nothing) (premise (without (remove D l) s) g (Linear (x.b over j)))))
  -- "A ⊃ B; the same, but A from an empty D."
  plan_of (Step.ul l j) =
      left l "u" (λ i x. when (contains i j)
      (Two (premise 0 (Holds x.a j) Nothing) (premise (remove D l) g (Linear (x.b over j)))))
  -- "!, D empty, then the part."
  plan_of Step.br = right g "b" (λ x i. when (is_empty D) (One (premise D (Holds x.a i) Nothing)))
  -- "the part joins R"
  plan_of (Step.bl l) = left l "b" (λ i x. One (premise (remove D l) g (Unrestricted (x.a over i))))
  -- "A@J becomes A at J."
  plan_of Step.hr = right g "h" (λ x i. One (premise D (Holds x.a x.first) Nothing))
  -- "likewise for L"
  plan_of (Step.hl l) =
      left l "h" (λ i x. One (premise (remove D l) g (Linear (x.a over x.first))))
  -- "⟨K⟩A becomes K affirms A."
  plan_of Step.sr = right g "s" (λ x i. One (premise D (Affirms x.b i x.a) Nothing))
  -- "K affirms A becomes A."
  plan_of Step.af = affirmed g (λ k n i. One (premise D (Holds n i) Nothing))
  -- "L is ⟨K⟩A and the goal K affirms B, same K; L's window ⊇ goal's."
  plan_of (Step.sl l) =
      affirmed g (λ k n j. left l "s" (λ i x. when (eqb x.a k && contains i j)
      (One (premise (remove D l) g (Linear (x.b over i))))))
  -- "⊇ that holds, D empty; closes."
  plan_of Step.gr =
      right g "g" (λ x i. when (is_empty D && contains x.first x.second) Closed)
  -- document 02, ask 7: "uses `q` at one named holder, 1 to 65,535": its part, after that is put in, for L
  plan_of (Step.al l h) =
      left l "q" (λ i x. when (leb 1 h && leb h last_holder)
      (One (premise (remove D l) g (Linear ((x.a for h) over i)))))

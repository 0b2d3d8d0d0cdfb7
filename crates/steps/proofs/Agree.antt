-- A step's plan is what its rule says: the plan on numbers and the rule on formulas, both ways.
use mathlib.Core.Path.{◌≡◌, refl, sym, ap, ap₂, subst, subst₂, ◌∙◌}
use mathlib.Core.List.{[], ◌∷◌}
use mathlib.Core.Bool.{Bool, true, false, ◌&&◌}
use mathlib.Core.Option.{Option, none, some}
use mathlib.Core.Logic.{◌⊎◌, inl, inr}
use Prim.Native.Nat.{ℕ, ◌^◌}
use Prim.Native.Char.{Char, code}
use native.Mathlib.Omega.{arith}
use lib.Dec.{leb}
use Rattle.logic.specs.declared.Interval.{Interval}
use Rattle.logic.specs.Interval.{◌⊇◌}
use Rattle.logic.specs.Formula.{Formula, atom, says, superset, for_every, last_holder, IsHolder, with_holder}
use Rattle.logic.specs.Derives.{Hyp, ◌⟦◌⟧, Judgment, holds, affirms}
use Rattle.logic.proofs.Tests.{Decides, and_decides, or_decides, eq_decides, le_decides, no_truth}
use Rattle.logic.proofs.Intervals.{contains_decides}
use Rattle.request.specs.Request.{Step}
use Rattle.labels.specs.Labels.{member, ◌∋◌, remove}
use Rattle.labels.proofs.Sets.{only_member}
use Rattle.steps.specs.declared.Row.{Row}
use Rattle.steps.specs.declared.Hypothesis.{Hypothesis}
use Rattle.steps.specs.declared.Goal.{Goal}
use Rattle.steps.specs.declared.Goal.TheVariants.{Holds, Affirms}
use Rattle.steps.specs.declared.Plan.{Plan}
use Rattle.steps.specs.declared.Plan.TheVariants.{Refused, Closed, One, Two}
use Rattle.steps.specs.Instance.{◌for◌}
use Rattle.steps.specs.Plans.{is, when, right, affirmed, left, atomic, same_atom, plan_of}
use Rattle.steps.specs.Rule.{Leaves, nothing, premise, premises, from, Rule}
use Rattle.steps.specs.Unroll.{letter, made, Unrolls, hyp_of, goal_of}
use Rattle.steps.proofs.Unroll.{of_letter, letter_of_holds, branch_of, leaves}

holder_decides : (h : ℕ) → Decides (leb 1 h && leb h last_holder) (IsHolder h)
holder_decides h =
    let d = and_decides (le_decides 1 h) (le_decides h last_holder) in
    (λ e. let b = d.0 e in record { least = b.0; most = b.1 }, λ n. d.1 (n.least, n.most))

itself : (b : Bool) → Decides b (b ≡ true)
itself b = (λ e. e, λ e. e)

-- `names` and `label` tell what a label stands for, on formulas and on numbers
module _ {row : ℕ → Row} {f : ℕ → Formula} (u : Unrolls row f) (names : ℕ → Hyp) (R D : ℕ) where
  -- the rule of what a plan leaves, if it is no refusal
  abbrev pub Ruled : Judgment → Step → Plan → Type 0
  Ruled g s Refused = Unit {0}
  Ruled g s Closed = Rule names R D s g nothing
  Ruled g s (One p) = Rule names R D s g (premise (branch_of u p))
  Ruled g s (Two p₁ p₂) = Rule names R D s g (premises (branch_of u p₁) (branch_of u p₂))

  ruled_when : (g : Judgment) (s : Step) (b : Bool) (p : Plan) {P : Type 0} → Decides b P → (P → Ruled g s p)
      → Ruled g s (when b p)
  unfolding when
  ruled_when g s true p d h = h (d.0 refl)
  ruled_when g s false p d h = tt

  module _ (label : ℕ → Hypothesis) (on_R : (k : ℕ) → R ∋ k → names k ≡ hyp_of u (label k))
      (on_D : (k : ℕ) → D ∋ k → names k ≡ hyp_of u (label k)) where
    abbrev row_at : ℕ → Row
    row_at l = row (label l).formula

    -- L is an atom equal to that of the row
    record SameAtom (l : ℕ) (x : Row) : Type 0 where
      letters : (row_at l).letter ≡ x.letter
      predicates : (row_at l).a ≡ x.a
      sessions : (row_at l).b ≡ x.b
      holders : (x.letter ≡ code "a") ⊎ ((row_at l).holder ≡ x.holder)

    same_decides : (g : Goal) (l : ℕ) (x : Row) → Decides (same_atom row label R D g l x) (SameAtom l x)
    same_decides g l x =
        let d = and_decides (eq_decides (row_at l).letter x.letter)
        (and_decides (eq_decides (row_at l).a x.a) (and_decides (eq_decides (row_at l).b x.b)
        (or_decides (eq_decides x.letter (code "a")) (eq_decides (row_at l).holder x.holder)))) in (
          λ e. let h = d.0 e in
              record { letters = h.0; predicates = h.1.0; sessions = h.1.1.0; holders = h.1.1.1 },
          λ s. d.1 (s.letters, (s.predicates, (s.sessions, s.holders))),
        )

    -- the row of an atom that carries this holder, or none
    data AtomRow (x : Row) : Option ℕ → Type 0 where
      of_a : x.letter ≡ code "a" → AtomRow x none
      of_n : x.letter ≡ code "n" → AtomRow x (some x.holder)

    atom_of : (n : ℕ) {o : Option ℕ} → AtomRow (row n) o → f n ≡ atom (row n).a (row n).b o
    atom_of n (of_a e) = of_letter u n (code "a") e
    atom_of n (of_n e) = of_letter u n (code "n") e

    -- L is the same atom
    atom_at : (l n : ℕ) {o : Option ℕ} → AtomRow (row n) o → SameAtom l (row n)
        → f (label l).formula ≡ atom (row n).a (row n).b o
    atom_at l n (of_a e) s =
        of_letter u (label l).formula (code "a") (s.letters ∙ e)
        ∙ ap₂ (λ (p t : ℕ). atom p t none) s.predicates s.sessions
    atom_at l n (of_n e) s = go s.holders
      where
        go : ((row n).letter ≡ code "a") ⊎ ((row_at l).holder ≡ (row n).holder)
            → f (label l).formula ≡ atom (row n).a (row n).b (some (row n).holder)
        go (inl q) = let z : code "a" ≡ code "n" = sym q ∙ e in absurd (omega arith)
        go (inr q) =
            of_letter u (label l).formula (code "n") (s.letters ∙ e)
            ∙ ap₂ (λ (p t : ℕ). atom p t (some (row_at l).holder)) s.predicates s.sessions
            ∙ ap (λ (k : ℕ). atom (row n).a (row n).b (some k)) q

    -- From the plan to the rule

    ruled_left : (j : Judgment) (g : Goal) (s : Step) (l : ℕ) (c : Char) (k : Interval → Row → Plan)
        → (D ∋ l → names l ≡ made f (code c) (row_at l) ⟦ (label l).interval ⟧
        → Ruled j s (k (label l).interval (row_at l)))
        → Ruled j s (left row label R D g l c k)
    unfolding left
    ruled_left j g s l c k h =
        ruled_when j s _ _ (and_decides (itself (member D l)) (eq_decides (row_at l).letter (code c))) (λ t.
        h t.0 (on_D l t.0
        ∙ ap (λ (a : Formula). a ⟦ (label l).interval ⟧) (of_letter u (label l).formula (code c) t.1)))

    ruled_right : (g : Goal) (s : Step) (c : Char) (k : Row → Interval → Plan)
        → ((n : ℕ) (i : Interval) → Ruled (holds (made f (code c) (row n)) i) s (k (row n) i))
        → Ruled (goal_of u g) s (right row label R D g g c k)
    unfolding right
    ruled_right (Holds n i) s c k h =
        ruled_when (holds (f n) i) s _ _ (eq_decides (row n).letter (code c)) (λ e.
        subst (λ (a : Formula). Ruled (holds a i) s (k (row n) i)) (sym (of_letter u n (code c) e)) (h n i))
    ruled_right (Affirms n i p) s c k h = tt

    ruled_atomic : (g : Goal) (s : Step) (k : Row → Interval → Plan)
        → ((n : ℕ) (o : Option ℕ) (i : Interval) → AtomRow (row n) o
        → Ruled (holds (atom (row n).a (row n).b o) i) s (k (row n) i))
        → Ruled (goal_of u g) s (atomic row label R D g g k)
    unfolding atomic
    ruled_atomic (Holds n i) s k h =
        ruled_when (holds (f n) i) s _ _
        (or_decides (eq_decides (row n).letter (code "a")) (eq_decides (row n).letter (code "n"))) go
      where
        at_atom : (o : Option ℕ) → AtomRow (row n) o → Ruled (holds (f n) i) s (k (row n) i)
        at_atom o a =
            subst (λ (b : Formula). Ruled (holds b i) s (k (row n) i)) (sym (atom_of n a)) (h n o i a)

        go : ((row n).letter ≡ code "a") ⊎ ((row n).letter ≡ code "n") → Ruled (holds (f n) i) s (k (row n) i)
        go (inl e) = at_atom none (of_a e)
        go (inr e) = at_atom (some (row n).holder) (of_n e)
    ruled_atomic (Affirms n i p) s k h = tt

    ruled_affirmed : (g : Goal) (s : Step) (k : ℕ → ℕ → Interval → Plan)
        → ((p n : ℕ) (i : Interval) → g ≡ Affirms n i p → Ruled (affirms p (f n) i) s (k p n i))
        → Ruled (goal_of u g) s (affirmed row label R D g g k)
    unfolding affirmed
    ruled_affirmed (Holds n i) s k h = tt
    ruled_affirmed (Affirms n i p) s k h = h p n i refl

    -- the letter of a label that stands for a `q`
    is_every : {a : Formula} {i : Interval} (l : ℕ) → D ∋ l → names l ≡ for_every a ⟦ i ⟧ → (row_at l).letter ≡ code "q"
    is_every l m e = (letter_of_holds u (label l).formula (ap (λ (h : Hyp). h.formula) (sym (on_D l m) ∙ e))).0

    plan_wr : (g : Goal) → Ruled (goal_of u g) Step.wr (plan_of row label R D g Step.wr)
    unfolding plan_of
    plan_wr g = ruled_right g Step.wr "w" _ (λ n i. Rule.wr)

    plan_ll : (g : Goal) (l s : ℕ) (j : Interval)
        → Ruled (goal_of u g) (Step.ll l s j) (plan_of row label R D g (Step.ll l s j))
    unfolding plan_of
    plan_ll g l s j =
        ruled_left (goal_of u g) g (Step.ll l s j) l "l" _ (λ m e. ruled_when (goal_of u g) (Step.ll l s j) _ _
        (and_decides (contains_decides (label l).interval j) (itself _)) (λ t. Rule.ll m e t.0 t.1))

    plan_ul : (g : Goal) (l : ℕ) (j : Interval)
        → Ruled (goal_of u g) (Step.ul l j) (plan_of row label R D g (Step.ul l j))
    unfolding plan_of
    plan_ul g l j =
        ruled_left (goal_of u g) g (Step.ul l j) l "u" _ (λ m e. ruled_when (goal_of u g) (Step.ul l j) _ _
        (contains_decides (label l).interval j) (λ c. Rule.ul m e c))

    plan_sl : (g : Goal) (l : ℕ) → Ruled (goal_of u g) (Step.sl l) (plan_of row label R D g (Step.sl l))
    unfolding plan_of
    plan_sl g l =
        ruled_affirmed g (Step.sl l) _ (λ p n j q. ruled_left (affirms p (f n) j) g (Step.sl l) l "s" _ (λ m e.
        ruled_when (affirms p (f n) j) (Step.sl l) _ _
        (and_decides (eq_decides (row_at l).a p) (contains_decides (label l).interval j)) (λ t.
        subst (λ (y : Judgment). Rule names R D (Step.sl l) (affirms p (f n) j)
        (premise (from (remove D l) y (f (row_at l).b ⟦ (label l).interval ⟧ ∷ [])))) (sym (ap (goal_of u) q))
        (Rule.sl m (e ∙ ap (λ (k : ℕ). says k (f (row_at l).b) ⟦ (label l).interval ⟧) t.0) t.1))))

    plan_gr : (g : Goal) → Ruled (goal_of u g) Step.gr (plan_of row label R D g Step.gr)
    unfolding plan_of
    plan_gr g = ruled_right g Step.gr "g" _ (λ n i. ruled_when _ Step.gr _ Closed
        (and_decides (eq_decides D 0) (contains_decides (row n).first (row n).second))
        (λ t. Rule.gr t.0 t.1))

    plan_al : (g : Goal) (l h : ℕ) → Ruled (goal_of u g) (Step.al l h) (plan_of row label R D g (Step.al l h))
    unfolding plan_of
    plan_al g l h = ruled_left (goal_of u g) g (Step.al l h) l "q" _ (λ m e.
        ruled_when (goal_of u g) (Step.al l h) _ _ (holder_decides h) (λ n.
        subst (λ (a : Formula). Rule names R D (Step.al l h) (goal_of u g)
        (premise (from (remove D l) (goal_of u g) (a ⟦ (label l).interval ⟧ ∷ []))))
        (sym (u.opened (label l).formula h (is_every l m e))) (Rule.al m e n)))

    -- every rule
    pub plan_rule : (g : Goal) (s : Step) → Ruled (goal_of u g) s (plan_of row label R D g s)
    unfolding plan_of
    plan_rule g (Step.ax l) =
        ruled_atomic g (Step.ax l) _ (λ n o i a. ruled_when _ (Step.ax l) _ Closed
        (and_decides (eq_decides D (2 ^ l))
        (and_decides (same_decides g l (row n)) (contains_decides (label l).interval i)))
        (λ t. Rule.ax t.0 (on_D l (only_member D l t.0) ∙ ap (λ (b : Formula). b ⟦ (label l).interval ⟧)
        (atom_at l n a t.1.0)) t.1.1))
    plan_rule g (Step.cp l) = ruled_when (goal_of u g) (Step.cp l) _ _ (itself (member R l)) (λ m.
        subst (λ (h : Hyp). Rule names R D (Step.cp l) (goal_of u g) (premise (from D (goal_of u g) (h ∷ []))))
        (on_R l m) (Rule.cp m))
    plan_rule g (Step.tr s) =
        ruled_right g (Step.tr s) "t" _ (λ n i. ruled_when _ (Step.tr s) _ _ (itself _) (λ h. Rule.tr h))
    plan_rule g (Step.tl l) = ruled_left (goal_of u g) g (Step.tl l) l "t" _ (λ m e. Rule.tl m e)
    plan_rule g Step.or =
        ruled_right g Step.or "o" _ (λ n i. ruled_when _ Step.or _ Closed (eq_decides D 0) (λ z. Rule.or z))
    plan_rule g (Step.ol l) = ruled_left (goal_of u g) g (Step.ol l) l "o" _ (λ m e. Rule.ol m e)
    plan_rule g Step.wr = plan_wr g
    plan_rule g (Step.w1 l) = ruled_left (goal_of u g) g (Step.w1 l) l "w" _ (λ m e. Rule.w1 m e)
    plan_rule g (Step.w2 l) = ruled_left (goal_of u g) g (Step.w2 l) l "w" _ (λ m e. Rule.w2 m e)
    plan_rule g Step.p1 = ruled_right g Step.p1 "p" _ (λ n i. Rule.p1)
    plan_rule g Step.p2 = ruled_right g Step.p2 "p" _ (λ n i. Rule.p2)
    plan_rule g (Step.pl l) = ruled_left (goal_of u g) g (Step.pl l) l "p" _ (λ m e. Rule.pl m e)
    plan_rule g (Step.ll l s j) = plan_ll g l s j
    plan_rule g (Step.ul l j) = plan_ul g l j
    plan_rule g Step.br =
        ruled_right g Step.br "b" _ (λ n i. ruled_when _ Step.br _ _ (eq_decides D 0) (λ z. Rule.br z))
    plan_rule g (Step.bl l) = ruled_left (goal_of u g) g (Step.bl l) l "b" _ (λ m e. Rule.bl m e)
    plan_rule g Step.hr = ruled_right g Step.hr "h" _ (λ n i. Rule.hr)
    plan_rule g (Step.hl l) = ruled_left (goal_of u g) g (Step.hl l) l "h" _ (λ m e. Rule.hl m e)
    plan_rule g Step.sr = ruled_right g Step.sr "s" _ (λ n i. Rule.sr)
    plan_rule g Step.af = ruled_affirmed g Step.af _ (λ p n i e. Rule.af)
    plan_rule g (Step.sl l) = plan_sl g l
    plan_rule g Step.gr = plan_gr g
    plan_rule g (Step.al l h) = plan_al g l h

    -- From the rule to the plan

    passes : (b : Bool) (p : Plan) {P : Type 0} {w : Leaves} → Decides b P → P → leaves u p ≡ some w
        → leaves u (when b p) ≡ some w
    unfolding when
    passes true p d h e = e
    passes false p d h e = absurd (no_truth (d.1 h))

    -- a left step at a label that stands for what the rule asks
    left_plan : (g : Goal) (l : ℕ) (c : Char) (k : Interval → Row → Plan) {a : Formula} {i : Interval} {w : Leaves}
        → D ∋ l → names l ≡ a ⟦ i ⟧ → letter a ≡ code c
        → (made f (letter a) (row_at l) ≡ a → (label l).interval ≡ i
        → leaves u (k (label l).interval (row_at l)) ≡ some w)
        → leaves u (left row label R D g l c k) ≡ some w
    unfolding left
    left_plan g l c k {a} {i} m e q h =
        let x : hyp_of u (label l) ≡ a ⟦ i ⟧ = sym (on_D l m) ∙ e in
        let o = letter_of_holds u (label l).formula (ap (λ (y : Hyp). y.formula) x) in
        passes _ _ (and_decides (itself (member D l)) (eq_decides (row_at l).letter (code c))) (m, o.0 ∙ q)
        (h o.1 (ap (λ (y : Hyp). y.interval) x))

    -- a right step at a goal without affirms
    right_plan : (g : Goal) (c : Char) (k : Row → Interval → Plan) {a : Formula} {i : Interval} {w : Leaves}
        → holds a i ≡ goal_of u g → letter a ≡ code c
        → ((n : ℕ) → made f (letter a) (row n) ≡ a → leaves u (k (row n) i) ≡ some w)
        → leaves u (right row label R D g g c k) ≡ some w
    unfolding right
    right_plan (Holds n j) c k {a} {i} {w} e q h =
        let o = letter_of_holds u n {a = a} (cc) in
        let v : i ≡ j = cc in
        passes _ _ (eq_decides (row n).letter (code c)) (o.0 ∙ q)
        (subst (λ (x : Interval). leaves u (k (row n) x) ≡ some w) v (h n o.1))
    right_plan (Affirms n j p) c k e q h = let z : ◌≡◌ {A = ℕ} 0 1 = cc in absurd (omega arith)

    -- `ax`, at a goal without affirms
    atomic_plan : (g : Goal) (k : Row → Interval → Plan) {p s : ℕ} {o : Option ℕ} {i : Interval} {w : Leaves}
        → holds (atom p s o) i ≡ goal_of u g
        → ((n : ℕ) → (row n).letter ≡ letter (atom p s o) → made f (letter (atom p s o)) (row n) ≡ atom p s o
        → leaves u (k (row n) i) ≡ some w)
        → leaves u (atomic row label R D g g k) ≡ some w
    unfolding atomic
    atomic_plan (Holds n j) k {p} {s} {o} {i} {w} e h =
        let z = letter_of_holds u n {a = atom p s o} (cc) in
        let v : i ≡ j = cc in
        passes _ _ (or_decides (eq_decides (row n).letter (code "a")) (eq_decides (row n).letter (code "n")))
        (either o z.0) (subst (λ (x : Interval). leaves u (k (row n) x) ≡ some w) v (h n z.0 z.1))
      where
        either : (o : Option ℕ) → (row n).letter ≡ letter (atom p s o)
            → ((row n).letter ≡ code "a") ⊎ ((row n).letter ≡ code "n")
        either none e = inl e
        either (some t) e = inr e
    atomic_plan (Affirms n j p) k e h = let z : ◌≡◌ {A = ℕ} 0 1 = cc in absurd (omega arith)

    -- what the labels and the goal of `ax` have in common
    same_atom_holds : (l n : ℕ) (p s : ℕ) (o : Option ℕ)
        → ((row_at l).letter ≡ letter (atom p s o)) × (made f (letter (atom p s o)) (row_at l) ≡ atom p s o)
        → (row n).letter ≡ letter (atom p s o) → made f (letter (atom p s o)) (row n) ≡ atom p s o → SameAtom l (row n)
    same_atom_holds l n p s none x y z =
        record { letters = x.0 ∙ sym y; predicates = cc x.1; sessions = cc x.1; holders = inl y }
    same_atom_holds l n p s (some k) x y z =
        record { letters = x.0 ∙ sym y; predicates = cc x.1; sessions = cc x.1; holders = inr (cc x.1) }

    superset_inv : {i j k l : Interval} → superset i j ≡ superset k l → (i ≡ k) × (j ≡ l)
    superset_inv e = (cc, cc)

    pub rule_plan : {s : Step} {y : Judgment} {w : Leaves} → Rule names R D s y w → (g : Goal) → y ≡ goal_of u g
        → leaves u (plan_of row label R D g s) ≡ some w
    unfolding plan_of affirmed
    rule_plan (Rule.ax {l = l} {p = p} {s = t} {o = o} {i = i} {j = j} q e c) g y =
        let x : hyp_of u (label l) ≡ atom p t o ⟦ i ⟧ = sym (on_D l (only_member D l q)) ∙ e in
        let z = letter_of_holds u (label l).formula (ap (λ (h : Hyp). h.formula) x) in
        let v : i ≡ (label l).interval = sym (ap (λ (h : Hyp). h.interval) x) in
        atomic_plan g _ y (λ n r m.
        passes _ Closed (and_decides (eq_decides D (2 ^ l))
        (and_decides (same_decides g l (row n)) (contains_decides (label l).interval j)))
        (q, (same_atom_holds l n p t o z r m, subst (λ (w : Interval). w ⊇ j) v c)) refl)
    rule_plan (Rule.cp {l = l} m) g y = passes _ _ (itself (member R l)) m (cc (on_R l m))
    rule_plan (Rule.tr h) g y = right_plan g "t" _ y refl (λ n q. passes _ _ (itself _) h (cc))
    rule_plan (Rule.tl {l = l} m e) g y = left_plan g l "t" _ m e refl (λ o v. cc)
    rule_plan (Rule.or z) g y = right_plan g "o" _ y refl (λ n q. passes _ Closed (eq_decides D 0) z refl)
    rule_plan (Rule.ol {l = l} m e) g y = left_plan g l "o" _ m e refl (λ o v. cc)
    rule_plan Rule.wr g y = right_plan g "w" _ y refl (λ n q. cc)
    rule_plan (Rule.w1 {l = l} m e) g y = left_plan g l "w" _ m e refl (λ o v. cc)
    rule_plan (Rule.w2 {l = l} m e) g y = left_plan g l "w" _ m e refl (λ o v. cc)
    rule_plan Rule.p1 g y = right_plan g "p" _ y refl (λ n q. cc)
    rule_plan Rule.p2 g y = right_plan g "p" _ y refl (λ n q. cc)
    rule_plan (Rule.pl {l = l} m e) g y = left_plan g l "p" _ m e refl (λ o v. cc)
    rule_plan (Rule.ll {l = l} {j = j} m e c h) g y = left_plan g l "l" _ m e refl (λ o v.
        passes _ _ (and_decides (contains_decides (label l).interval j) (itself _))
        (subst (λ (w : Interval). w ⊇ j) (sym v) c, h) (cc))
    rule_plan (Rule.ul {l = l} {j = j} m e c) g y = left_plan g l "u" _ m e refl (λ o v.
        passes _ _ (contains_decides (label l).interval j) (subst (λ (w : Interval). w ⊇ j) (sym v) c) (cc))
    rule_plan (Rule.br z) g y = right_plan g "b" _ y refl (λ n q. passes _ _ (eq_decides D 0) z (cc))
    rule_plan (Rule.bl {l = l} m e) g y = left_plan g l "b" _ m e refl (λ o v. cc)
    rule_plan Rule.hr g y = right_plan g "h" _ y refl (λ n q. cc)
    rule_plan (Rule.hl {l = l} m e) g y = left_plan g l "h" _ m e refl (λ o v. cc)
    rule_plan Rule.sr g y = right_plan g "s" _ y refl (λ n q. cc)
    rule_plan Rule.af (Holds n j) y = let z : ◌≡◌ {A = ℕ} 0 1 = cc in absurd (omega arith)
    rule_plan Rule.af (Affirms n j p) y = cc
    rule_plan (Rule.sl m e c) (Holds n j) y = let z : ◌≡◌ {A = ℕ} 0 1 = cc in absurd (omega arith)
    rule_plan (Rule.sl {l = l} {j = i} m e c) (Affirms n j p) y =
        left_plan (Affirms n j p) l "s" _ m e refl (λ o v.
        let x : i ≡ j = cc in
        passes _ _ (and_decides (eq_decides (row_at l).a p) (contains_decides (label l).interval j))
        (cc, subst₂ (λ (a b : Interval). a ⊇ b) (sym v) x c) (cc))
    rule_plan (Rule.gr z c) g y = right_plan g "g" _ y refl (λ n q.
        let t = superset_inv q in
        passes _ Closed
        (and_decides (eq_decides D 0) (contains_decides (row n).first (row n).second))
        (z, subst₂ (λ (a b : Interval). a ⊇ b) (sym t.0) (sym t.1) c) refl)
    rule_plan (Rule.al {l = l} {h = h} m e n) g y = left_plan g l "q" _ m e refl (λ o v.
        passes _ _ (holder_decides h) n (cc (u.opened (label l).formula h (is_every l m e))))

-- The step checker ends as its lines do: it closes where they spell a derivation, and stops where they are stopped.
use mathlib.Core.Path.{◌≡◌, refl, sym, subst}
use mathlib.Core.List.{List, [], ◌∷◌}
use mathlib.Core.Option.{some}
use Prim.Native.Nat.{ℕ, zero, suc, ◌+◌, ◌-◌, ◌≤◌, ◌<◌}
use native.Mathlib.Omega.{arith}
use lib.ListN.{length}
use Rattle.logic.specs.Formula.{Formula}
use Rattle.request.specs.Request.{Step}
use Rattle.labels.proofs.Sets.{member_below}
use Rattle.steps.specs.declared.Row.{Row}
use Rattle.steps.specs.declared.Hypothesis.{Hypothesis}
use Rattle.steps.specs.declared.Sequent.{Sequent}
use Rattle.steps.specs.declared.Premise.{Premise}
use Rattle.steps.specs.declared.Plan.{Plan}
use Rattle.steps.specs.declared.Plan.TheVariants.{Refused, Closed, One, Two}
use Rattle.steps.specs.Plans.{plan_of}
use Rattle.steps.specs.Check.{Beginning, begin, Outcome, done, stopped, Judge, judged, onward, follow}
use Rattle.steps.specs.Check.{max_labels, premise_of}
use Rattle.steps.specs.Rule.{Branch, Leaves, nothing, premise, premises}
use Rattle.steps.specs.Spells.{Labels, named, Labelled, Right, begun, beginning, Room, Spells, Stops}
use Rattle.steps.specs.Labelling.{Fits}
use Rattle.steps.specs.Unroll.{Unrolls, goal_of, labelled_of}
use Rattle.steps.proofs.Labelling.{Extends, ext_refl, ext_trans}
use Rattle.steps.proofs.Premises.{ext_begun, spells_extends, lowers, fits_begun}
use Rattle.steps.proofs.Unroll.{branch_of, leaves}
use Rattle.steps.proofs.Agree.{Ruled, plan_rule, rule_plan}
use Rattle.steps.proofs.Runs.{Result, closed, halted, Ends, Enters, After, ends_after, after_ends}
use Rattle.steps.proofs.LabelTables.{Table, Shows, Starts, starts}

module _ {row : ℕ → Row} {formula : ℕ → Formula} (u : Unrolls row formula) {T : Type 0} {held : T → ℕ → Hypothesis}
    {put : T → ℕ → Hypothesis → T} (table : Table held put) (total : ℕ) where
  -- a plan is what the rules say of a step
  record Agrees (ls : Labels) (q : Sequent) (s : Step) (p : Plan) : Type 0 where
    ruled : Ruled u (named ls) q.unrestricted q.linear (goal_of u q.goal) s p
    only : (w : Leaves) → Right ls (labelled_of u q) s w → leaves u p ≡ some w

  agrees : (t : T) (n : ℕ) (ls : Labels) (q : Sequent) (s : Step) → Shows u table t n ls → Fits ls (labelled_of u q)
      → Agrees ls q s (plan_of row (held t) q.unrestricted q.linear q.goal s)
  agrees t n ls q s sh fits =
      let r = q.unrestricted in
      let d = q.linear in
      record {
        ruled = plan_rule u (named ls) r d (held t)
            (λ k m. sh.same k (member_below r (length ls) k fits.unrestricted m))
            (λ k m. sh.same k (member_below d (length ls) k fits.linear m)) q.goal s;
        only = λ w rule. rule_plan u (named ls) r d (held t)
            (λ k m. sh.same k (member_below r (length ls) k fits.unrestricted m))
            (λ k m. sh.same k (member_below d (length ls) k fits.linear m)) rule q.goal refl;
      }

  -- an outcome of the checker and the end of the lines that it stands for
  pub data Shown : Outcome T → Result → Type 0 where
    closes : {ss : List Step} {t : T} {n : ℕ} {ls : Labels} → Shows u table t n ls → Shown (done ss t n) (closed ss ls)
    stops : {c m : ℕ} → Shown (stopped c m) (halted c m)

  -- the outcome is an end of the lines, and every end of the lines is the outcome
  pub record Meets (Ending : Result → Type 0) (o : Outcome T) : Type 0 where
    pub end : Result
    pub ends : Ending end
    pub shown : Shown o end
    pub only : (e : Result) → Ending e → Shown o e

  -- so does the judge of all premises with at most f lines
  abbrev pub Exact : Judge T → ℕ → Type 0
  Exact judge f =
      (ss : List Step) (t : T) (n : ℕ) (ls : Labels) (q : Sequent) → Shows u table t n ls → Fits ls (labelled_of u q)
      → length ss ≤ f → Meets (Ends total ss ls (labelled_of u q)) (judge ss t n q)

  -- Premises that begin

  module _ {m : ℕ} {ss : List Step} {ls : Labels} {r : ℕ} {p : Branch} where
    over_only : max_labels < length (begun ls p) → (e : Result) → Enters total m ss ls r p e → Shown (stopped 41 m) e
    over_only l e (Enters.over l') = stops
    over_only l e (Enters.within room x) = absurd (omega arith)

    within_only : {o : Outcome T} → Room ls p → Meets (Ends total ss (begun ls p) (beginning ls r p)) o
        → (e : Result) → Enters total m ss ls r p e → Shown o e
    within_only room w e (Enters.over l) = absurd (omega arith)
    within_only room w e (Enters.within room' x) = w.only e x

  -- a premise p of the sequent q, at labels ls₁ that extend those of q
  enters : {judge : Judge T} {f : ℕ} → Exact judge f → (m : ℕ) (ss : List Step) → length ss ≤ f
      → {ls ls₁ : Labels} {q : Labelled} (p : Branch) → Extends ls ls₁ → Fits ls q → p.linear ≤ q.linear
      → (b : Beginning T) → Starts u table ls₁ q.unrestricted p b
      → Meets (Enters total m ss ls₁ q.unrestricted p) (judged judge m ss b)
  unfolding judged
  enters ih m ss le p x fits low b (Starts.over l) =
      record { end = halted 41 m; ends = Enters.over l; shown = stops; only = over_only l }
  enters {judge} ih m ss le {ls₁ = ls₁} p x fits low b (Starts.within {t = t} {n = n} {q = q'} room means s) =
      let w = subst (λ (y : Labelled). Meets (Ends total ss (begun ls₁ p) y) (judge ss t n q')) (sym means)
      (ih ss t n (begun ls₁ p) q' s (subst (Fits (begun ls₁ p)) means (fits_begun p x fits low room)) le) in
      record { end = w.end; ends = Enters.within room w.ends; shown = w.shown; only = within_only room w }

  -- a plan that leaves w
  data Leads : Plan → Leaves → Type 0 where
    closing : Leads Closed nothing
    one : {p : Premise} → Leads (One p) (premise (branch_of u p))
    two : {p₁ p₂ : Premise} → Leads (Two p₁ p₂) (premises (branch_of u p₁) (branch_of u p₂))

  leads : (p : Plan) (w : Leaves) → leaves u p ≡ some w → Leads p w
  leads Refused w e = let z : ◌≡◌ {A = ℕ} 0 1 = cc in absurd (omega arith)
  leads Closed w e = subst (Leads Closed) (cc) closing
  leads (One p) w e = subst (Leads (One p)) (cc) one
  leads (Two p₁ p₂) w e = subst (Leads (Two p₁ p₂)) (cc) two

  refused_never : {w : Leaves} → leaves u Refused ≡ some w → ⊥
  refused_never e = let z : ◌≡◌ {A = ℕ} 0 1 = cc in omega arith

  onward_halted : (o : Outcome T) (k : List Step → T → ℕ → Outcome T) {c m : ℕ} → Shown o (halted c m)
      → Shown (onward o k) (halted c m)
  unfolding onward
  onward_halted o k stops = stops

  onward_closed : (o : Outcome T) (k : List Step → T → ℕ → Outcome T) {mid : List Step} {ls₁ : Labels} {e : Result}
      → Shown o (closed mid ls₁) → ((t : T) (n : ℕ) → Shows u table t n ls₁ → Shown (k mid t n) e)
      → Shown (onward o k) e
  unfolding onward
  onward_closed o k (closes {t = t} {n = n} sh) h = h t n sh

  -- Step s, with the lines ss after it

  module _ {judge : Judge T} {f : ℕ} (ih : Exact judge f) (s : Step) (ss : List Step) (ls : Labels) (q : Sequent)
      (fits : Fits ls (labelled_of u q)) (le : length ss ≤ f) (t : T) (n : ℕ) (sh : Shows u table t n ls) where
    -- its number, the unrestricted labels, the rule that it is right by, and the outcome of a plan
    abbrev number : ℕ
    number = total - length ss

    abbrev R : ℕ
    R = q.unrestricted

    abbrev RightBy : Leaves → Type 0
    RightBy w = Right ls (labelled_of u q) s w

    abbrev outcome : Plan → Outcome T
    outcome p = follow put judge number ss t n R p

    -- the first premise, or the only one
    first : (p : Premise) → p.linear ≤ q.linear
        → Meets (Enters total number ss ls R (branch_of u p)) (judged judge number ss (begin put t n R p))
    first p low =
        enters ih number ss le (branch_of u p) (ext_refl ls) fits low (begin put t n R p) (starts u table t n ls R p sh)

    -- the second, once the first one is closed
    second : (p₁ : Branch) {mid : List Step} {ls₁ : Labels} → Spells ss (begun ls p₁) (beginning ls R p₁) mid ls₁
        → (p : Premise) → p.linear ≤ q.linear → (t₁ : T) (n₁ : ℕ) → Shows u table t₁ n₁ ls₁
        → Meets (Enters total number mid ls₁ R (branch_of u p)) (judged judge number mid (begin put t₁ n₁ R p))
    second p₁ {mid} {ls₁} sp p low t₁ n₁ sh₁ =
        let x = spells_extends sp in
        enters ih number mid (omega (arith, x.1)) (branch_of u p) (ext_trans (ext_begun ls p₁) x.0) fits low
        (begin put t₁ n₁ R p) (starts u table t₁ n₁ ls₁ R p sh₁)

    abbrev second_of : Premise → List Step → T → ℕ → Outcome T
    second_of p mid t₁ n₁ = judged judge number mid (begin put t₁ n₁ R p)

    -- the outcome is an end of the lines
    abbrev Explained : Outcome T → Type 0
    Explained o = (e : Result) × After total s ss ls (labelled_of u q) e × Shown o e

    explain_two : (p₁ : Branch) (p₂ : Premise) → RightBy (premises p₁ (branch_of u p₂)) → (o : Outcome T) (e : Result)
        → Enters total number ss ls R p₁ e → Shown o e → Explained (onward o (second_of p₂))
    unfolding onward
    explain_two p₁ p₂ r o (halted c m) x stops = (halted c m, After.halts r x, stops)
    explain_two p₁ p₂ r o (closed mid ls₁) (Enters.within room sp) (closes {t = t₁} {n = n₁} sh₁) =
        let w = second p₁ sp p₂ (lowers r).1 t₁ n₁ sh₁ in
        (w.end, After.parts r (Enters.within room sp) w.ends, w.shown)

    explain : (p : Plan) → Agrees ls q s p → Explained (outcome p)
    unfolding follow
    explain Refused a = (halted 40 number, After.breaks (λ w r. refused_never (a.only w r)), stops)
    explain Closed a = (closed ss ls, After.closes a.ruled, closes sh)
    explain (One p) a = let w = first p (lowers a.ruled) in (w.end, After.goes a.ruled w.ends, w.shown)
    explain (Two p₁ p₂) a =
        let w = first p₁ (lowers a.ruled).0 in
        explain_two (branch_of u p₁) p₂ a.ruled (judged judge number ss (begin put t n R p₁)) w.end w.ends
        w.shown

    -- every end of the lines is that outcome
    only_break : (p : Plan) → Agrees ls q s p → ((w : Leaves) → RightBy w → ⊥) → Shown (outcome p) (halted 40 number)
    unfolding follow
    only_break Refused a never = stops
    only_break Closed a never = absurd (never nothing a.ruled)
    only_break (One p) a never = absurd (never (premise (branch_of u p)) a.ruled)
    only_break (Two p₁ p₂) a never = absurd (never (premises (branch_of u p₁) (branch_of u p₂)) a.ruled)

    only_close : (p : Plan) → Leads p nothing → Shown (outcome p) (closed ss ls)
    unfolding follow
    only_close p closing = closes sh

    only_one : (p : Plan) {b : Branch} {e : Result} → Leads p (premise b) → RightBy (premise b)
        → Enters total number ss ls R b e → Shown (outcome p) e
    unfolding follow
    only_one p {e = e} (one {p = p'}) r x = (first p' (lowers r)).only e x

    only_halt : (p : Plan) {b₁ b₂ : Branch} {c m : ℕ} → Leads p (premises b₁ b₂) → RightBy (premises b₁ b₂)
        → Enters total number ss ls R b₁ (halted c m) → Shown (outcome p) (halted c m)
    unfolding follow
    only_halt p {c = c} {m = m} (two {p₁ = p₁} {p₂ = p₂}) r x =
        onward_halted (judged judge number ss (begin put t n R p₁)) (second_of p₂)
        ((first p₁ (lowers r).0).only (halted c m) x)

    only_two : (p : Plan) {b₁ b₂ : Branch} {mid : List Step} {ls₁ : Labels} {e : Result} → Leads p (premises b₁ b₂)
        → RightBy (premises b₁ b₂) → Enters total number ss ls R b₁ (closed mid ls₁)
        → Enters total number mid ls₁ R b₂ e → Shown (outcome p) e
    unfolding follow
    only_two p {mid = mid} {ls₁ = ls₁} {e = e} (two {p₁ = p₁} {p₂ = p₂}) r (Enters.within room sp) y =
        onward_closed (judged judge number ss (begin put t n R p₁)) (second_of p₂)
        ((first p₁ (lowers r).0).only (closed mid ls₁) (Enters.within room sp))
        (λ t₁ n₁ sh₁. (second (branch_of u p₁) sp p₂ (lowers r).1 t₁ n₁ sh₁).only e y)

    only_outcome : (p : Plan) → Agrees ls q s p → (e : Result) → After total s ss ls (labelled_of u q) e
        → Shown (outcome p) e
    only_outcome p a e (After.breaks never) = only_break p a never
    only_outcome p a e (After.closes r) = only_close p (leads p _ (a.only _ r))
    only_outcome p a e (After.goes r x) = only_one p (leads p _ (a.only _ r)) r x
    only_outcome p a e (After.halts r x) = only_halt p (leads p _ (a.only _ r)) r x
    only_outcome p a e (After.parts r x y) = only_two p (leads p _ (a.only _ r)) r x y

    step_meets : (p : Plan) → Agrees ls q s p → Meets (Ends total (s ∷ ss) ls (labelled_of u q)) (outcome p)
    step_meets p a =
        let w = explain p a in
        record {
          end = w.0;
          ends = after_ends total w.0 w.1;
          shown = w.2;
          only = λ e x. only_outcome p a e (ends_after total e x);
        }

  none_left : (ls : Labels) (q : Labelled) → Meets (Ends total [] ls q) (stopped 42 (total + 1))
  none_left ls q = record { end = halted 42 (total + 1); ends = Stops.ends; shown = stops; only = go }
    where
      go : (e : Result) → Ends total [] ls q e → Shown (stopped 42 (total + 1)) e
      go (closed _ _) x = elim x [ ]
      go (halted c m) Stops.ends = stops

  pub exact : (f : ℕ) → Exact (premise_of row held put total f) f
  unfolding premise_of
  exact zero [] t n ls q sh fits le = none_left ls (labelled_of u q)
  exact zero (s ∷ ss) t n ls q sh fits le = absurd (omega arith)
  exact (suc f) [] t n ls q sh fits le = none_left ls (labelled_of u q)
  exact (suc f) (s ∷ ss) t n ls q sh fits le =
      step_meets (exact f) s ss ls q fits (omega arith) t n sh
      (plan_of row (held t) q.unrestricted q.linear q.goal s) (agrees t n ls q s sh fits)

-- Step lines that spell a derivation: the derivation itself, its labels forgotten.
use mathlib.Core.Path.{◌≡◌, refl, sym, ap, ◌∙◌}
use mathlib.Core.List.{List, [], ◌∷◌, ◌++◌, append_assoc, Memᴰ}
use Prim.Native.Nat.{ℕ, ◌+◌, ◌^◌, ◌<◌, ◌≤◌}
use native.Mathlib.Omega.{arith}
use lib.ListN.{length}
use Rattle.logic.specs.declared.Interval.{Interval}
use Rattle.logic.specs.Interval.{Window, ◌⊇◌, WellFormed}
use Rattle.logic.specs.Formula.{Formula}
use Rattle.logic.specs.Derives.{Hyp, ◌⟦◌⟧, Judgment, holds, Derives, Letter, letters, taken}
use Rattle.logic.specs.Multiset.{Perm, Every}
use Rattle.logic.proofs.Multisets.{perm_refl, perm_sym, perm_trans}
use Rattle.request.specs.Range.{minute}
use Rattle.request.specs.Request.{Step}
use Rattle.labels.specs.Labels.{◌∋◌, remove}
use Rattle.labels.proofs.Sets.{only_member, member_below}
use Rattle.labels.proofs.Permutations.{perm_of, on, perm_in}
use Rattle.labels.proofs.Pick.{pick_empty, pick_only, pick_share, pick_remove}
use Rattle.steps.specs.Check.{max_labels}
use Rattle.steps.specs.Rule.{Branch, Leaves, nothing, premise, premises, Rule}
use Rattle.steps.specs.Spells.{Labels, named, Labelled, begun, beginning, Room, Spells}
use Rattle.steps.specs.StepLetters.{letter_of, letters_of}
use Rattle.steps.specs.Limits.{Minutes, Writable}
use Rattle.steps.specs.Labelling.{hyps, Fits}
use Rattle.steps.proofs.Labelling.{Extends, ext_refl, ext_trans}
use Rattle.steps.proofs.Premises.{news, length_begun, ext_begun, spells_extends, lowers, fits_begun}
use Rattle.steps.proofs.Premises.{linear_begun, unrestricted_begun}

-- a derivation by the rules u that takes v labels, its minutes in range
abbrev pub Derivation : List Hyp → List Hyp → Judgment → List Letter → ℕ → Type 0
Derivation R D g u v = (x : Derives R D g) × (letters x ≡ u) × (taken x ≡ v) × Minutes x

-- a premise's derivation, before its labels are taken
abbrev Of : Labels → ℕ → Branch → Type 0
Of ls r p = Derives (p.joins ++ hyps ls r) (p.linears ++ hyps ls p.linear) p.goal

-- what a step's rule makes of derivations of what it leaves: the step's letter first, and the labels that the premises
-- take
abbrev Makes : Labels → ℕ → ℕ → Step → Judgment → Leaves → Type 0
Makes ls r d s g nothing = Derivation (hyps ls r) (hyps ls d) g (letter_of s ∷ []) 0
Makes ls r d s g (premise p) =
    (y : Of ls r p) → Minutes y
    → Derivation (hyps ls r) (hyps ls d) g (letter_of s ∷ letters y) (news p + taken y)
Makes ls r d s g (premises p₁ p₂) =
    (y : Of ls r p₁) → Minutes y → (z : Of ls r p₂) → Minutes z
    → Derivation (hyps ls r) (hyps ls d) g (letter_of s ∷ (letters y ++ letters z))
    (news p₁ + news p₂ + (taken y + taken z))

-- what a rule makes of the derivations alone
abbrev From : Labels → ℕ → ℕ → Judgment → Leaves → Type 0
From ls r d g nothing = Derives (hyps ls r) (hyps ls d) g
From ls r d g (premise p) = Of ls r p → Derives (hyps ls r) (hyps ls d) g
From ls r d g (premises p₁ p₂) = Of ls r p₁ → Of ls r p₂ → Derives (hyps ls r) (hyps ls d) g

-- the interval that `ll` or `ul` chooses, the letter of `ul`, its minutes
chosen_ll : {l s : ℕ} {j : Interval} → Writable (Step.ll l s j) → WellFormed j
chosen_ll w = w.1.0

chosen_ul : {l : ℕ} {j : Interval} → Writable (Step.ul l j) → WellFormed j
chosen_ul w = w.1.0

letter_ul : (l : ℕ) (j : Interval) → letter_of (Step.ul l j) ≡ Letter.ul j
letter_ul l j = refl

minutes_ul : {R D : List Hyp} {g : Judgment} {a b : Formula} {i j : Window} (o : WellFormed j) (c : i ⊇ j)
    (y : Derives R [] (holds a j)) (z : Derives R (b ⟦ j ⟧ ∷ D) g) → j.to ≤ minute.last
    → Minutes y → Minutes z → Minutes (Derives.ul o c y z)
minutes_ul o c y z e my mz = (e, my, mz)

module _ (ls : Labels) (R D : ℕ) (known_R : R < 2 ^ length ls) (known_D : D < 2 ^ length ls)
    (low : length ls ≤ max_labels) where
  -- one label, for a hypothesis that is what the rule asks, and the rest
  out : {h : Hyp} (l : ℕ) → D ∋ l → named ls l ≡ h → Perm (h ∷ hyps ls (remove D l)) (hyps ls D)
  out l m e =
      rw e at (pick_remove (named ls) max_labels D l (omega (arith, member_below D (length ls) l known_D m)) m)

  -- an empty set, and a set of one label
  bare : (d : ℕ) → d ≡ 0 → Perm (hyps ls d) []
  bare d e = perm_of (ap (hyps ls) e ∙ pick_empty (named ls) max_labels)

  only : {h : Hyp} (l : ℕ) → D ≡ 2 ^ l → named ls l ≡ h → Perm (h ∷ []) (hyps ls D)
  only l q e =
      let k = member_below D (length ls) l known_D (only_member D l q) in
      perm_sym (perm_of (ap (hyps ls) q ∙ pick_only (named ls) max_labels l (omega arith) ∙ ap (◌∷ []) e))

  copied : (l : ℕ) → R ∋ l → Memᴰ (named ls l) (hyps ls R)
  copied l m =
      perm_in (pick_remove (named ls) max_labels R l (omega (arith, member_below R (length ls) l known_R m)) m)
      (named ls l) (Memᴰ.head refl)

  rest : Perm (hyps ls R) (hyps ls R)
  rest = perm_refl (hyps ls R)

  makes_ax : {l : ℕ} {g : Judgment} {w : Leaves} → Rule (named ls) R D (Step.ax l) g w → Makes ls R D (Step.ax l) g w
  unfolding letters taken
  makes_ax (Rule.ax {l = l} q e c) = (Derives.same rest (only l q e) (Derives.ax c), refl, refl, tt)

  makes_sl : {l : ℕ} {g : Judgment} {w : Leaves} → Rule (named ls) R D (Step.sl l) g w → Makes ls R D (Step.sl l) g w
  unfolding letters taken
  makes_sl (Rule.sl {l = l} m e c) = λ y my. (Derives.same rest (out l m e) (Derives.sl c y), refl, omega arith, my)

  makes_hl : {l : ℕ} {g : Judgment} {w : Leaves} → Rule (named ls) R D (Step.hl l) g w → Makes ls R D (Step.hl l) g w
  unfolding letters taken
  makes_hl (Rule.hl {l = l} m e) = λ y my. (Derives.same rest (out l m e) (Derives.hl y), refl, omega arith, my)

  makes_p1 : {g : Judgment} {w : Leaves} → Rule (named ls) R D Step.p1 g w → Makes ls R D Step.p1 g w
  unfolding letters taken
  makes_p1 Rule.p1 = λ y my. (Derives.p1 y, refl, omega arith, my)

  makes_p2 : {g : Judgment} {w : Leaves} → Rule (named ls) R D Step.p2 g w → Makes ls R D Step.p2 g w
  unfolding letters taken
  makes_p2 Rule.p2 = λ y my. (Derives.p2 y, refl, omega arith, my)

  makes_pl : {l : ℕ} {g : Judgment} {w : Leaves} → Rule (named ls) R D (Step.pl l) g w → Makes ls R D (Step.pl l) g w
  unfolding letters taken
  makes_pl (Rule.pl {l = l} m e) = λ y my z mz.
      (Derives.same rest (out l m e) (Derives.pl y z), refl, omega arith, (my, mz))

  makes_w1 : {l : ℕ} {g : Judgment} {w : Leaves} → Rule (named ls) R D (Step.w1 l) g w → Makes ls R D (Step.w1 l) g w
  unfolding letters taken
  makes_w1 (Rule.w1 {l = l} m e) = λ y my. (Derives.same rest (out l m e) (Derives.w1 y), refl, omega arith, my)

  makes_w2 : {l : ℕ} {g : Judgment} {w : Leaves} → Rule (named ls) R D (Step.w2 l) g w → Makes ls R D (Step.w2 l) g w
  unfolding letters taken
  makes_w2 (Rule.w2 {l = l} m e) = λ y my. (Derives.same rest (out l m e) (Derives.w2 y), refl, omega arith, my)

  makes_hr : {g : Judgment} {w : Leaves} → Rule (named ls) R D Step.hr g w → Makes ls R D Step.hr g w
  unfolding letters taken
  makes_hr Rule.hr = λ y my. (Derives.hr y, refl, omega arith, my)

  makes_wr : {g : Judgment} {w : Leaves} → Rule (named ls) R D Step.wr g w → Makes ls R D Step.wr g w
  unfolding letters taken
  makes_wr Rule.wr = λ y my z mz. (Derives.wr y z, refl, omega arith, (my, mz))

  makes_ll : {l s : ℕ} {j : Interval} {g : Judgment} {w : Leaves} → Rule (named ls) R D (Step.ll l s j) g w
      → Writable (Step.ll l s j) → Makes ls R D (Step.ll l s j) g w
  unfolding letters taken
  makes_ll (Rule.ll {l = l} {s = s} m e c h) w = λ y my z mz.
      let k = perm_trans (on (pick_share (named ls) max_labels s (remove D l) h)) (out l m e) in
      (Derives.same rest k (Derives.ll (chosen_ll w) c y z), refl, omega arith, (w.0.interval.to.most, my, mz))

  -- `ul`: the derivation, before its rules and its minutes
  abbrev from_ul : {l : ℕ} {j : Interval} {g : Judgment} {w : Leaves} → Rule (named ls) R D (Step.ul l j) g w
      → WellFormed j → From ls R D g w
  from_ul (Rule.ul {l = l} m e c) o = λ y z.
      Derives.same rest (out l m e) (Derives.ul o c (Derives.same rest (bare 0 refl) y) z)

  makes_ul : {l : ℕ} {j : Interval} {g : Judgment} {w : Leaves} → Rule (named ls) R D (Step.ul l j) g w
      → Writable (Step.ul l j) → Makes ls R D (Step.ul l j) g w
  unfolding letters taken
  makes_ul (Rule.ul {l = l} {j = j} m e c) w = λ y my z mz. (
    from_ul (Rule.ul m e c) (chosen_ul w) y z,
    ap (◌∷ (letters y ++ letters z)) (sym (letter_ul l j)),
    omega arith,
    minutes_ul (chosen_ul w) c (Derives.same rest (bare 0 refl) y) z w.0.interval.to.most my mz,
  )

  -- every rule
  makes : {s : Step} {g : Judgment} {w : Leaves} → Rule (named ls) R D s g w → Writable s
      → Makes ls R D s g w
  unfolding letters taken
  makes (Rule.ax {l = l} q e c) w = makes_ax (Rule.ax {l = l} q e c)
  makes (Rule.cp {l = l} m) w = λ y my. (Derives.cp (copied l m) y, refl, omega arith, my)
  makes (Rule.tr {s = s} h) w = λ y my z mz.
      (Derives.same rest (pick_share (named ls) max_labels s D h) (Derives.tr y z), refl, omega arith, (my, mz))
  makes (Rule.tl {l = l} m e) w = λ y my. (Derives.same rest (out l m e) (Derives.tl y), refl, omega arith, my)
  makes (Rule.or e) w = (Derives.same rest (perm_sym (bare D e)) Derives.or, refl, refl, tt)
  makes (Rule.ol {l = l} m e) w = λ y my. (Derives.same rest (out l m e) (Derives.ol y), refl, omega arith, my)
  makes Rule.wr w = makes_wr Rule.wr
  makes (Rule.w1 {l = l} m e) w = makes_w1 (Rule.w1 {l = l} m e)
  makes (Rule.w2 {l = l} m e) w = makes_w2 (Rule.w2 {l = l} m e)
  makes Rule.p1 w = makes_p1 Rule.p1
  makes Rule.p2 w = makes_p2 Rule.p2
  makes (Rule.pl {l = l} m e) w = makes_pl (Rule.pl {l = l} m e)
  makes (Rule.ll m e c h) w = makes_ll (Rule.ll m e c h) w
  makes (Rule.ul m e c) w = makes_ul (Rule.ul m e c) w
  makes (Rule.br e) w = λ y my.
      (Derives.same rest (perm_sym (bare D e)) (Derives.br (Derives.same rest (bare D e) y)), refl, omega arith, my)
  makes (Rule.bl {l = l} m e) w = λ y my. (Derives.same rest (out l m e) (Derives.bl y), refl, omega arith, my)
  makes Rule.hr w = makes_hr Rule.hr
  makes (Rule.hl {l = l} m e) w = makes_hl (Rule.hl {l = l} m e)
  makes Rule.sr w = λ y my. (Derives.sr y, refl, omega arith, my)
  makes Rule.af w = λ y my. (Derives.af y, refl, omega arith, my)
  makes (Rule.sl {l = l} m e c) w = makes_sl (Rule.sl {l = l} m e c)
  makes (Rule.gr e c) w = (Derives.same rest (perm_sym (bare D e)) (Derives.gr c), refl, refl, tt)
  makes (Rule.al {l = l} m e n) w = λ y my. (Derives.same rest (out l m e) (Derives.al n y), refl, omega arith, my)

-- The derivation that the lines spell: by their rules, as many labels as it takes.
pub record Derived (ss : List Step) (ls : Labels) (q : Labelled) (rest : List Step) (ls' : Labels) : Type 0 where
  pub derivation : Derives (hyps ls q.unrestricted) (hyps ls q.linear) q.goal
  pub lines : letters_of ss ≡ letters derivation ++ letters_of rest
  pub labels : length ls' ≡ length ls + taken derivation
  pub room : length ls' ≤ max_labels
  pub minutes : Minutes derivation
  pub left : Every Writable rest

-- a premise's derivation from that of its sequent, at labels ls₁ that extend ls
unlabelled : {ls ls₁ : Labels} {q : Labelled} (p : Branch) → Extends ls ls₁ → Fits ls q → p.linear ≤ q.linear
    → Room ls₁ p
    → (y : Derives (hyps (begun ls₁ p) (beginning ls₁ q.unrestricted p).unrestricted)
    (hyps (begun ls₁ p) (beginning ls₁ q.unrestricted p).linear) p.goal)
    → Minutes y → Derivation (p.joins ++ hyps ls q.unrestricted) (p.linears ++ hyps ls p.linear) p.goal
    (letters y) (taken y)
unfolding letters taken
unlabelled p x fits low room y my = (
  Derives.same (perm_sym (unrestricted_begun p x fits low room)) (perm_sym (linear_begun p x fits low room)) y,
  refl,
  refl,
  my,
)

pub derived : {ss rest : List Step} {ls ls' : Labels} {q : Labelled} → Spells ss ls q rest ls' → Fits ls q
    → Every Writable ss → Derived ss ls q rest ls'
derived {rest = rest} {ls = ls} {q = q} (Spells.closes r) f w =
    let m = makes ls q.unrestricted q.linear f.unrestricted f.linear f.room r w.0 in
    record {
      derivation = m.0;
      lines = ap (◌++ letters_of rest) (sym m.1);
      labels = omega (arith, m.2);
      room = f.room;
      minutes = m.3;
      left = w.1;
    }
derived {ls = ls} {q = q} (Spells.goes {s = t} {p = p} r room s) f w =
    let low = lowers r in
    let c = derived s (fits_begun p (ext_refl ls) f low room) w.1 in
    let y = unlabelled p (ext_refl ls) f low room c.derivation c.minutes in
    let m = makes ls q.unrestricted q.linear f.unrestricted f.linear f.room r w.0 y.0 y.3 in
    record {
      derivation = m.0;
      lines = rw (m.1, y.1) (ap (letter_of t ∷◌) c.lines);
      labels = omega (arith, m.2, y.2, c.labels, length_begun ls p);
      room = c.room;
      minutes = m.3;
      left = c.left;
    }
derived {rest = rest} {ls = ls} {q = q} (Spells.parts {s = t} {ls₁ = ls₁} {p₁ = p₁} {p₂ = p₂} r room₁ s₁ room₂ s₂) f w =
    let low = lowers r in
    let x = ext_trans (ext_begun ls p₁) (spells_extends s₁).0 in
    let c₁ = derived s₁ (fits_begun p₁ (ext_refl ls) f low.0 room₁) w.1 in
    let c₂ = derived s₂ (fits_begun p₂ x f low.1 room₂) c₁.left in
    let y₁ = unlabelled p₁ (ext_refl ls) f low.0 room₁ c₁.derivation c₁.minutes in
    let y₂ = unlabelled p₂ x f low.1 room₂ c₂.derivation c₂.minutes in
    let m = makes ls q.unrestricted q.linear f.unrestricted f.linear f.room r w.0
    y₁.0 y₁.3 y₂.0 y₂.3 in
    record {
      derivation = m.0;
      lines = rw (m.1, y₁.1, y₂.1) (ap (letter_of t ∷◌) (c₁.lines ∙ ap (letters c₁.derivation ++◌) c₂.lines
          ∙ sym (append_assoc (letters c₁.derivation) (letters c₂.derivation) (letters_of rest))));
      labels = omega (arith, m.2, y₁.2, y₂.2, c₁.labels, c₂.labels, length_begun ls p₁, length_begun ls₁ p₂);
      room = c₂.room;
      minutes = m.3;
      left = c₂.left;
    }

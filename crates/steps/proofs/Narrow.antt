-- A goal at an interval within its own is reached by the same lines.
use mathlib.Core.List.{List, ◌∷◌}
use Prim.Native.Nat.{ℕ}
use Rattle.logic.specs.Derives.{Hyp, Judgment}
use Rattle.logic.specs.Statements.{Narrows, at_holds, at_affirms}
use Rattle.logic.proofs.Intervals.{⊇-refl, ⊇-trans}
use Rattle.request.specs.Request.{Step}
use Rattle.steps.specs.Rule.{Branch, Leaves, nothing, premise, premises, Rule}
use Rattle.steps.specs.Spells.{Labels, Labelled, Right, begun, beginning, Room, Spells}
use Rattle.steps.specs.Labelling.{labelled_by}
use Rattle.steps.specs.Statements.{Narrowing}

same_goal : (g : Judgment) → Narrows g g
same_goal (Judgment.holds a i) = at_holds (⊇-refl i)
same_goal (Judgment.affirms k a i) = at_affirms (⊇-refl i)

-- a premise, and a sequent, with another goal
abbrev toward : Branch → Judgment → Branch
toward p g = record { linear = p.linear; goal = g; linears = p.linears; joins = p.joins }

abbrev asking : Labelled → Judgment → Labelled
asking q g = labelled_by q.unrestricted q.linear g

-- what is left is the same but for goals, each at an interval within its own
data LeavesNarrow : Leaves → Leaves → Type 0 where
  none : LeavesNarrow nothing nothing
  one : {p : Branch} {g : Judgment} → Narrows p.goal g → LeavesNarrow (premise p) (premise (toward p g))
  two : {p q : Branch} {g h : Judgment} → Narrows p.goal g → Narrows q.goal h
      → LeavesNarrow (premises p q) (premises (toward p g) (toward q h))

-- Every rule: the step is right at an interval within, and what it leaves narrows. `hr`, `ll` and `ul` leave a first
-- premise with an interval of their own.
narrow : {label : ℕ → Hyp} {R D : ℕ} {s : Step} {g h : Judgment} {w : Leaves}
    → Rule label R D s g w → Narrows g h → (v : Leaves) × LeavesNarrow w v × Rule label R D s h v
narrow (Rule.ax d e c) (at_holds n) = (_, LeavesNarrow.none, Rule.ax d e (⊇-trans c n))
narrow (Rule.cp m) n = (_, LeavesNarrow.one n, Rule.cp m)
narrow (Rule.tr s) (at_holds n) = (_, LeavesNarrow.two (at_holds n) (at_holds n), Rule.tr s)
narrow (Rule.tl m e) n = (_, LeavesNarrow.one n, Rule.tl m e)
narrow (Rule.or z) (at_holds n) = (_, LeavesNarrow.none, Rule.or z)
narrow (Rule.ol m e) n = (_, LeavesNarrow.one n, Rule.ol m e)
narrow Rule.wr (at_holds n) = (_, LeavesNarrow.two (at_holds n) (at_holds n), Rule.wr)
narrow (Rule.w1 m e) n = (_, LeavesNarrow.one n, Rule.w1 m e)
narrow (Rule.w2 m e) n = (_, LeavesNarrow.one n, Rule.w2 m e)
narrow Rule.p1 (at_holds n) = (_, LeavesNarrow.one (at_holds n), Rule.p1)
narrow Rule.p2 (at_holds n) = (_, LeavesNarrow.one (at_holds n), Rule.p2)
narrow (Rule.pl m e) n = (_, LeavesNarrow.two n n, Rule.pl m e)
narrow (Rule.ll m e c s) n = (_, LeavesNarrow.two (same_goal _) n, Rule.ll m e c s)
narrow (Rule.ul m e c) n = (_, LeavesNarrow.two (same_goal _) n, Rule.ul m e c)
narrow (Rule.br z) (at_holds n) = (_, LeavesNarrow.one (at_holds n), Rule.br z)
narrow (Rule.bl m e) n = (_, LeavesNarrow.one n, Rule.bl m e)
narrow Rule.hr (at_holds n) = (_, LeavesNarrow.one (same_goal _), Rule.hr)
narrow (Rule.hl m e) n = (_, LeavesNarrow.one n, Rule.hl m e)
narrow Rule.sr (at_holds n) = (_, LeavesNarrow.one (at_affirms n), Rule.sr)
narrow Rule.af (at_affirms n) = (_, LeavesNarrow.one (at_holds n), Rule.af)
narrow (Rule.sl m e c) (at_affirms n) = (_, LeavesNarrow.one (at_affirms n), Rule.sl m e (⊇-trans c n))
narrow (Rule.gr z c) (at_holds n) = (_, LeavesNarrow.none, Rule.gr z c)
narrow (Rule.al m e h) n = (_, LeavesNarrow.one n, Rule.al m e h)

-- So all lines: from the step at the narrower goal and what it leaves, and from the premises at every narrower goal.
abbrev Narrower : ℕ → Labels → Branch → List Step → List Step → Labels → Type 0
Narrower r ls p ss rest after =
    (h : Judgment) → Narrows p.goal h → Spells ss (begun ls p) (beginning ls r (toward p h)) rest after

module _ (ls : Labels) (q : Labelled) (g : Judgment) {s : Step} where
  on_close : {rest : List Step} (v : Leaves) → LeavesNarrow nothing v → Right ls (asking q g) s v
      → Spells (s ∷ rest) ls (asking q g) rest ls
  on_close v LeavesNarrow.none r = Spells.closes r

  on_one : {ss rest : List Step} {after : Labels} {p : Branch} (v : Leaves) → LeavesNarrow (premise p) v
      → Right ls (asking q g) s v → Room ls p → Narrower q.unrestricted ls p ss rest after
      → Spells (s ∷ ss) ls (asking q g) rest after
  on_one v (LeavesNarrow.one n) r room more = Spells.goes r room (more _ n)

  on_two : {ss mid rest : List Step} {ls₁ after : Labels} {p₁ p₂ : Branch} (v : Leaves)
      → LeavesNarrow (premises p₁ p₂) v → Right ls (asking q g) s v
      → Room ls p₁ → Narrower q.unrestricted ls p₁ ss mid ls₁
      → Room ls₁ p₂ → Narrower q.unrestricted ls₁ p₂ mid rest after
      → Spells (s ∷ ss) ls (asking q g) rest after
  on_two v (LeavesNarrow.two n m) r room₁ first room₂ second =
      Spells.parts r room₁ (first _ n) room₂ (second _ m)

pub narrowed : {ss rest : List Step} {ls after : Labels} {q : Labelled} → Spells ss ls q rest after
    → (g : Judgment) → Narrows q.goal g → Spells ss ls (asking q g) rest after
narrowed {ls} {q} (Spells.closes r) g n = let w = narrow r n in on_close ls q g w.0 w.1 w.2
narrowed {ls} {q} (Spells.goes r room s) g n =
    let w = narrow r n in on_one ls q g w.0 w.1 w.2 room (narrowed s)
narrowed {ls} {q} (Spells.parts r room₁ s room₂ t) g n =
    let w = narrow r n in on_two ls q g w.0 w.1 w.2 room₁ (narrowed s) room₂ (narrowed t)

pub narrowing : Narrowing
narrowing ss rest ls after r d g h n s = narrowed s h n

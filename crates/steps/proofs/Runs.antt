-- How step lines end, one step at a time: a sequent is closed (Spells) or halted (Stops) by its step's rule and by how
-- what the step leaves ends.
use mathlib.Core.List.{List, ◌∷◌}
use Prim.Native.Nat.{ℕ, ◌-◌, ◌<◌}
use lib.ListN.{length}
use Rattle.request.specs.Request.{Step}
use Rattle.steps.specs.Check.{max_labels}
use Rattle.steps.specs.Rule.{Branch, Leaves, nothing, premise, premises}
use Rattle.steps.specs.Spells.{Labels, Labelled, Right, begun, beginning, Room, Spells, First, Stops}

-- closed, with the lines left and the labels taken; or halted, with refusal and step
pub data Result : Type 0 where
  closed : List Step → Labels → Result
  halted : ℕ → ℕ → Result

module _ (total : ℕ) where
  abbrev pub Ends : List Step → Labels → Labelled → Result → Type 0
  Ends ss ls q (closed rest after) = Spells ss ls q rest after
  Ends ss ls q (halted c n) = Stops total ss ls q c n

  -- a premise p of step n, for a sequent with unrestricted labels r: it cannot begin, or it ends
  pub data Enters (n : ℕ) (ss : List Step) (ls : Labels) (r : ℕ) (p : Branch) : Result → Type 0 where
    over : max_labels < length (begun ls p) → Enters n ss ls r p (halted 41 n)
    within : {e : Result} → Room ls p → Ends ss (begun ls p) (beginning ls r p) e → Enters n ss ls r p e

  -- step s, with the lines ss after it
  pub data After (s : Step) (ss : List Step) (ls : Labels) (q : Labelled) : Result → Type 0 where
    breaks : ((w : Leaves) → Right ls q s w → ⊥) → After s ss ls q (halted 40 (total - length ss))
    closes : Right ls q s nothing → After s ss ls q (closed ss ls)
    goes : {p : Branch} {e : Result} → Right ls q s (premise p)
        → Enters (total - length ss) ss ls q.unrestricted p e → After s ss ls q e
    halts : {p₁ p₂ : Branch} {c n : ℕ} → Right ls q s (premises p₁ p₂)
        → Enters (total - length ss) ss ls q.unrestricted p₁ (halted c n) → After s ss ls q (halted c n)
    parts : {p₁ p₂ : Branch} {mid : List Step} {ls₁ : Labels} {e : Result} → Right ls q s (premises p₁ p₂)
        → Enters (total - length ss) ss ls q.unrestricted p₁ (closed mid ls₁)
        → Enters (total - length ss) mid ls₁ q.unrestricted p₂ e → After s ss ls q e

  module _ {s : Step} {ss : List Step} {ls : Labels} {q : Labelled} where
    pub ends_after : (e : Result) → Ends (s ∷ ss) ls q e → After s ss ls q e
    ends_after (closed rest after) (Spells.closes r) = closes r
    ends_after (closed rest after) (Spells.goes r room x) = goes r (within room x)
    ends_after (closed rest after) (Spells.parts r room₁ x₁ room₂ x₂) = parts r (within room₁ x₁) (within room₂ x₂)
    ends_after (halted c n) (Stops.breaks never) = breaks never
    ends_after (halted c n) (Stops.full r First.of_one l) = goes r (over l)
    ends_after (halted c n) (Stops.full r First.of_two l) = halts r (over l)
    ends_after (halted c n) (Stops.first r First.of_one room x) = goes r (within room x)
    ends_after (halted c n) (Stops.first r First.of_two room x) = halts r (within room x)
    ends_after (halted c n) (Stops.full_second r room x l) = parts r (within room x) (over l)
    ends_after (halted c n) (Stops.second r room x room₂ y) = parts r (within room x) (within room₂ y)

    pub after_ends : (e : Result) → After s ss ls q e → Ends (s ∷ ss) ls q e
    after_ends (closed rest after) (closes r) = Spells.closes r
    after_ends (closed rest after) (goes r (within room x)) = Spells.goes r room x
    after_ends (closed rest after) (parts r (within room₁ x₁) (within room₂ x₂)) = Spells.parts r room₁ x₁ room₂ x₂
    after_ends (halted c n) (breaks never) = Stops.breaks never
    after_ends (halted c n) (goes r (over l)) = Stops.full r First.of_one l
    after_ends (halted c n) (goes r (within room x)) = Stops.first r First.of_one room x
    after_ends (halted c n) (halts r (over l)) = Stops.full r First.of_two l
    after_ends (halted c n) (halts r (within room x)) = Stops.first r First.of_two room x
    after_ends (halted c n) (parts r (within room x) (over l)) = Stops.full_second r room x l
    after_ends (halted c n) (parts r (within room x) (within room₂ y)) = Stops.second r room x room₂ y

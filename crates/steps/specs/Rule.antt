-- Document 01's section "Steps" as a relation on formulas and labels: what each step asks of a sequent and what it
-- leaves, one constructor for each step letter, with document 02's `al`. No number of a formula stands here, and no
-- recursion.
use Rattle.std.specs.Prelude.{◌≡◌, List, [], ◌∷◌, ℕ, ◌^◌}
use Rattle.std.proofs.Math.Option.{Option}
use Rattle.logic.specs.declared.Interval.{Interval}
use Rattle.logic.specs.Interval.{Window, ◌⊇◌}
use Rattle.logic.specs.Formula.{Formula, atom, one, tensor, with, plus, lolli, implies, bang, at, says, superset}
use Rattle.logic.specs.Formula.{for_every, IsHolder, with_holder}
use Rattle.logic.specs.Derives.{Hyp, ◌⟦◌⟧, Judgment, holds, affirms}
use Rattle.request.specs.Request.{Step}
use Rattle.labels.specs.Labels.{◌∋◌, ◌⊑◌, remove, without}

-- A premise: its linear labels and its goal, and the hypotheses that take new labels, linear ones and ones that join R.
-- R itself passes to every premise.
pub record Branch : Type 0 where
  pub linear : ℕ
  pub goal : Judgment
  pub linears : List Hyp
  pub joins : List Hyp

-- a premise with the linear labels d, the goal g and new linear labels for hs; and one with h joining R
abbrev pub from : ℕ → Judgment → List Hyp → Branch
from d g hs = record { linear = d; goal = g; linears = hs; joins = [] }

abbrev pub joining : ℕ → Judgment → Hyp → Branch
joining d g h = record { linear = d; goal = g; linears = []; joins = h ∷ [] }

-- "A step closes the line or leaves one or two premises"
pub data Leaves : Type 0 where
  nothing : Leaves
  premise : Branch → Leaves
  premises : Branch → Branch → Leaves

-- Rule label R D step goal leaves: the step is right at the sequent with unrestricted labels R, linear labels D and
-- this goal, where `label` tells what a label stands for; and it leaves what is said.
pub data Rule (label : ℕ → Hyp) (R D : ℕ) : Step → Judgment → Leaves → Type 0 where
  -- "D holds just L, an atom equal to the goal; L's window ⊇ goal's. Closes." Document 02: "Equality at `ax` is that of
  -- the formula after the holder is put in."
  ax : {l p s : ℕ} {o : Option ℕ} {i j : Window}
      → D ≡ 2 ^ l → label l ≡ atom p s o ⟦ i ⟧ → i ⊇ j → Rule label R D (Step.ax l) (holds (atom p s o) j) nothing
  -- "L in R; a new single label of the same wording and window."
  cp : {l : ℕ} {g : Judgment} → R ∋ l → Rule label R D (Step.cp l) g (premise (from D g (label l ∷ [])))
  -- "⊗; left from the share, right from the rest of D."
  tr : {s : ℕ} {a b : Formula} {i : Window} → s ⊑ D
      → Rule label R D (Step.tr s) (holds (tensor a b) i)
      (premises (from s (holds a i) []) (from (without D s) (holds b i) []))
  -- "both parts"
  tl : {l : ℕ} {a b : Formula} {i : Window} {g : Judgment} → D ∋ l → label l ≡ tensor a b ⟦ i ⟧
      → Rule label R D (Step.tl l) g (premise (from (remove D l) g (a ⟦ i ⟧ ∷ b ⟦ i ⟧ ∷ [])))
  -- "1, D empty; closes."
  or : {i : Window} → D ≡ 0 → Rule label R D Step.or (holds one i) nothing
  -- "drops L, a 1."
  ol : {l : ℕ} {i : Window} {g : Judgment} → D ∋ l → label l ≡ one ⟦ i ⟧
      → Rule label R D (Step.ol l) g (premise (from (remove D l) g []))
  -- "&, both arms, each from all of D."
  wr : {a b : Formula} {i : Window}
      → Rule label R D Step.wr (holds (with a b) i) (premises (from D (holds a i) []) (from D (holds b i) []))
  -- "that arm"
  w1 : {l : ℕ} {a b : Formula} {i : Window} {g : Judgment} → D ∋ l → label l ≡ with a b ⟦ i ⟧
      → Rule label R D (Step.w1 l) g (premise (from (remove D l) g (a ⟦ i ⟧ ∷ [])))
  w2 : {l : ℕ} {a b : Formula} {i : Window} {g : Judgment} → D ∋ l → label l ≡ with a b ⟦ i ⟧
      → Rule label R D (Step.w2 l) g (premise (from (remove D l) g (b ⟦ i ⟧ ∷ [])))
  -- "⊕, that arm."
  p1 : {a b : Formula} {i : Window} → Rule label R D Step.p1 (holds (plus a b) i) (premise (from D (holds a i) []))
  p2 : {a b : Formula} {i : Window} → Rule label R D Step.p2 (holds (plus a b) i) (premise (from D (holds b i) []))
  -- "a premise for each arm"
  pl : {l : ℕ} {a b : Formula} {i : Window} {g : Judgment} → D ∋ l → label l ≡ plus a b ⟦ i ⟧
      → Rule label R D (Step.pl l) g
      (premises (from (remove D l) g (a ⟦ i ⟧ ∷ [])) (from (remove D l) g (b ⟦ i ⟧ ∷ [])))
  -- "A ⊸ B; L's window ⊇ J = from..to; A at J from the share, which must not have L; then the goal from the rest with
  -- B at J for L."
  ll : {l s : ℕ} {a b : Formula} {i j : Window} {g : Judgment}
      → D ∋ l → label l ≡ lolli a b ⟦ i ⟧ → i ⊇ j → s ⊑ remove D l
      → Rule label R D (Step.ll l s j) g
      (premises (from s (holds a j) []) (from (without (remove D l) s) g (b ⟦ j ⟧ ∷ [])))
  -- "A ⊃ B; the same, but A from an empty D."
  ul : {l : ℕ} {a b : Formula} {i j : Window} {g : Judgment} → D ∋ l → label l ≡ implies a b ⟦ i ⟧ → i ⊇ j
      → Rule label R D (Step.ul l j) g (premises (from 0 (holds a j) []) (from (remove D l) g (b ⟦ j ⟧ ∷ [])))
  -- "!, D empty, then the part."
  br : {a : Formula} {i : Window} → D ≡ 0
      → Rule label R D Step.br (holds (bang a) i) (premise (from D (holds a i) []))
  -- "the part joins R"
  bl : {l : ℕ} {a : Formula} {i : Window} {g : Judgment} → D ∋ l → label l ≡ bang a ⟦ i ⟧
      → Rule label R D (Step.bl l) g (premise (joining (remove D l) g (a ⟦ i ⟧)))
  -- "A@J becomes A at J."
  hr : {a : Formula} {i : Window} {j : Interval}
      → Rule label R D Step.hr (holds (at a j) i) (premise (from D (holds a j) []))
  -- "likewise for L"
  hl : {l : ℕ} {a : Formula} {i : Window} {j : Interval} {g : Judgment} → D ∋ l → label l ≡ at a j ⟦ i ⟧
      → Rule label R D (Step.hl l) g (premise (from (remove D l) g (a ⟦ j ⟧ ∷ [])))
  -- "⟨K⟩A becomes K affirms A."
  sr : {k : ℕ} {a : Formula} {i : Window}
      → Rule label R D Step.sr (holds (says k a) i) (premise (from D (affirms k a i) []))
  -- "K affirms A becomes A."
  af : {k : ℕ} {a : Formula} {i : Window}
      → Rule label R D Step.af (affirms k a i) (premise (from D (holds a i) []))
  -- "L is ⟨K⟩A and the goal K affirms B, same K; L's window ⊇ goal's."
  sl : {l k : ℕ} {a b : Formula} {i j : Window} → D ∋ l → label l ≡ says k a ⟦ i ⟧ → i ⊇ j
      → Rule label R D (Step.sl l) (affirms k b j) (premise (from (remove D l) (affirms k b j) (a ⟦ i ⟧ ∷ [])))
  -- "⊇ that holds, D empty; closes."
  gr : {i j : Interval} {k : Window} → D ≡ 0 → i ⊇ j → Rule label R D Step.gr (holds (superset i j) k) nothing
  -- document 02, ask 7: "uses `q` at one named holder, 1 to 65,535": its part, after that is put in, for L
  al : {l h : ℕ} {a : Formula} {i : Window} {g : Judgment} → D ∋ l → label l ≡ for_every a ⟦ i ⟧ → IsHolder h
      → Rule label R D (Step.al l h) g (premise (from (remove D l) g (with_holder h a ⟦ i ⟧ ∷ [])))

-- Step lines that spell a derivation, by the rules of Rule.antt; and where step lines are stopped.
use Rattle.std.specs.Prelude.{List, [], ◌∷◌, ◌++◌, ℕ, ◌+◌, ◌-◌, ◌≤◌, ◌<◌, length, get_or}
use Rattle.logic.specs.Interval.{no_interval}
use Rattle.logic.specs.Formula.{one}
use Rattle.logic.specs.Derives.{Hyp, ◌⟦◌⟧, Judgment}
use Rattle.request.specs.Request.{Step}
use Rattle.labels.specs.Labels.{insert}
use Rattle.steps.specs.Check.{max_labels}
use Rattle.steps.specs.Rule.{Branch, Leaves, nothing, premise, premises, Rule}

-- The labels taken so far, in order: label k stands for the k-th. "A new label is the lowest never taken in this
-- sheet": the length of the list.
abbrev pub Labels : Type 0
Labels = List Hyp

abbrev pub no_hyp : Hyp
no_hyp = one ⟦ no_interval ⟧

abbrev pub named : Labels → ℕ → Hyp
named ls k = get_or ls k no_hyp

-- new labels for hypotheses, one after another
abbrev pub grown : Labels → List Hyp → Labels
grown ls [] = ls
grown ls (h ∷ hs) = grown (ls ++ (h ∷ [])) hs

-- a set with those new labels
abbrev pub adding : Labels → List Hyp → ℕ → ℕ
adding ls [] d = d
adding ls (h ∷ hs) d = adding (ls ++ (h ∷ [])) hs (insert d (length ls))

-- a sequent on labels (document 01: a judged line)
pub record Labelled : Type 0 where
  pub unrestricted : ℕ
  pub linear : ℕ
  pub goal : Judgment

-- The rule that a step is right by, at a sequent and the labels taken so far.
abbrev pub Right : Labels → Labelled → Step → Leaves → Type 0
Right ls q s w = Rule (named ls) q.unrestricted q.linear s q.goal w

-- A premise of a sequent with unrestricted labels r begins and takes its labels: the labels then, and its sequent.
abbrev pub begun : Labels → Branch → Labels
begun ls p = grown (grown ls p.linears) p.joins

abbrev pub beginning : Labels → ℕ → Branch → Labelled
beginning ls r p = record {
  unrestricted = adding (grown ls p.linears) p.joins r;
  linear = adding ls p.linears p.linear;
  goal = p.goal;
}

-- there are labels for a premise
abbrev pub Room : Labels → Branch → Type 0
Room ls p = length (begun ls p) ≤ max_labels

-- Spells lines ls q rest ls': the lines, up to the rest, are a derivation of the sequent q, written with labels; ls are
-- the labels taken before, ls' after. "First comes the whole of the first premise, then the whole of the second."
pub data Spells : List Step → Labels → Labelled → List Step → Labels → Type 0 where
  closes : {s : Step} {rest : List Step} {ls : Labels} {q : Labelled}
      → Right ls q s nothing
      → Spells (s ∷ rest) ls q rest ls
  goes : {s : Step} {ss rest : List Step} {ls ls' : Labels} {q : Labelled} {p : Branch}
      → Right ls q s (premise p)
      → Room ls p → Spells ss (begun ls p) (beginning ls q.unrestricted p) rest ls'
      → Spells (s ∷ ss) ls q rest ls'
  parts : {s : Step} {ss mid rest : List Step} {ls ls₁ ls' : Labels} {q : Labelled} {p₁ p₂ : Branch}
      → Right ls q s (premises p₁ p₂)
      → Room ls p₁ → Spells ss (begun ls p₁) (beginning ls q.unrestricted p₁) mid ls₁
      → Room ls₁ p₂ → Spells mid (begun ls₁ p₂) (beginning ls₁ q.unrestricted p₂) rest ls'
      → Spells (s ∷ ss) ls q rest ls'

-- the premise that a step leaves first
pub data First : Leaves → Branch → Type 0 where
  of_one : {p : Branch} → First (premise p) p
  of_two : {p q : Branch} → First (premises p q) p

-- Stops total lines ls q refusal step: the lines close no derivation of the sequent q, and this is the first fault,
-- "found step by step". The step of a line with `rest` after it is total - length rest.
pub data Stops (total : ℕ) : List Step → Labels → Labelled → ℕ → ℕ → Type 0 where
  -- "steps end with a premise open (step = steps + 1)"
  ends : {ls : Labels} {q : Labelled} → Stops total [] ls q 42 (total + 1)
  -- "step breaks its rule"
  breaks : {s : Step} {ss : List Step} {ls : Labels} {q : Labelled}
      → ((w : Leaves) → Right ls q s w → ⊥)
      → Stops total (s ∷ ss) ls q 40 (total - length ss)
  -- "step is right but needs label 64"
  full : {s : Step} {ss : List Step} {ls : Labels} {q : Labelled} {w : Leaves} {p : Branch}
      → Right ls q s w → First w p → max_labels < length (begun ls p)
      → Stops total (s ∷ ss) ls q 41 (total - length ss)
  -- the first premise is stopped
  first : {s : Step} {ss : List Step} {ls : Labels} {q : Labelled} {w : Leaves} {p : Branch} {c n : ℕ}
      → Right ls q s w → First w p
      → Room ls p → Stops total ss (begun ls p) (beginning ls q.unrestricted p) c n
      → Stops total (s ∷ ss) ls q c n
  -- the first premise closes, and the second needs label 64: "step = the one whose rule wants it, also for its second
  -- premise, found as that begins"
  full_second : {s : Step} {ss mid : List Step} {ls ls₁ : Labels} {q : Labelled} {p₁ p₂ : Branch}
      → Right ls q s (premises p₁ p₂)
      → Room ls p₁ → Spells ss (begun ls p₁) (beginning ls q.unrestricted p₁) mid ls₁
      → max_labels < length (begun ls₁ p₂)
      → Stops total (s ∷ ss) ls q 41 (total - length ss)
  -- or the second is stopped
  second : {s : Step} {ss mid : List Step} {ls ls₁ : Labels} {q : Labelled} {p₁ p₂ : Branch} {c n : ℕ}
      → Right ls q s (premises p₁ p₂)
      → Room ls p₁ → Spells ss (begun ls p₁) (beginning ls q.unrestricted p₁) mid ls₁
      → Room ls₁ p₂ → Stops total mid (begun ls₁ p₂) (beginning ls₁ q.unrestricted p₂) c n
      → Stops total (s ∷ ss) ls q c n

-- all lines: stopped as above, "or lines follow the close (step = the first of them)"
pub data Refused (total : ℕ) (ss : List Step) (ls : Labels) (q : Labelled) : ℕ → ℕ → Type 0 where
  stopped : {c n : ℕ} → Stops total ss ls q c n → Refused total ss ls q c n
  follows : {s : Step} {rest : List Step} {after : Labels}
      → Spells ss ls q (s ∷ rest) after
      → Refused total ss ls q 42 (total - length rest)

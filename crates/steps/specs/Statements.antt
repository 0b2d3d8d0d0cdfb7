-- What is proved of the step checker (in proofs/): lines pass exactly if they spell a derivation, and are refused
-- exactly where they are stopped; lines that spell a derivation give one; every derivation within the limits has such
-- lines; and a goal at an interval within its own is reached by the same lines.
use Rattle.std.specs.Prelude.{◌≡◌, List, [], ◌++◌, ◌↔◌, ℕ, ◌+◌, ◌^◌, ◌≤◌, ◌<◌, length}
use Rattle.logic.specs.Formula.{Formula}
use Rattle.logic.specs.Derives.{Hyp, Judgment, Derives, letters, taken}
use Rattle.logic.specs.Multiset.{Perm, Within, Every}
use Rattle.logic.specs.Statements.{Narrows}
use Rattle.request.specs.Request.{Step}
use Rattle.steps.specs.declared.Row.{Row}
use Rattle.steps.specs.declared.Hypothesis.{Hypothesis}
use Rattle.steps.specs.declared.Goal.{Goal}
use Rattle.steps.specs.declared.Sequent.{Sequent}
use Rattle.steps.specs.Check.{max_labels, done, stopped, check_of}
use Rattle.steps.specs.Spells.{Labels, Labelled, Spells, Refused}
use Rattle.steps.specs.StepLetters.{letters_of}
use Rattle.steps.specs.Limits.{Minutes, Writable}
use Rattle.steps.specs.Instance.{instance, instance_row}
use Rattle.steps.specs.Unroll.{Forms, Unrolls, Small, goal_of, labelled_of}
use Rattle.steps.specs.Labelling.{hyps, labelled_by, Fits, Shows, Begins}

-- a derivation by the rules that the lines name, with n labels taken before and labels enough
abbrev pub DerivedBy : List Step → ℕ → List Hyp → List Hyp → Judgment → Type 0
DerivedBy ss n R D g =
    (x : Derives R D g) × (letters_of ss ≡ letters x) × (n + taken x ≤ max_labels) × Minutes x

-- Lines that spell a derivation give one, by their rules.
abbrev pub Spelt : Type 0
Spelt = (ss : List Step) (ls after : Labels) (q : Labelled) → Spells ss ls q [] after → Fits ls q → Every Writable ss
    → DerivedBy ss (length ls) (hyps ls q.unrestricted) (hyps ls q.linear) q.goal

-- Every derivation from hypotheses that labels stand for, with its minutes in range and labels enough, has lines that
-- spell it, whatever comes after them: by its rules, and each can be written.
abbrev pub Complete : Type 0
Complete = (ls : Labels) (r d : ℕ) → r < 2 ^ length ls → d < 2 ^ length ls
    → (R D : List Hyp) (g : Judgment) (x : Derives R D g) → Minutes x → Within R (hyps ls r) → Perm D (hyps ls d)
    → length ls + taken x ≤ max_labels
    → (ss : List Step) × (letters_of ss ≡ letters x) × Every Writable ss × (after : Labels)
    × ((rest : List Step) → Spells (ss ++ rest) ls (labelled_by r d g) rest after)

-- Lines that spell a derivation spell one of the same goal at every interval within its own, from the same labels, and
-- take the same labels.
abbrev pub Narrowing : Type 0
Narrowing = (ss rest : List Step) (ls after : Labels) (r d : ℕ) (g h : Judgment) → Narrows g h
    → Spells ss ls (labelled_by r d g) rest after → Spells ss ls (labelled_by r d h) rest after

abbrev pub asked : ℕ → ℕ → Goal → Sequent
asked r d g = record { unrestricted = r; linear = d; goal = g }

-- For a table T of labels, read by `held` and written by `put`:
module _ {T : Type 0} (held : T → ℕ → Hypothesis) (put : T → ℕ → Hypothesis → T) where
  -- the lines pass
  abbrev pub Passes : (ℕ → Row) → T → ℕ → Sequent → List Step → Type 0
  Passes row t next q ss = (t' : T) × (n : ℕ) × (check_of row held put (length ss) ss t next q ≡ done [] t' n)

  -- they pass exactly if they spell a derivation of the sequent, and are refused exactly where they are stopped, with
  -- that refusal and step
  pub record ExactlyAt {row : ℕ → Row} {formula : ℕ → Formula} (u : Unrolls row formula) (t : T) (next : ℕ)
      (ls : Labels) (q : Sequent) (ss : List Step) : Type 0 where
    pub passes : Passes row t next q ss ↔ ((after : Labels) × Spells ss ls (labelled_of u q) [] after)
    pub refused : (c m : ℕ) → (check_of row held put (length ss) ss t next q ≡ stopped c m)
        ↔ Refused (length ss) ss ls (labelled_of u q) c m

module _ {T : Type 0} (Good : T → Type 0) (held : T → ℕ → Hypothesis) (put : T → ℕ → Hypothesis → T) where
  -- This is so at labels that the table shows, and a sequent whose sets have only these.
  abbrev pub Exactly : Type 0
  Exactly = (row : ℕ → Row) (formula : ℕ → Formula) (u : Unrolls row formula) (t : T) (next : ℕ) (ls : Labels)
      (q : Sequent) → Shows u Good held t next ls → Fits ls (labelled_of u q) → (ss : List Step)
      → ExactlyAt held put u t next ls q ss

  -- From the hypotheses that a booking holds: what passes is a derivation, by the rules of its lines,
  abbrev pub Sound : Type 0
  Sound = (row : ℕ → Row) (formula : ℕ → Formula) (u : Unrolls row formula) (t : T) (n r d : ℕ) (ls : Labels)
      (R D : List Hyp) → Begins u Good held t n r d ls R D → length ls ≤ max_labels
      → (g : Goal) (ss : List Step) → Every Writable ss → Passes held put row t n (asked r d g) ss
      → DerivedBy ss (length ls) R D (goal_of u g)

  -- and every derivation within the limits has lines that pass.
  abbrev pub Passing : Type 0
  Passing = (row : ℕ → Row) (formula : ℕ → Formula) (u : Unrolls row formula) (t : T) (n r d : ℕ) (ls : Labels)
      (R D : List Hyp) → Begins u Good held t n r d ls R D
      → (g : Goal) (x : Derives R D (goal_of u g)) → Minutes x → length ls + taken x ≤ max_labels
      → (ss : List Step) × (letters_of ss ≡ letters x) × Every Writable ss × Passes held put row t n (asked r d g) ss

-- Holders: where formulas form rows whose parts are formulas' own numbers, the rows with holders put in unroll to the
-- formulas with these put in.
abbrev pub Instances : Type 0
Instances = (row : ℕ → Row) (formula : ℕ → Formula) → Forms row formula → Small row
    → Unrolls (instance_row row) (instance formula)

-- The hypotheses that labels stand for, and the table of labels that the checker keeps: what the statements on the
-- checker begin with.
use Rattle.std.specs.Prelude.{◌≡◌, List, true, false, ℕ, ◌^◌, ◌<◌, ◌≤◌, eqb, length}
use Rattle.logic.specs.Formula.{Formula}
use Rattle.logic.specs.Derives.{Hyp, Judgment}
use Rattle.logic.specs.Multiset.{Perm}
use Rattle.labels.specs.Labels.{pick}
use Rattle.steps.specs.declared.Row.{Row}
use Rattle.steps.specs.declared.Hypothesis.{Hypothesis}
use Rattle.steps.specs.Check.{max_labels}
use Rattle.steps.specs.Spells.{Labels, named, Labelled}
use Rattle.steps.specs.Unroll.{Unrolls, hyp_of}

-- the hypotheses of a set of labels, in rising order
abbrev pub hyps : Labels → ℕ → List Hyp
hyps ls d = pick (named ls) max_labels d

abbrev pub labelled_by : ℕ → ℕ → Judgment → Labelled
labelled_by r d g = record { unrestricted = r; linear = d; goal = g }

-- the sets of a sequent have only labels that are taken, and there are not too many of these
pub record Fits (ls : Labels) (q : Labelled) : Type 0 where
  pub unrestricted : q.unrestricted < 2 ^ length ls
  pub linear : q.linear < 2 ^ length ls
  pub room : length ls ≤ max_labels

-- T is the table of labels, `held` reads what a label stands for, Good is what the table keeps.
module _ {row : ℕ → Row} {formula : ℕ → Formula} (u : Unrolls row formula) {T : Type 0} (Good : T → Type 0)
    (held : T → ℕ → Hypothesis) where
  -- the table shows the labels taken so far, and n is the next
  pub record Shows (t : T) (n : ℕ) (ls : Labels) : Type 0 where
    pub good : Good t
    pub next : n ≡ length ls
    pub same : (k : ℕ) → k < length ls → named ls k ≡ hyp_of u (held t k)

  -- The table t shows the labels ls, n is the next; the labels r stand for the unrestricted hypotheses R, the labels d
  -- for the linear ones D.
  pub record Begins (t : T) (n r d : ℕ) (ls : Labels) (R D : List Hyp) : Type 0 where
    pub shows : Shows t n ls
    pub unrestricted_known : r < 2 ^ length ls
    pub linear_known : d < 2 ^ length ls
    pub unrestricted : Perm R (hyps ls r)
    pub linear : Perm D (hyps ls d)

-- the table as a function, which keeps nothing more
abbrev pub LabelTable : Type 0
LabelTable = ℕ → Hypothesis

abbrev pub AnyTable : LabelTable → Type 0
AnyTable t = Unit {0}

abbrev pub read_label : LabelTable → ℕ → Hypothesis
read_label t k = t k

abbrev pub write_label : LabelTable → ℕ → Hypothesis → LabelTable
write_label t n h = λ k. elim (eqb k n) [ true ↦ h | false ↦ t k ]

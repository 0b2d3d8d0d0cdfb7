-- The table of labels keeps the law of tables: what is put at a label is read there, and nowhere else.
use mathlib.Core.Path.{◌≡◌, ◌∙◌}
use mathlib.Core.List.{List}
use Prim.Native.Nat.{ℕ, ◌<◌}
use native.Mathlib.Omega.{arith}
use lib.ListN.{length, length-set}
use lib.Seq.{get_or-set_same, get_or-set_other}
use Rattle.request.specs.Range.{label_count}
use Rattle.steps.specs.declared.Hypothesis.{Hypothesis}
use Rattle.steps.specs.Check.{max_labels}
use Rattle.steps.proofs.LabelTables.{Table}
use Rattle.step_rows.specs.LabelRows.{no_hypothesis, label_at, put_label}

stays : (t : List Hypothesis) (n : ℕ) (h : Hypothesis) → length t ≡ label_count
    → length (put_label t n h) ≡ label_count
stays t n h g = length-set t n h ∙ g

reads : (t : List Hypothesis) (n : ℕ) (h : Hypothesis) → length t ≡ label_count → n < max_labels
    → label_at (put_label t n h) n ≡ h
unfolding max_labels
reads t n h g l = get_or-set_same t n h no_hypothesis (omega arith)

keeps : (t : List Hypothesis) (n k : ℕ) (h : Hypothesis) → (k ≡ n → ⊥)
    → label_at (put_label t n h) k ≡ label_at t k
keeps t n k h d = get_or-set_other t n k h no_hypothesis d

pub held_table : Table label_at put_label
held_table = record {
  Good = λ t. length t ≡ label_count;
  stays = stays;
  reads = reads;
  keeps = λ t n k h g. keeps t n k h;
}

pub held_good : (t : List Hypothesis) → length t ≡ label_count → held_table.Good t
unfolding held_table
held_good t e = e

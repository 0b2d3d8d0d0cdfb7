-- What the definition's `begin` gives where there is room for the labels that a premise takes, and where there is none.
use mathlib.Core.Path.{◌≡◌, ap, ◌∙◌}
use mathlib.Core.List.{List}
use Rattle.std.specs.Prelude.{length}
use Prim.Native.Nat.{ℕ, ◌+◌, ◌≤◌, ◌<◌}
use borrow.Author.Tests.{le-leb, lt-leb}
use Rattle.request.specs.Range.{label_count}
use Rattle.steps.specs.declared.Hypothesis.{Hypothesis}
use Rattle.steps.specs.declared.Fresh.{Fresh}
use Rattle.steps.specs.declared.Premise.{Premise}
use Rattle.steps.specs.Check.{max_labels, linears, joins, adds, puts, full, begun, begin}
use Rattle.steps.specs.Plans.{premise}
use Rattle.step_rows.specs.LabelRows.{put_label}

-- how many labels it takes
abbrev pub taken : Fresh → ℕ
taken f = length (linears f) + length (joins f)

module _ (t : List Hypothesis) (next r : ℕ) (p : Premise) (f : Fresh) where
  by : p.fresh ≡ f → begin put_label t next r p ≡ begin put_label t next r (premise p.linear p.goal f)
  by e = ap (λ (g : Fresh). begin put_label t next r (premise p.linear p.goal g)) e

  pub begin_full : p.fresh ≡ f → label_count < next + taken f → begin put_label t next r p ≡ full
  unfolding begin max_labels
  begin_full e h = by e ∙ rw (lt-leb (next + taken f) label_count h, begin)

  pub begin_begun : p.fresh ≡ f → next + taken f ≤ label_count → begin put_label t next r p
      ≡ begun (puts put_label (puts put_label t next (linears f)) (next + length (linears f)) (joins f))
      (next + taken f) (record {
        unrestricted = adds (next + length (linears f)) (joins f) r;
        linear = adds next (linears f) p.linear;
        goal = p.goal;
      })
  unfolding begin max_labels
  begin_begun e h = by e ∙ rw (le-leb (next + taken f) label_count h, begin)

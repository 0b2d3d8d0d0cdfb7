-- The test of 13 is equality of lines.
use mathlib.Core.Path.{◌≡◌, refl, sym, ap, ◌∙◌}
use Rattle.logic.proofs.Tests.{Decides, and_decides, eq_decides}
use Rattle.logic.proofs.Intervals.{same_decides}
use Rattle.request.specs.Request.{Line}
use Rattle.steps.specs.declared.Row.{Row}
use Rattle.ledger.specs.Table.{row_of}
use Rattle.ledger.specs.Rows.{line_of}
use Rattle.ledger.specs.Checks.{same_row, same_line}
use Rattle.ledger.specs.Statements.{SameLine}

-- a line is the line of its row
pub line_of_row : (l : Line) → line_of (row_of l) ≡ l
unfolding line_of
line_of_row (Line.atom p s) = refl
line_of_row Line.one = refl
line_of_row (Line.tensor i j) = refl
line_of_row (Line.with i j) = refl
line_of_row (Line.plus i j) = refl
line_of_row (Line.lolli i j) = refl
line_of_row (Line.implies i j) = refl
line_of_row (Line.bang i) = refl
line_of_row (Line.at i w) = refl
line_of_row (Line.says k i) = refl
line_of_row (Line.superset v w) = refl
line_of_row (Line.named p s k) = refl
line_of_row (Line.for_every i) = refl

row_decides : (x y : Row) → Decides (same_row x y) (x ≡ y)
unfolding same_row
row_decides x y =
    let d = and_decides (eq_decides x.letter y.letter) (and_decides (eq_decides x.a y.a)
    (and_decides (eq_decides x.b y.b) (and_decides (eq_decides x.holder y.holder)
    (and_decides (same_decides x.first y.first) (same_decides x.second y.second))))) in (
      λ e. let h = d.0 e in rw (h.0, h.1.0, h.1.1.0, h.1.1.1.0, h.1.1.1.1.0, h.1.1.1.1.1),
      λ e. d.1 (
        ap (λ (r : Row). r.letter) e,
        (
          ap (λ (r : Row). r.a) e,
          (
            ap (λ (r : Row). r.b) e,
            (ap (λ (r : Row). r.holder) e, (ap (λ (r : Row). r.first) e, ap (λ (r : Row). r.second) e)),
          ),
        ),
      ),
    )

pub same_line_holds : SameLine
same_line_holds l m = (
  λ e. sym (line_of_row l) ∙ ap line_of ((row_decides (row_of l) (row_of m)).0 e) ∙ line_of_row m,
  λ e. (row_decides (row_of l) (row_of m)).1 (ap row_of e),
)

-- `put_line` meets its contract: four stores, two intervals and eight stores more are the row.
use Rattle.std.proofs.Common.{◌≡◌, refl, ◌∙◌, Bool, true, false, List, [], ◌∷◌, ℕ, ◌+◌, ◌*◌, drop}
use lib.ListN.{set}
use lib.Seq.{sets}
use mir.Val.{bool_byte}
use Rattle.logic.specs.Formula.{bit}
use Rattle.steps.specs.declared.Row.{Row}
use Rattle.store_cells.specs.declared.lines.Facts.{Facts}
use Rattle.intervals.specs.Numbers.{put_interval}
use Rattle.store_cells.specs.Layout.{line_base, line_width, line_cells, put_row, put_line}
use Rattle.store_cells.proofs.Cells.{stores, row_stored, interval_stored}
use Rattle.store_cells.proofs.lines.put_line.Goals as goal

-- the numbers before the intervals
abbrev heads : List ℕ → ℕ → Row → List ℕ
heads l b r = stores (set l b r.letter) b 1 (r.a ∷ r.b ∷ r.holder ∷ [])

all_stored : (l : List ℕ) (b : ℕ) (r : Row) (v : Facts) {m n : List ℕ} {x y z w : ℕ}
    → m ≡ put_interval (heads l b r) (b + 4) r.first → n ≡ put_interval m (b + 8) r.second
    → x ≡ bit v.plain → y ≡ bit v.balanced → z ≡ bit v.unbound → w ≡ bit v.quantified
    → stores n b 12 (v.size ∷ x ∷ y ∷ z ∷ w ∷ v.low ∷ v.high ∷ v.gives ∷ []) ≡ sets l b (line_cells r v)
all_stored l b r v e f x y z w =
    rw (interval_stored _ _ b 8 f, interval_stored _ _ b 4 e, x, y, z, w)
    (row_stored l b r.letter (drop 1 (line_cells r v)))

-- what `u32::from` makes of a yes or no
from_bool : (b : Bool) → bool_byte b ≡ bit b
from_bool true = refl
from_bool false = refl

pub returns : goal.returns
unfolding put_line put_row
returns c =
    let a = c.args in
    all_stored a.store.now (line_base + a.i * line_width) a.row a.facts c.put.ensures c.put-2.ensures
    (c.from.ensures ∙ from_bool _) (c.from-2.ensures ∙ from_bool _) (c.from-3.ensures ∙ from_bool _)
    (c.from-4.ensures ∙ from_bool _)

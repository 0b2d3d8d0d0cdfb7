-- `start` meets its contract. The array is all zeros but for the next serial.
use mathlib.Core.Path.{◌≡◌, refl, ◌∙◌}
use Prim.Native.Nat.{ℕ, ◌+◌, ◌*◌, ◌<◌}
use native.Mathlib.Omega.{arith}
use lib.ListN.{replicate}
use lib.Seq.{get_or-set_other}
use Rattle.logic.proofs.Stores.{replicate_is}
use Rattle.ledger.specs.Checks.{max_formulas}
use Rattle.store_cells.specs.Layout.{cells, link_base, formula_link, link_at, put_next, cell}
use Rattle.store_cells.specs.Layout.{group_base, group_width, group_at}
use borrow.Author.Rules.{rules}
use Rattle.store.proofs.Live.{empty_stands}
use Rattle.store.proofs.start.Statement.{statement}
use Rattle.store.proofs.start.Tie as tie

-- a link of the array
none : (n : ℕ) → n < max_formulas → link_at (put_next (replicate cells 0) 1) (formula_link n) ≡ 0
unfolding link_at
none n h =
    get_or-set_other (replicate cells 0) 2 (link_base + formula_link n) 1 0 (omega arith)
    ∙ replicate_is 0 cells (link_base + formula_link n)

-- and a number of a set
nothing : (g w : ℕ) → group_at (put_next (replicate cells 0) 1) g w ≡ 0
unfolding group_at cell
nothing g w =
    get_or-set_other (replicate cells 0) 2 (group_base + g * group_width + w) 1 0 (omega arith)
    ∙ replicate_is 0 cells (group_base + g * group_width + w)

returns : tie.Need-returns
returns c = rw c.put.ensures (empty_stands _ refl refl refl refl refl none nothing)

pub start_spec : {M : Type 1} → statement M
start_spec = tie.close (tie.spec (λ c κs. search rules) returns)

-- `make_room` meets its contract.
use mathlib.Core.Path.{◌≡◌, refl}
use borrow.Author.Rules.{rules}
use borrow.Author.Tests.{eqb-false}
use native.Mathlib.Omega.{arith}
use Rattle.logic.proofs.Tests.{left_false}
use Rattle.store_cells.specs.Layout.{max_rows}
use Rattle.store_credentials.proofs.make_room.Statement.{statement}
use Rattle.store_credentials.proofs.make_room.Tie as tie

-- the count of live credentials is small
twice : tie.Need-overflow_mul-live
twice c =
    omega (arith, c.read-live.ensures, c.requires.0.ordered.counted, c.requires.1)

spare : tie.Need-overflow_add-live
spare c =
    omega (arith, c.read-live.ensures, c.requires.0.ordered.counted, c.requires.1)

returns : tie.Need-returns-then-used-live
returns c =
    let p = c.requires in
    (c.compact.ensures.stands, omega (arith, c.compact.ensures.rows, p.1))

returns_2 : tie.Need-returns-else-used-live
returns_2 c =
    let g = c.requires.0 in
    let e = c.read-used.ensures in
    let n : c.read-used.result ≡ max_rows → ⊥ = eqb-false _ _ (left_false _ _ c.if-used-live.false) in
    (record { good = g; ledger = refl }, omega (arith, g.ordered.few, e, n))

pub make_room_spec : {M : Type 1} → statement M
make_room_spec =
    tie.close
    (tie.spec (λ c κs. search rules) (λ c κs. search rules) twice spare (λ c κs. search rules) returns returns_2)

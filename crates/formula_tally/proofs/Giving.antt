-- No formula has more seats or places than its size, so each of its counts is a byte; and what a row gives, from what
-- its parts give.
use mathlib.Core.Path.{◌≡◌, refl, sym}
use mathlib.Core.List.{List, [], ◌∷◌}
use mathlib.Core.Bool.{Bool, true, false, ◌&&◌}
use Prim.Native.Nat.{ℕ, ◌+◌, ◌*◌, ◌%◌, ◌≤◌}
use native.Mathlib.Omega.{arith}
use lib.Dec.{eqb}
use borrow.Author.Tests.{eqb-true}
use Rattle.logic.specs.Choice.{pick}
use Rattle.logic.specs.Formula.{Formula, atom, one, tensor, with, plus, lolli, implies, bang, at, says, superset}
use Rattle.logic.specs.Formula.{for_every, size, bit, count, seat, place, seats, places, house_under, house_seats}
use Rattle.logic.proofs.Houses.{house_seats_holds}
use Rattle.request.specs.Request.{Line}
use Rattle.ledger.specs.Table.{form, row_of}
use Rattle.ledger.specs.Checks.{max_size}
use Rattle.formula_parts.specs.Parts.{parts_of}
use Rattle.logic.specs.Packed.{place_unit, house_unit, under_unit, counts, seats_in, places_in, house_in}
use Rattle.logic.proofs.Packed.{count_le}
use Rattle.formula_tally.specs.Gives.{gives_under, gives, atom_gives, nearest}

house_le : (under : Bool) (s : ℕ) (a : Formula) → house_under under s a ≤ size a
house_le under s a = omega (arith, house_seats_holds under s a, count_le seat s a)

pub gives_le : (under : Bool) (s : ℕ) (a : Formula) → gives_under under s a ≤ (1 + place_unit + house_unit) * size a
unfolding gives_under
gives_le under s a = omega (arith, count_le seat s a, count_le place s a, house_le under s a)

-- the three counts of a formula in its number
pub record Unpacked (s : ℕ) (a : Formula) (n : ℕ) : Type 0 where
  pub seats_in_holds : seats_in n ≡ seats s a
  pub places_in_holds : places_in n ≡ places s a
  pub house_in_holds : house_in n ≡ house_seats s a

pub unpacked : (s : ℕ) (a : Formula) → size a ≤ max_size → Unpacked s a (gives s a)
unfolding gives_under
unpacked s a le =
    let p = count_le seat s a in
    let q = count_le place s a in
    let u = house_le false s a in
    record { seats_in_holds = omega arith; places_in_holds = omega arith; house_in_holds = omega arith }

-- the first three of the four counts
pub counts_gives : (s : ℕ) (a : Formula) → size a ≤ max_size → counts s a % under_unit ≡ gives s a
unfolding counts gives_under
counts_gives s a le =
    omega (arith, count_le seat s a, count_le place s a, house_le false s a, house_le true s a)

-- a formula without seats and places gives nothing
pub gives_none : (s : ℕ) (a : Formula) → seats s a ≡ 0 → places s a ≡ 0 → gives s a ≡ 0
unfolding gives_under
gives_none s a e f = omega (arith, house_seats_holds false s a)

-- Row by row

-- what an atom gives
atom_gives_holds : (under : Bool) (s p t : ℕ)
    → bit (eqb p seat && eqb t s) + place_unit * bit (eqb p place && eqb t s)
    + house_unit * bit (under && (eqb p seat && eqb t s))
    ≡ pick (eqb t s) (pick (eqb p seat) (pick under (1 + house_unit) 1) (pick (eqb p place) place_unit 0)) 0
atom_gives_holds under s p t = go under (eqb t s) (eqb p seat) (eqb p place) refl refl
  where
    go : (u a b c : Bool) → eqb p seat ≡ b → eqb p place ≡ c
        → bit (b && a) + place_unit * bit (c && a) + house_unit * bit (u && (b && a))
        ≡ pick a (pick b (pick u (1 + house_unit) 1) (pick c place_unit 0)) 0
    go u true true true e f = absurd (omega (arith, eqb-true p seat e, eqb-true p place f))
    go true true true false e f = omega arith
    go false true true false e f = omega arith
    go true true false true e f = omega arith
    go false true false true e f = omega arith
    go true true false false e f = omega arith
    go false true false false e f = omega arith
    go true false true true e f = omega arith
    go false false true true e f = omega arith
    go true false true false e f = omega arith
    go false false true false e f = omega arith
    go true false false true e f = omega arith
    go false false false true e f = omega arith
    go true false false false e f = omega arith
    go false false false false e f = omega arith

-- a where there are no parts, else what these give
abbrev pub or_parts : ℕ → (ℕ → ℕ) → List ℕ → ℕ
or_parts a f [] = a
or_parts a f (k ∷ []) = f k
or_parts a f (k ∷ j ∷ ks) = f k + f j

-- a row's, from its parts'; T gives the formulas of the numbers that it names
module _ (T : ℕ → Formula) where
  pub row_gives : (under : Bool) (s : ℕ) (l : Line)
      → or_parts (atom_gives under s (row_of l)) (λ k. gives_under (nearest under (row_of l)) s (T k))
      (parts_of (row_of l))
      ≡ gives_under under s (form T l)
  unfolding gives_under count house_under parts_of
  row_gives u s (Line.atom p t) = sym (atom_gives_holds u s p t)
  row_gives u s Line.one = refl
  row_gives u s (Line.tensor i j) = omega arith
  row_gives u s (Line.with i j) = omega arith
  row_gives u s (Line.plus i j) = omega arith
  row_gives u s (Line.lolli i j) = omega arith
  row_gives u s (Line.implies i j) = omega arith
  row_gives u s (Line.bang i) = refl
  row_gives u s (Line.at i w) = refl
  row_gives u s (Line.says k i) = refl
  row_gives u s (Line.superset v w) = refl
  row_gives u s (Line.named p t k) = sym (atom_gives_holds u s p t)
  row_gives u s (Line.for_every i) = refl

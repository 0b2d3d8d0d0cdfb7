-- No formula has more seats or places than its size, so each of its counts is a byte where its size is.
use mathlib.Core.Path.{◌≡◌}
use mathlib.Core.Logic.{◌⊎◌}
use mathlib.Core.Bool.{Bool, true, false, ◌&&◌}
use Prim.Native.Nat.{ℕ, ◌+◌, ◌*◌, ◌%◌, ◌≤◌, ◌<◌}
use native.Mathlib.Omega.{arith}
use lib.Dec.{eqb}
use Rattle.logic.specs.Formula.{Formula, atom, one, tensor, with, plus, lolli, implies, bang, at, says, superset}
use Rattle.logic.specs.Formula.{for_every, size, count, seat, place, seats, places, house_under}
use Rattle.logic.specs.Span.{Spans}
use Rattle.logic.specs.Packed.{byte, place_unit, house_unit, under_unit, counts, seats_in, places_in, house_in}
use Rattle.logic.specs.Packed.{under_in}
use Rattle.logic.proofs.Tests.{bit_le}
use Rattle.logic.proofs.Houses.{house_seats_holds}

pub count_le : (q s : ℕ) (a : Formula) → count q s a ≤ size a
unfolding count size
count_le q s (atom p t o) = bit_le (eqb p q && eqb t s)
count_le q s one = omega arith
count_le q s (tensor a b) = omega (arith, count_le q s a, count_le q s b)
count_le q s (with a b) = omega (arith, count_le q s a, count_le q s b)
count_le q s (plus a b) = omega (arith, count_le q s a, count_le q s b)
count_le q s (lolli a b) = omega (arith, count_le q s a, count_le q s b)
count_le q s (implies a b) = omega (arith, count_le q s a, count_le q s b)
count_le q s (bang a) = omega (arith, count_le q s a)
count_le q s (at a i) = omega (arith, count_le q s a)
count_le q s (says k a) = omega (arith, count_le q s a)
count_le q s (superset i j) = omega arith
count_le q s (for_every a) = omega (arith, count_le q s a)

house_le : (under : Bool) (s : ℕ) (a : Formula) → house_under under s a ≤ size a
house_le under s a = omega (arith, house_seats_holds under s a, count_le seat s a)

pub counts_le : (s : ℕ) (a : Formula) → counts s a ≤ (1 + place_unit + house_unit + under_unit) * size a
unfolding counts
counts_le s a =
    omega (arith, count_le seat s a, count_le place s a, house_le false s a, house_le true s a)

-- a formula has nothing of a session beyond its span
pub counts_none : (s : ℕ) (a : Formula) {u v : ℕ} → Spans a u v → (s < u) ⊎ (v < s) → counts s a ≡ 0
unfolding counts
counts_none s a w o =
    let z = w seat s o in
    omega (arith, z, w place s o, house_seats_holds false s a, house_seats_holds true s a)

-- the four counts of a formula in its number, and the first two together
pub record Unpacked (s : ℕ) (a : Formula) (n : ℕ) : Type 0 where
  pub seats_in_holds : seats_in n ≡ seats s a
  pub places_in_holds : places_in n ≡ places s a
  pub house_in_holds : house_in n ≡ house_under false s a
  pub under_in_holds : under_in n ≡ house_under true s a
  pub low : n % house_unit ≡ seats s a + place_unit * places s a

pub unpacked : (s : ℕ) (a : Formula) → size a < byte → Unpacked s a (counts s a)
unfolding counts
unpacked s a le =
    let p = count_le seat s a in
    let q = count_le place s a in
    let u = house_le false s a in
    let v = house_le true s a in
    record {
      seats_in_holds = omega arith;
      places_in_holds = omega arith;
      house_in_holds = omega arith;
      under_in_holds = omega arith;
      low = omega arith;
    }

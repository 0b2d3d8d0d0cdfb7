-- House seats are among the seats.
use mathlib.Core.Bool.{Bool, true, false, ◌&&◌}
use Prim.Native.Nat.{ℕ, ◌≤◌}
use native.Mathlib.Omega.{arith}
use lib.Dec.{eqb}
use Rattle.logic.specs.Formula.{Formula, atom, one, tensor, with, plus, lolli, implies, bang, at, says, superset}
use Rattle.logic.specs.Formula.{for_every, bit, seat, house, count, seats, house_under}

pub house_seats_holds : (under : Bool) (s : ℕ) (a : Formula) → house_under under s a ≤ seats s a
unfolding house_under count
house_seats_holds under s (atom p t o) = go under (eqb p seat && eqb t s)
  where
    go : (x y : Bool) → bit (x && y) ≤ bit y
    go true y = omega arith
    go false true = omega arith
    go false false = omega arith
house_seats_holds under s one = omega arith
house_seats_holds under s (tensor a b) = omega (arith, house_seats_holds under s a, house_seats_holds under s b)
house_seats_holds under s (with a b) = omega (arith, house_seats_holds under s a, house_seats_holds under s b)
house_seats_holds under s (plus a b) = omega (arith, house_seats_holds under s a, house_seats_holds under s b)
house_seats_holds under s (lolli a b) = omega (arith, house_seats_holds under s a, house_seats_holds under s b)
house_seats_holds under s (implies a b) = omega (arith, house_seats_holds under s a, house_seats_holds under s b)
house_seats_holds under s (bang a) = house_seats_holds under s a
house_seats_holds under s (at a i) = house_seats_holds under s a
house_seats_holds under s (says k a) = house_seats_holds (eqb k house) s a
house_seats_holds under s (superset i j) = omega arith
house_seats_holds under s (for_every a) = house_seats_holds under s a

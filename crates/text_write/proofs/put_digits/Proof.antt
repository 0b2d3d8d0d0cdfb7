-- `put_digits` meets its contract.
use Prim.Native.Nat.{◌<◌}
use native.Mathlib.Omega.{arith}
use borrow.Author.Rules.{rules, Fits-under}
use Rattle.text_write.proofs.Numbers.{digits_some, one_digit, two_digits}
use Rattle.text_write.proofs.Puts.{Writing, writing_all, writing_on, writing_two, writing_one}
use Rattle.text_write.proofs.put_digits.Statement.{statement}
use Rattle.text_write.proofs.put_digits.Tie as tie

abbrev invariant-loop : tie.invariant-loop-at
invariant-loop rest₀ n k at₀ v₀ rest at v = Writing rest₀ n rest at v

abbrev decreases_loop : tie.decreases-loop-at
decreases_loop rest₀ n k at₀ v₀ rest at v = at

loop-holds : tie.Need-loop-at-init invariant-loop decreases_loop
loop-holds c = writing_all c.requires c.digits_length-k.ensures

put-two-requires : tie.Need-put_two-requires invariant-loop decreases_loop
put-two-requires c κs =
    let inv = c.loop-at.invariant in
    (omega arith, omega (arith, c.loop-at-test.true, inv.room, inv.long))

loop-again : tie.Need-loop-at-preserved invariant-loop decreases_loop
loop-again c =
    rw c.put_two.ensures
    (writing_on c.loop-at-test.true c.loop-at.invariant)

put_two_requires_2 : tie.Need-put_two-requires-then-at-eq2 invariant-loop decreases_loop
put_two_requires_2 c κs =
    let inv = c.loop-at.invariant in
    let b = two_digits c.loop-at.v (omega (arith, c.if-at-eq2.true, inv.left)) in
    (b.1, omega (arith, c.if-at-eq2.true, inv.room, inv.long))

returns : tie.Need-returns-then-at-eq2 invariant-loop decreases_loop
returns c =
    rw c.put_two-then-at-eq2.ensures
    (writing_two c.if-at-eq2.true c.digits_length-k.ensures c.loop-at.invariant)

last_digit : (c : tie.Else-at-eq2 invariant-loop decreases_loop) → c.loop-at.v < 10
last_digit c =
    let inv = c.loop-at.invariant in
    one_digit c.loop-at.v
    (omega (arith, c.if-at-eq2.false, c.loop-at-test.false, inv.left))

returns_2 : tie.Need-returns invariant-loop decreases_loop
returns_2 c =
    writing_one (omega (arith, c.if-at-eq2.false, c.loop-at-test.false)) c.digits_length-k.ensures
    c.loop-at.invariant

pub put_digits_spec : {M : Type 1} → statement M
put_digits_spec =
    tie.close
    (tie.spec
    invariant-loop
    decreases_loop
    (λ c κs. search rules)
    loop-holds
    (λ c. search rules)
    put-two-requires
    (λ c. search rules)
    loop-again
    put_two_requires_2
    (λ c. search rules)
    returns
    (λ c. Fits-under _ _ 10 (last_digit c) tt)
    (λ c. Fits-under _ _ 58 (omega (arith, last_digit c)) tt)
    (λ c.
    let inv = c.loop-at.invariant in
    omega (arith, inv.room, inv.long, inv.left, digits_some c.loop-at.v))
    (λ c. search rules)
    returns_2)

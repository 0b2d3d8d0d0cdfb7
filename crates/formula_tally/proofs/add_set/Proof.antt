-- `add_set` meets its contract. The loop: what has been added and what the formulas left give is what all give.
use mathlib.Core.Path.{◌≡◌}
use Prim.Native.Nat.{◌+◌, ◌*◌, ◌-◌, ◌^◌, ◌≤◌, ◌<◌}
use native.Mathlib.Omega.{arith}
use borrow.Author.Rules.{rules}
use lib.ListN.{length}
use lib.Bits.{bit_and, and_le_r}
use lib.Count.{count_trailing_zeros}
use Rattle.store.specs.Store.{ledger_of}
use Rattle.store_cells.specs.Layout.{set_lines}
use Rattle.formula_tally.proofs.Walks.{walk_start, with_all, without_all}
use Rattle.formula_tally.proofs.Tallied.{most_given, Left, left_start, left_end, next, left_next, left_pass}
use Rattle.formula_tally.proofs.Tallied.{left_small, no_singles}
use Rattle.formula_tally.proofs.add_set.Statement.{statement}
use Rattle.formula_tally.proofs.add_set.Tie as tie

abbrev invariant-loop : tie.invariant-loop-rest
invariant-loop store base bits session minute rest₀ open₀ seats₀ places₀ rest «open» seats places =
    Left (ledger_of store) session minute base bits rest «open» seats places

abbrev decreases_loop : tie.decreases-loop-rest
decreases_loop store base bits session minute rest₀ open₀ seats₀ places₀ rest «open» seats places = rest

-- the bits left are those of a number that fits
wide : (c : tie.In-loop-rest invariant-loop decreases_loop) → c.loop-rest.rest < 2 ^ set_lines
wide c =
    let fits : c.args.bits < 2 ^ set_lines = search rules in
    omega (arith, c.loop-rest.invariant.within)

-- the next formula is there
there : (c : tie.In-loop-rest invariant-loop decreases_loop)
    → c.args.base + count_trailing_zeros set_lines c.loop-rest.rest
    < length (ledger_of c.args.store.now).lines
there c =
    next (ledger_of c.args.store.now) c.args.session c.args.minute c.args.base c.args.bits
    c.loop-rest.invariant c.loop-rest-test.true (wide c)

-- the sums fit
record Small (c : tie.After-given_by-more invariant-loop decreases_loop) : Type 0 where
  opens : c.before.before.before.before.loop-rest.«open» + c.given_by-more.result.«open» ≤ set_lines * most_given
  seats : c.before.before.before.before.loop-rest.seats + c.given_by-more.result.seats ≤ set_lines * most_given
  places : c.before.before.before.before.loop-rest.places + c.given_by-more.result.places ≤ set_lines * most_given

small : (c : tie.After-given_by-more invariant-loop decreases_loop) → Small c
small c =
    let f = left_small (ledger_of c.args.store.now) c.args.session c.args.minute c.args.base
    c.args.bits c.loop-rest.invariant c.loop-rest-test.true (wide c.before.before.before) c.given_by-more.ensures
    c.requires.0.bounded in
    record { opens = f.0; seats = f.1; places = f.2 }

loop-holds : tie.Need-loop-rest-init invariant-loop decreases_loop
loop-holds c =
    left_start (ledger_of c.args.store.now) c.args.session c.args.minute c.args.base c.args.bits
    c.requires.1

-- a bit less is left
less : (c : tie.In-loop-rest invariant-loop decreases_loop)
    → bit_and c.loop-rest.rest (c.loop-rest.rest - 1) < c.loop-rest.rest
less c =
    let h = c.loop-rest-test.true in
    omega (arith, and_le_r c.loop-rest.rest (c.loop-rest.rest - 1))

loop-again : tie.Need-loop-rest-preserved-then-last_row-ne0 invariant-loop decreases_loop
loop-again c =
    left_next (ledger_of c.args.store.now) c.args.session c.args.minute c.args.base c.args.bits
    c.loop-rest.invariant c.loop-rest-test.true (wide c.before.before.before.before.before.before)
    c.given_by-more.ensures

-- one that has no coupon
loop-again-2 : tie.Need-loop-rest-preserved invariant-loop decreases_loop
loop-again-2 c =
    let l = c.args.store.now in
    let m = c.args.minute in
    let n = c.args.base + count_trailing_zeros set_lines c.loop-rest.rest in
    let w = walk_start l m n c.last_row.ensures in
    let z = c.if-last_row-ne0.false in
    left_pass (ledger_of l) c.args.session m c.args.base c.args.bits c.loop-rest.invariant
    c.loop-rest-test.true (wide c.before.before)
    (no_singles (ledger_of l) c.args.session m n (with_all l m n z w) (without_all l m n z w))

returns : tie.Need-returns invariant-loop decreases_loop
returns c =
    let h = c.loop-rest-test.false in
    let e : c.loop-rest.rest ≡ 0 = omega arith in
    left_end (ledger_of c.args.store.now) c.args.session c.args.minute c.args.base c.args.bits
    c.loop-rest.invariant e

pub add_set_spec : {M : Type 1} → statement M
add_set_spec =
    tie.close
    (tie.spec
    invariant-loop
    decreases_loop
    loop-holds
    (λ c. omega (arith, there c, c.requires.0.bounded.lines))
    (λ c. let h = c.loop-rest-test.true in omega arith)
    (λ c κs. let g = c.requires.0 in (g, omega (arith, there c, g.bounded.lines)))
    (λ c κs. (c.requires.0, there c.before.before))
    (λ c. omega (arith, (small c.before).opens))
    (λ c. omega (arith, (small c.before.before).seats))
    (λ c. omega (arith, (small c.before.before.before).places))
    (λ c. less c.before.before.before.before.before.before)
    loop-again
    (λ c. less c.before.before)
    loop-again-2
    returns)

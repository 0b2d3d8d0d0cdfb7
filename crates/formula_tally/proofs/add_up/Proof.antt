-- `add_up` meets its contract. The loop: what has been added and what the sets left give is what all give.
use mathlib.Core.Path.{◌≡◌, sym, subst}
use mathlib.Core.List.{List}
use Prim.Native.Nat.{ℕ, ◌+◌, ◌*◌, ◌-◌, ◌%◌, ◌^◌, ◌≤◌, ◌<◌}
use native.Mathlib.Omega.{arith}
use borrow.Author.Rules.{rules}
use lib.Bits.{bit_and, and_le_r}
use lib.Count.{count_trailing_zeros}
use lib.ListN.{length}
use Rattle.store.specs.Store.{ledger_of}
use Rattle.store_cells.specs.Layout.{groups, set_lines, set_width, group_at, filled_at}
use Rattle.formula_tally.specs.Sets.{Named, SetAdded}
use Rattle.formula_tally.proofs.SetSums.{lowest_in}
use Rattle.formula_tally.proofs.Tallied.{most_given, Adding, adding_start, adding_next, adding_small, adding_all}
use Rattle.formula_tally.proofs.Tallied.{marks}
use Rattle.formula_tally.proofs.add_up.Statement.{statement}
use Rattle.formula_tally.proofs.add_up.Tie as tie

-- the sets of a session, and which of their numbers are not 0
abbrev sets : List ℕ → ℕ → ℕ → ℕ
sets l s = group_at l (s % groups)

abbrev filled : List ℕ → ℕ → ℕ
filled l s = filled_at l (s % groups)

abbrev invariant-loop : tie.invariant-loop-numbers
invariant-loop store session minute group numbers₀ open₀ seats₀ places₀ numbers «open» seats places =
    Adding (ledger_of store) session minute (filled store session) (sets store session) numbers «open» seats places

abbrev decreases_loop : tie.decreases-loop-numbers
decreases_loop store session minute group numbers₀ open₀ seats₀ places₀ numbers «open» seats places = numbers

loop-holds : tie.Need-loop-numbers-init invariant-loop decreases_loop
loop-holds c =
    let l = c.args.store.now in
    subst (λ (n : ℕ). Adding (ledger_of l) c.args.session c.args.minute (filled l c.args.session)
    (sets l c.args.session) n 0 0 0) (sym c.filled-numbers.ensures)
    (adding_start (ledger_of l) c.args.session c.args.minute (filled l c.args.session)
    (sets l c.args.session))

-- the bits left are those of a number that fits
wide : (c : tie.In-loop-numbers invariant-loop decreases_loop) → c.loop-numbers.numbers < 2 ^ set_lines
wide c =
    let fits : c.filled-numbers.result < 2 ^ set_lines = search rules in
    omega (arith, c.filled-numbers.ensures, c.loop-numbers.invariant.within)

-- the next number is one of the set
number : (c : tie.In-loop-numbers invariant-loop decreases_loop)
    → count_trailing_zeros set_lines c.loop-numbers.numbers < set_width
number c =
    (marks c.args.store.now c.args.session 0 c.requires).numbers _
    (c.loop-numbers.invariant.there _ (lowest_in set_lines c.loop-numbers.numbers c.loop-numbers-test.true (wide c)))

add-set-requires : tie.Need-add_set-more-requires invariant-loop decreases_loop
add-set-requires c κs =
    let l = c.args.store.now in
    let w = count_trailing_zeros set_lines c.loop-numbers.numbers in (
      c.requires,
      subst (Named (length (ledger_of l).lines) (set_lines * w)) (sym c.near-bits.ensures)
          (λ j q i. (marks l c.args.session 0 c.requires).within w j (number c.before) q i),
    )

-- what the set gives
gave : (c : tie.After-add_set-more invariant-loop decreases_loop)
    → (let l = c.args.store.now in
    let w = count_trailing_zeros set_lines c.loop-numbers.numbers in
    SetAdded (ledger_of l) c.args.session c.args.minute (set_lines * w) (sets l c.args.session w)
    c.add_set-more.result)
gave c =
    let l = c.args.store.now in
    let w = count_trailing_zeros set_lines c.loop-numbers.numbers in
    subst (λ (d : ℕ). SetAdded (ledger_of l) c.args.session c.args.minute (set_lines * w) d c.add_set-more.result)
    c.near-bits.ensures c.add_set-more.ensures

-- the sums fit
record Small (c : tie.After-add_set-more invariant-loop decreases_loop) : Type 0 where
  opens : c.before.before.before.loop-numbers.«open» + c.add_set-more.result.«open» ≤ set_lines *
      (set_lines * most_given)
  seats : c.before.before.before.loop-numbers.seats + c.add_set-more.result.seats ≤ set_lines * (set_lines * most_given)
  places : c.before.before.before.loop-numbers.places + c.add_set-more.result.places ≤ set_lines *
      (set_lines * most_given)

small : (c : tie.After-add_set-more invariant-loop decreases_loop) → Small c
small c =
    let l = c.args.store.now in
    let f = adding_small (ledger_of l) c.args.session c.args.minute (filled l c.args.session)
    (sets l c.args.session) c.loop-numbers.invariant c.loop-numbers-test.true (wide c.before.before) (gave c)
    c.requires.bounded in
    record { opens = f.0; seats = f.1; places = f.2 }

loop-less : tie.Need-loop-numbers-smaller invariant-loop decreases_loop
loop-less c =
    let h = c.loop-numbers-test.true in
    omega (arith, and_le_r c.loop-numbers.numbers (c.loop-numbers.numbers - 1))

loop-again : tie.Need-loop-numbers-preserved invariant-loop decreases_loop
loop-again c =
    let l = c.args.store.now in
    adding_next (ledger_of l) c.args.session c.args.minute (filled l c.args.session)
    (sets l c.args.session) c.loop-numbers.invariant c.loop-numbers-test.true
    (wide c.before.before.before.before.before) (gave c.before.before.before)

returns : tie.Need-returns invariant-loop decreases_loop
returns c =
    let l = c.args.store.now in
    let h = c.loop-numbers-test.false in
    let e : c.loop-numbers.numbers ≡ 0 = omega arith in
    adding_all l c.args.session c.args.minute c.requires (filled l c.args.session) (sets l c.args.session)
    (marks l c.args.session 0 c.requires) e c.loop-numbers.invariant

pub add_up_spec : {M : Type 1} → statement M
add_up_spec =
    tie.close
    (tie.spec
    invariant-loop
    decreases_loop
    (λ c κs. omega arith)
    loop-holds
    (λ c. let h = c.loop-numbers-test.true in omega arith)
    (λ c κs. (omega arith, number c))
    (λ c. omega (arith, number c.before))
    add-set-requires
    (λ c. omega (arith, (small c.before).opens))
    (λ c. omega (arith, (small c.before.before).seats))
    (λ c. omega (arith, (small c.before.before.before).places))
    loop-less
    loop-again
    returns)

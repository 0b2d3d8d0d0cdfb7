-- `count_singles` meets its contract. The loop goes along the chain: the rows from the next one on have been counted.
use mathlib.Core.Path.{◌≡◌, sym, ap, ap₂, subst, ◌∙◌}
use Prim.Native.Nat.{suc, ◌+◌, ◌-◌, ◌≤◌}
use native.Mathlib.Omega.{arith}
use borrow.Author.Rules.{rules}
use Rattle.logic.specs.Interval.{has}
use Rattle.ledger.specs.Calls.{only}
use Rattle.store_cells.specs.Layout.{max_rows, of_at}
use Rattle.store.proofs.Chains.{last_le}
use Rattle.formula_tally.proofs.Walks.{Walked, walk_start, walk_next, with_all, without_all, inside_one}
use Rattle.formula_tally.proofs.Walks.{outside_one, only_le, one_at_most}
use Rattle.formula_tally.proofs.count_singles.Statement.{statement}
use Rattle.formula_tally.proofs.count_singles.Tie as tie

abbrev invariant-loop : tie.invariant-loop-next
invariant-loop store formula minute inside₀ all₀ next₀ inside all next =
    (inside ≤ all) × Walked store minute formula next inside (all - inside)

abbrev decreases_loop : tie.decreases-loop-next
decreases_loop store formula minute inside₀ all₀ next₀ inside all next = next

loop-holds : tie.Need-loop-next-init invariant-loop decreases_loop
loop-holds c =
    (omega arith, walk_start c.args.store.now c.args.minute c.args.formula c.last_row-next.ensures)

credential-at-requires : tie.Need-credential_at-c-requires invariant-loop decreases_loop
credential-at-requires c κs =
    let h = c.loop-next-test.true in
    (c.requires.0, omega (arith, c.loop-next.invariant.1.few))

-- one credential is at most one, in all
record One (c : tie.After-when_has-one invariant-loop decreases_loop) : Type 0 where
  part : c.when_has-one.result ≤ c.before.when_linear-linear.result
  all : c.before.when_linear-linear.result ≤ 1
  rows : c.before.before.before.before.loop-next.all ≤ max_rows
  inside : c.before.before.before.before.loop-next.inside ≤ c.before.before.before.before.loop-next.all

one : (c : tie.After-when_has-one invariant-loop decreases_loop) → One c
one c =
    let d = c.credential_at-c.result in
    record {
      part = omega (
        arith,
        c.when_has-one.ensures,
        only_le (has d.interval c.args.minute) c.when_linear-linear.result,
      );
      all = one_at_most d.kind c.when_linear-linear.ensures;
      rows = omega (arith, c.loop-next.invariant.1.few, c.loop-next.invariant.0, c.requires.0.ordered.few);
      inside = c.loop-next.invariant.0;
    }

row-before-requires : tie.Need-row_before-next-requires invariant-loop decreases_loop
row-before-requires c κs =
    let h = c.loop-next-test.true in
    (c.requires.0, omega arith, omega (arith, c.loop-next.invariant.1.few))

loop-less : tie.Need-loop-next-smaller invariant-loop decreases_loop
loop-less c =
    let h = c.loop-next-test.true in
    let i = c.loop-next.next - 1 in
    let f = of_at c.args.store.now in
    omega (arith, c.row_before-next.ensures, last_le f (f i) i)

loop-again : tie.Need-loop-next-preserved invariant-loop decreases_loop
loop-again c =
    let h = c.loop-next-test.true in
    let d = c.credential_at-c.result in
    let b = has d.interval c.args.minute in
    let e = c.when_has-one.ensures ∙ ap (only b) c.when_linear-linear.ensures in
    let p : c.loop-next.next ≡ suc (c.loop-next.next - 1) = omega arith in
    let x = c.when_has-one.result in
    let y = c.when_linear-linear.result in
    let o : c.loop-next.all + y - (c.loop-next.inside + x) ≡ c.loop-next.all - c.loop-next.inside + (y - x) =
    omega (arith, (one c.before).part, (one c.before).inside) in (
      omega (arith, (one c.before).part, (one c.before).inside),
      subst (Walked _ _ _ _ (c.loop-next.inside + x)) (sym o)
          (walk_next c.args.store.now c.args.minute c.args.formula (c.loop-next.next - 1) d
          c.loop-next.invariant.1 p c.credential_at-c.ensures (e ∙ inside_one d.kind b)
          (ap₂ ◌-◌ c.when_linear-linear.ensures e ∙ outside_one d.kind b)
          (omega (arith, (one c.before).part, (one c.before).all))
          c.row_before-next.ensures),
    )

returns : tie.Need-returns invariant-loop decreases_loop
returns c =
    let l = c.args.store.now in
    let h = c.loop-next-test.false in
    let e : c.loop-next.next ≡ 0 = omega arith in (
      with_all l c.args.minute c.args.formula e c.loop-next.invariant.1,
      (
        without_all l c.args.minute c.args.formula e c.loop-next.invariant.1,
        omega (arith, c.loop-next.invariant.1.few, c.requires.0.ordered.few),
      ),
    )

pub count_singles_spec : {M : Type 1} → statement M
count_singles_spec =
    tie.close
    (tie.spec
    invariant-loop
    decreases_loop
    (λ c κs. c.requires)
    loop-holds
    (λ c. let h = c.loop-next-test.true in omega arith)
    credential-at-requires
    (λ c κs. search rules)
    (λ c κs. search rules)
    (λ c. omega (arith, (one c).part, (one c).all, (one c).rows, (one c).inside))
    (λ c. omega (arith, (one c).all, (one c).rows))
    row-before-requires
    loop-less
    loop-again
    (λ c. omega (arith, c.loop-next.invariant.0))
    returns)

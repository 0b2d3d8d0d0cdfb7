-- `given_by` meets its contract.
use mathlib.Core.Path.{◌≡◌, sym, ap, ap₂, ◌∙◌}
use Prim.Native.Nat.{◌+◌, ◌*◌, ◌/◌, ◌%◌}
use native.Mathlib.Omega.{arith}
use Rattle.ledger.specs.Ledger.{formula}
use Rattle.store.specs.Store.{ledger_of}
use Rattle.logic.specs.Packed.{byte, place_unit, house_unit, seats_in, places_in, house_in}
use Rattle.formula_tally.specs.ByFormula.{open_at, seats_at, places_at}
use Rattle.formula_tally.proofs.Giving.{unpacked}
use Rattle.formula_tally.proofs.Tallied.{Small, small, no_counts}
use Rattle.formula_tally.proofs.given_by.Statement.{statement}
use Rattle.formula_tally.proofs.given_by.Tie as tie

returns : tie.Need-returns-then-one-eq0
returns c =
    no_counts (ledger_of c.args.store.now) c.args.session c.args.minute c.args.formula
    (c.requires.0.bounded.sizes c.args.formula) (sym c.count_formula-one.ensures ∙ c.if-one-eq0.true)

-- the products
record Products (c : tie.After-count_singles-singles) : Type 0 where
  opens : c.count_singles-singles.result.inside * (c.before.before.count_formula-one.result / house_unit % byte)
      ≡ open_at (ledger_of c.before.before.before.args.store.now)
      c.before.before.before.args.session
      c.before.before.before.args.minute
      c.before.before.before.args.formula
  seats : (c.count_singles-singles.result.inside + c.count_singles-singles.result.outside)
      * (c.before.before.count_formula-one.result % byte)
      ≡ seats_at (ledger_of c.before.before.before.args.store.now)
      c.before.before.before.args.session
      c.before.before.before.args.minute
      c.before.before.before.args.formula
  places : (c.count_singles-singles.result.inside + c.count_singles-singles.result.outside)
      * (c.before.before.count_formula-one.result / place_unit % byte)
      ≡ places_at (ledger_of c.before.before.before.args.store.now)
      c.before.before.before.args.session
      c.before.before.before.args.minute
      c.before.before.before.args.formula

products : (c : tie.After-count_singles-singles) → Products c
products c =
    let t = ledger_of c.args.store.now in
    let k = c.args.formula in
    let e = c.count_singles-singles.ensures in
    let one = c.count_formula-one.ensures in
    let all = ap₂ ◌+◌ e.0 e.1.0 in
    let u = unpacked c.args.session (formula t k) (c.requires.0.bounded.sizes k) in
    record {
      opens = ap₂ ◌*◌ e.0 (ap house_in one ∙ u.house_in_holds);
      seats = ap₂ ◌*◌ all (ap seats_in one ∙ u.seats_in_holds);
      places = ap₂ ◌*◌ all (ap places_in one ∙ u.places_in_holds);
    }

limits : (c : tie.After-count_singles-singles)
    → Small (ledger_of c.args.store.now)
    c.args.session
    c.args.minute
    c.args.formula
limits c =
    small (ledger_of c.args.store.now) c.args.session c.args.minute c.requires.0.bounded c.args.formula

returns_2 : tie.Need-returns
returns_2 c =
    let p = products c.before.before in
    record { opens = p.opens; seats = p.seats; places = p.places }

pub given_by_spec : {M : Type 1} → statement M
given_by_spec =
    tie.close
    (tie.spec
    (λ c κs. c.requires)
    returns
    (λ c κs. (c.requires.0, omega (arith, c.requires.1, c.requires.0.bounded.lines)))
    (λ c. omega (arith, c.count_singles-singles.ensures.1.1))
    (λ c. omega (arith, (products c.before.before).opens, (limits c.before.before).opens))
    (λ c. omega (arith, (products c.before.before).seats, (limits c.before.before).seats))
    (λ c. omega (arith, (products c.before.before).places, (limits c.before.before).places))
    returns_2)

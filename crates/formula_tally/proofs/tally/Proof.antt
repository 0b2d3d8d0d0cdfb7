-- `tally` meets its contract.
use mathlib.Core.Path.{sym, ◌∙◌}
use native.Mathlib.Omega.{arith}
use Rattle.store.specs.Store.{ledger_of}
use Rattle.formula_tally.proofs.ByFormula.{by_formula}
use Rattle.formula_tally.proofs.tally.Statement.{statement}
use Rattle.formula_tally.proofs.tally.Tie as tie

returns : tie.Need-returns
returns c =
    let a = c.add_up-sums.ensures in
    let l = c.args.store.now in
    let law = by_formula (ledger_of l) c.args.session c.args.minute in
    record {
      «open» = a.opens ∙ sym law.opens;
      shut = omega (arith, a.seats, a.opens, law.shuts);
      placed = a.places ∙ sym law.places;
    }

pub tally_spec : {M : Type 1} → statement M
tally_spec =
    tie.close
    (tie.spec
    (λ c κs. c.requires)
    (λ c. omega (arith, c.add_up-sums.ensures.seats, c.add_up-sums.ensures.opens))
    returns)

-- `row_holders` meets its contract.
use mathlib.Core.Path.{sym}
use borrow.Author.Rules.{rules}
use Rattle.formula_facts.proofs.Named.{unbound_is, quantified_is}
use Rattle.formula_facts.proofs.row_holders.Statement.{statement}
use Rattle.formula_facts.proofs.row_holders.Tie as tie

returns : tie.Need-returns
returns c =
    let l = c.args.store.now in
    let r = c.args.row in
    let canonical = c.requires.canonical in
    let parts = c.parts_holders-parts.ensures in
    record {
      unbound = rw parts.unbound (sym (unbound_is l r canonical));
      quantified = rw parts.quantified (sym (quantified_is l r canonical));
    }

pub row_holders_spec : {M : Type 1} → statement M
row_holders_spec = tie.close (tie.spec (λ c κs. search rules) returns)

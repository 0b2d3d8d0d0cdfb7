-- `unlink` meets its contract.
use Rattle.std.proofs.Common.{refl, sym, ◌∙◌, arith}
use Rattle.store_credentials.proofs.Gather.{unlink_next, unlink_pass, unlink_done}
use Rattle.store_credentials.proofs.unlink.Goals as goal
use Rattle.store_credentials.proofs.unlink.Goals.{then-has_chain, else-has_chain}

pub loop-n-init : goal.loop-n-init
loop-n-init c = record {
  long = c.requires.long;
  rest = λ k q. refl;
  none = λ n q. absurd (omega arith);
  others = λ n q. refl;
}

pub formula_link-chain-requires : goal.formula_link-chain-requires
formula_link-chain-requires c = omega (arith, c.requires.lines, c.read-n-end.ensures)

pub link-has_chain-requires : goal.link-has_chain-requires
link-has_chain-requires c = omega (arith, c.requires.lines, c.read-n-end.ensures, c.formula_link-chain.ensures)

pub put_link-requires : goal.put_link-requires
put_link-requires c = omega (arith, c.requires.lines, c.read-n-end.ensures, c.formula_link-chain.ensures)

pub loop-n-preserved : goal.loop-n-preserved
loop-n-preserved c =
    elim c.if-has_chain.branch [
      | then-has_chain w ↦
          rw (w.store-is, w.put_link.ensures)
          (unlink_next _ _ _ _ c.loop-n.invariant (omega (arith, c.requires.lines, c.read-n-end.ensures)) (omega arith))
      | else-has_chain w ↦ rw w.store-is
          (unlink_pass _ _ _ _ c.loop-n.invariant (sym c.link-has_chain.ensures ∙ w.if-has_chain.false) (omega arith))
    ]

pub returns : goal.returns
returns c =
    unlink_done c.requires (omega (arith, c.read-n-end.ensures)) c.loop-n.invariant

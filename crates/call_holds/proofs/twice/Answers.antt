-- `twice` meets its contract: what `contains` answers of the serials after each.
use mathlib.Core.Path.{sym, ◌∙◌}
use native.Mathlib.Omega.{arith}
use Rattle.call_holds.proofs.HoldSerials.{twice_here, twice_next, twice_end}
use Rattle.call_holds.proofs.twice.Goals as goal

pub returns-then-again : goal.returns-then-again
returns-then-again c =
    sym (c.loop-k.invariant ∙ twice_here c.args.serials.now c.loop-k.k (omega arith)
    (sym c.contains-again.ensures.value ∙ c.if-again.true))

pub loop-k-preserved : goal.loop-k-preserved
loop-k-preserved c =
    c.loop-k.invariant ∙ twice_next c.args.serials.now c.loop-k.k (omega arith)
    (sym c.contains-again.ensures.value ∙ c.if-again.false)

pub returns : goal.returns
returns c = sym (c.loop-k.invariant ∙ twice_end c.args.serials.now c.loop-k.k (omega arith))

-- `mark` meets its contract.
use Rattle.std.proofs.Common.{arith}
use Rattle.store_formulas.proofs.Marks.{mark_start, mark_next, mark_done}
use Rattle.store_formulas.proofs.mark.Goals as goal

pub loop-session-init : goal.loop-session-init
loop-session-init c = mark_start _ _ _ _ c.requires.0 (omega arith)

pub loop-session-preserved : goal.loop-session-preserved
loop-session-preserved c =
    rw c.mark.ensures (mark_next _ _ _ _ _ _ c.requires.1 (omega arith) c.loop-session.invariant)

pub returns : goal.returns
returns c = mark_done _ _ _ _ _ _ c.loop-session.invariant (λ s a b d. omega arith)

-- after the last session
pub returns-2 : goal.returns-2
returns-2 c =
    rw c.mark.ensures
    (mark_done _ _ _ _ _ _ (mark_next _ _ _ _ _ _ c.requires.1 (omega arith) c.loop-session.invariant)
    (λ s a b d. omega arith))

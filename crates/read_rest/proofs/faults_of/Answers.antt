-- `faults_of` meets its contract: here for a step with an interval.
use Rattle.std.proofs.Common.{Bool, sym, ◌∙◌}
use Rattle.logic.specs.declared.Interval.{Interval}
use Rattle.logic.specs.Interval.{reversed, broken}
use Rattle.read_rest.proofs.Reversals.{row_tested}
use Rattle.read_rest.proofs.faults_of.Goals as goal

pub returns : goal.returns
returns c =
    let tested = λ (test : Interval → Bool). sym (row_tested test c.args.row c.if-row-lt-LL.false) in
    (c.reversed.ensures ∙ tested reversed, c.broken.ensures ∙ tested broken)

-- What is said goes by the count of the words, to an output that nothing was written to.
use Rattle.std.proofs.Common.{subst, ltb}
use Rattle.request.specs.Text.{bytes}
use Rattle.stream_console.specs.declared.Output.{Output}
use Rattle.tillrun.specs.Complaints.{Said, no_arguments}
use Rattle.tillrun.proofs.warn.Goals as goal

pub returns : goal.returns
unfolding bytes
returns c =
    subst (λ (u : Output). Said u (ltb 1 c.args.words) no_arguments c.say.result) c.writing-errors.ensures.0
    c.say.ensures

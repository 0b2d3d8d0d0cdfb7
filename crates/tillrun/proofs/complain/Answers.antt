-- What is said goes by the notes, the second line by what was left of the first.
use Rattle.std.proofs.Common.{Bool, subst}
use Rattle.request.specs.Text.{bytes}
use Rattle.tillrun.specs.Complaints.{Said, input_unread, answers_unwritten}
use Rattle.tillrun.proofs.complain.Goals as goal

pub returns : goal.returns
unfolding bytes
returns c = record {
  between = c.say-then.result;
  read = subst (λ (b : Bool). Said c.args.errors b input_unread c.say-then.result)
      c.misread-unread.ensures c.say-then.ensures;
  written = subst (λ (b : Bool). Said c.say-then.result b answers_unwritten c.say.result)
      c.failed-unwritten.ensures c.say.ensures;
}

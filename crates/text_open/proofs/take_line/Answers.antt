use Rattle.text_open.proofs.Outcomes.{line_taken}
use Rattle.text_open.proofs.take_line.Goals as goal

pub returns-clause-result_after : goal.returns-clause-result_after
returns-clause-result_after c =
    (line_taken c.accepted.result c.requires.room c.word.ensures c.accepted.ensures).0

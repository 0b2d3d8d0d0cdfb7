-- `answer` meets its contract.
use mathlib.Core.Path.{ap}
use borrow.Author.Rules.{rules}
use Rattle.stream_print.specs.Printed.{line}
use Rattle.stream_print.proofs.Writing.{wrote_as}
use Rattle.stream.proofs.answer.Statement.{statement}
use Rattle.stream.proofs.answer.Tie as tie

returns : tie.Need-returns
returns c =
    let called = c.call-a.ensures in
    record {
      good = called.good;
      ledger = called.ledger;
      wrote = wrote_as (ap line called.answer) c.put_answer.ensures.0;
      short = c.put_answer.ensures.1;
    }

pub answer_spec : {M : Type 1} → statement M
answer_spec = tie.close (tie.spec (λ c κs. search rules) (λ c κs. search rules) (λ c. search rules) returns)

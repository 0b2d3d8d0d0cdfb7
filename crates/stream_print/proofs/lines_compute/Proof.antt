-- `lines_compute` meets its contract.
use Rattle.stream_print.proofs.Examples.{line_examples}
use Rattle.stream_print.proofs.lines_compute.Statement.{statement}
use Rattle.stream_print.proofs.lines_compute.Tie as tie

pub lines_compute_spec : {M : Type 1} → statement M
lines_compute_spec = tie.close (tie.spec (λ c. line_examples))

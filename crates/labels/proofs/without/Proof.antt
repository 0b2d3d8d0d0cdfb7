-- `without` meets its contract.
use borrow.Author.Rules.{rules}
use lib.Bits.{and_le_l, and_le_r}
use Rattle.labels.proofs.without.Statement.{statement}
use Rattle.labels.proofs.without.Tie as tie

sub-result : tie.Need-overflow_sub-result
sub-result c = search (and_le_l, and_le_r)

pub without_spec : {M : Type 1} → statement M
without_spec = tie.close (tie.spec sub-result (λ c. search rules))

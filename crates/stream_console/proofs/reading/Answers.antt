-- What an input begins as, field by field. What the word `Came` says of no bytes is that none are counted.
use Rattle.std.proofs.Common.{◌≡◌, false, refl, rules}
use Rattle.stream_passed.specs.Passed.{Came}
use Rattle.stream_console.proofs.Notes.{part, returned}
use Rattle.stream_console.proofs.reading.Goals as goal

from_there : part (λ (x : goal.returns) (y : (c : _) → (returned (x c).0).from ≡ c.args.from). y)
from_there c = search rules

no_reads : part (λ (x : goal.returns) (y : (c : _) → (returned (x c).0).reads ≡ 0). y)
no_reads c = refl

not_ended : part (λ (x : goal.returns) (y : (c : _) → (returned (x c).0).ended ≡ false). y)
not_ended c = refl

not_misread : part (λ (x : goal.returns) (y : (c : _) → (returned (x c).0).misread ≡ false). y)
not_misread c = refl

pub returns : goal.returns
unfolding Came
returns c = (
  λ j. record {
    from = from_there c j;
    reads = no_reads c j;
    bytes = 0;
    got = 0;
    ended = not_ended c j;
    misread = not_misread c j;
  },
  refl,
)

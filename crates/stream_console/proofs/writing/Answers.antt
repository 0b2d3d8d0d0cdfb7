-- What the word `Went` says of no bytes is that none are counted.
use Rattle.std.proofs.Common.{refl, rules}
use Rattle.stream_passed.specs.Passed.{Went}
use Rattle.stream_console.proofs.writing.Goals as goal

pub returns : goal.returns
unfolding Went
returns c = (search rules, refl)

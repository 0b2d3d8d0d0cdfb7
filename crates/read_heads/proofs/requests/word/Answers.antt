use Rattle.std.proofs.Common.{sym}
use Rattle.read_heads.proofs.Heads.{no_formula, word_follow, word_whole}
use Rattle.read_heads.proofs.requests.word.Goals as goal

pub returns-in_err-x : goal.returns-in_err-x
returns-in_err-x c =
    rw c.from_residual.ensures (no_formula _ (sym c.in_err-x.ensures.read))

pub returns-in_err-ended : goal.returns-in_err-ended
returns-in_err-ended c =
    rw c.from_residual-in_err-ended.ensures (word_follow _ _ (sym c.in_ok-x.ensures.read) c.in_err-ended.ensures)

pub returns : goal.returns
returns c =
    word_whole _ _ (sym c.in_ok-x.ensures.read) c.in_ok-ended.ensures

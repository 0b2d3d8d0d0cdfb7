-- What was lent holds in the end what the kiosk held.
use Rattle.std.proofs.Common.{ap, sym, ◌∙◌, length}
use Rattle.stream.proofs.Pieces.{took_lent}
use Rattle.stream.proofs.feed.Goals as goal

pub feed-requires : goal.feed-requires
feed-requires c = record {
  good = c.requires.good;
  begun = ap length c.in-Some.ensures.cases.same ∙ c.requires.begun;
  filled = c.requires.filled;
  text = c.requires.text;
}

pub returns : goal.returns
returns c =
    let same = c.feed.ensures.lent in
    took_lent c.feed.ensures.took c.in-Some.ensures.cases.same (c.store-1.given.1 (sym same.0))
    (c.begun-2-1.given.1 (sym same.2)) (c.text-1.given.1.1 (sym same.3))

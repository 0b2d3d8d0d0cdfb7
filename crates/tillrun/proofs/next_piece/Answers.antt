-- What a turn leaves: the answering's place, and what it wrote, sent.
use Rattle.std.proofs.Common.{arith, refl}
use Rattle.tillrun.proofs.Turns.{part, few, sent_whole, Answered, Counted, turned}
use Rattle.tillrun.proofs.next_piece.Goals as goal

-- the text that waited is written
answered : part (λ (x : goal.returns-clause-turned) (y : (c : _) → Answered (x c) c.feed.new.self). y)
answered c = sent_whole c.waiting-waiting.ensures c.send-output.ensures.sent

-- as many bytes are answered as the read gave
counted : part (λ (x : goal.returns-clause-turned) (y : (c : _) → Counted (x c) c.got-n.result). y)
counted c = c.got-n.ensures

-- they stand in the piece
pub slice_bounds-feed-end : goal.slice_bounds-feed-end
slice_bounds-feed-end c = omega (arith, c.got-n.ensures, few c.receive-input.ensures.received)

pub returns-clause-turned : goal.returns-clause-turned
returns-clause-turned c =
    turned (omega arith) c.feed.ensures.took (counted c) c.receive-input.ensures.received (answered c)
    (record { store = refl; begun = refl; text = refl; place = refl })

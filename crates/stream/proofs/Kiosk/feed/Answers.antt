-- Each turn takes the first bytes of the rest.
use Rattle.std.proofs.Common.{length, arith, ◌∙◌}
use Rattle.std.proofs.lemmas.Slice.{between_to_end}
use Rattle.std.proofs.lemmas.Bool.Decides.{nat_tests}
use Rattle.stream.proofs.Pieces.{taking_next, taken_all}
use Rattle.stream.proofs.Kiosk.feed.Goals as goal

pub loop-rest-preserved : goal.loop-rest-preserved
loop-rest-preserved c =
    let r = c.loop-rest.rest.now in
    let was = c.loop-rest.invariant.2 in
    let is = c.take_sheet-taken.ensures.lent in (
      taking_next r _ c.loop-rest.invariant.0 c.take_sheet-taken.ensures.took
          (between_to_end r c.take_sheet-taken.result (length r) (omega arith)),
      c.take_sheet-taken.ensures.long ∙ c.loop-rest.invariant.1,
      (is.0 ∙ was.0, is.1 ∙ was.1, is.2 ∙ was.2, is.3 ∙ was.3),
    )

pub returns-clause-took : goal.returns-clause-took
returns-clause-took c =
    taken_all (grind (arith, nat_tests, c.is_empty.ensures)) c.loop-rest.invariant.0

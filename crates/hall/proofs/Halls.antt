-- The sessions of a big hall, by computation: a declaration each, for a declaration may take only so many steps.
use mathlib.Core.Path.{◌≡◌, refl}
use Rattle.ledger.specs.Sessions.{Plays, times}
use Rattle.ledger.specs.Cases.{refused, AnsweredFrom}
use Rattle.ledger.proofs.Compute.{played}
use Rattle.snapshot.specs.Snapshot.{text}
use Rattle.snapshot.specs.Cases.{reopened, played_on, opening, coupons, bulk}
use Rattle.snapshot.proofs.Compute.{rewritten}
use Rattle.hall.specs.Halls.{counting, M10Plays, standing_hall, standing, late, seat_hall, seats, place_hall}
use Rattle.hall.specs.Halls.{places, seat_lines, panel_hall, panel, HallSheets, told_and_written, OpensAndCloses}
use Rattle.hall.specs.Halls.{supersets, longest, few_hall, many_hall, mixed_hall, named_hall, last_named, back_calls}
use Rattle.hall.specs.Halls.{back_text, gaps_hall, gaps_calls, gaps_text, over_hall, HallTexts}

pub m10_plays : M10Plays
unfolding played Plays times counting
m10_plays = refl

standing_answered : AnsweredFrom (reopened standing_hall) standing
unfolding rewritten AnsweredFrom coupons
standing_answered = refl

late_answered : AnsweredFrom (reopened (bulk "till,2,2049,1,2048" 2048)) late
unfolding rewritten AnsweredFrom coupons
late_answered = refl

seats_answered : AnsweredFrom (reopened seat_hall) seats
unfolding rewritten AnsweredFrom coupons
seats_answered = refl

places_answered : AnsweredFrom (reopened place_hall) places
unfolding rewritten AnsweredFrom coupons
places_answered = refl

panel_answered : AnsweredFrom (reopened panel_hall) panel
unfolding rewritten AnsweredFrom coupons seat_lines
panel_answered = refl

pub hall_sheets : HallSheets
hall_sheets = record {
  standing = standing_answered;
  late = late_answered;
  seats = seats_answered;
  places = places_answered;
  panel = panel_answered;
}

longest_text_holds : OpensAndCloses longest 105384
unfolding rewritten coupons supersets told_and_written
longest_text_holds = refl

few_text : OpensAndCloses few_hall 8107
unfolding rewritten coupons told_and_written
few_text = refl

many_text : OpensAndCloses many_hall 8123
unfolding rewritten coupons told_and_written
many_text = refl

mixed_text : OpensAndCloses mixed_hall 8123
unfolding rewritten coupons told_and_written
mixed_text = refl

named_text : OpensAndCloses named_hall 8131
unfolding rewritten coupons told_and_written
named_text = refl

last_text : OpensAndCloses last_named 13157
unfolding rewritten supersets told_and_written
last_text = refl

back_text_holds : text (played_on (reopened many_hall) back_calls) ≡ back_text
unfolding rewritten coupons
back_text_holds = refl

gaps_text_holds : text (played_on (reopened gaps_hall) gaps_calls) ≡ gaps_text
unfolding rewritten
gaps_text_holds = refl

over_text : opening over_hall ≡ refused 50
unfolding rewritten coupons
over_text = refl

pub hall_texts : HallTexts
hall_texts = record {
  longest = longest_text_holds;
  few = few_text;
  many = many_text;
  mixed = mixed_text;
  named = named_text;
  last = last_text;
  back = back_text_holds;
  gaps = gaps_text_holds;
  over = over_text;
}

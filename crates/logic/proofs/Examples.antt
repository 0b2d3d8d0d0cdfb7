-- The examples, by computation.
use mathlib.Core.Path.{refl}
use Rattle.logic.specs.Interval.{in_break, has, covers, contains, reversed, broken}
use Rattle.logic.specs.Formula.{size, count, house_under, plain, put_in, with_holder, unbound, quantified}
use Rattle.logic.specs.Weight.{weight}
use Rattle.logic.specs.Counts.{up, even, sessions_of, all_of, balanced}
use Rattle.logic.specs.Examples.{twofold, Examples}

pub examples : Examples
unfolding size twofold weight count house_under balanced all_of sessions_of even up plain in_break has covers contains
    reversed broken put_in with_holder unbound quantified
examples = record {
  size_of_twofold = refl;
  size_of_offer = refl;
  size_of_one = refl;
  size_of_superset = refl;
  size_of_says = refl;
  size_of_at = refl;
  size_of_bang = refl;
  size_of_with = refl;
  size_of_plus = refl;
  size_of_implies = refl;
  offer_weighs = refl;
  seat_weighs = refl;
  offer_seats = refl;
  offer_places = refl;
  offer_balanced = refl;
  two_for_one = refl;
  across_sessions = refl;
  arms_differ = refl;
  under_bang = refl;
  left_of_implies = refl;
  right_of_implies = refl;
  arms_alike = refl;
  plain_seat = refl;
  offer_not_plain = refl;
  at_not_plain = refl;
  superset_not_plain = refl;
  house_seat = refl;
  bare_seat = refl;
  host_over_house = refl;
  house_over_host = refl;
  beside_host = refl;
  beside_bare = refl;
  principal_zero = refl;
  principal_last = refl;
  house_place = refl;
  overlap = refl;
  same_interval_holds = refl;
  last_minute = refl;
  past_it = refl;
  one_minute = refl;
  minute_zero = refl;
  no_break = refl;
  before_break = refl;
  break_first = refl;
  break_last = refl;
  after_break = refl;
  before_it = refl;
  after_it = refl;
  larger_break = refl;
  over_break = refl;
  later_break = refl;
  earlier_break = refl;
  strictly_inside = refl;
  minute_break = refl;
  touches_first = refl;
  touches_last = refl;
  last_before_first = refl;
  zero_first = refl;
  zero_last = refl;
  holder_places = refl;
  holder_seat = refl;
  every_offer_places = refl;
  every_offer_balanced = refl;
  every_offer_size = refl;
  two_for_every = refl;
  holder_plain = refl;
  every_not_plain = refl;
  bound_inside = refl;
  unbound_alone = refl;
  unbound_beside = refl;
  named_not_unbound = refl;
  every_beside = refl;
  holder_in = refl;
  holder_other = refl;
  holder_no_a = refl;
  holder_not_inside = refl;
}

-- Document 01's sessions, as far as they speak of formulas and intervals, and what document 02 says of breaks and
-- holders.
use Rattle.std.specs.Prelude.{◌≡◌, true, false, ℕ, zero, suc, pos, negsuc}
use Rattle.std.proofs.Math.Option.{none, some}
use Rattle.logic.specs.Interval.{span, contains, has, reversed, broken}
use Rattle.logic.specs.Formula.{Formula, atom, one, tensor, with, plus, lolli, implies, bang, at, says, superset}
use Rattle.logic.specs.Formula.{for_every, size, seats, places, house_seats, plain, with_holder, unbound}
use Rattle.logic.specs.Formula.{quantified}
use Rattle.logic.specs.Weight.{weight}
use Rattle.logic.specs.Counts.{balanced}

-- M1's formulas: a seat and a place of session 7, a free atom, and the offer seat ⊗ free ⊸ place
abbrev pub seat7 : Formula
seat7 = says 1 (atom 1 7 none)

abbrev pub place7 : Formula
place7 = says 1 (atom 2 7 none)

abbrev pub free7 : Formula
free7 = says 2 (atom 9 7 none)

abbrev pub offer : Formula
offer = lolli (tensor seat7 free7) place7

-- a, a ⊗ a, ..
unfoldable pub twofold : ℕ → Formula
twofold zero = atom 9 7 none
twofold (suc n) = tensor (twofold n) (twofold n)

-- a place of session 7 for the holder h, 0 for the one bound; and an offer to every holder: a seat becomes their place
abbrev pub place_for : ℕ → Formula
place_for h = says 1 (atom 2 7 (some h))

abbrev pub every_offer : Formula
every_offer = for_every (lolli seat7 (place_for 0))

pub record Examples : Type 0 where
  -- M9: the sixth has size 63
  pub size_of_twofold : size (twofold 5) ≡ 63
  pub size_of_offer : size offer ≡ 8
  -- "1 plus the sizes of the parts, a part used twice counted twice": of 1, ⊇, ⟨K⟩, @, !, &, ⊕, ⊃
  pub size_of_one : size one ≡ 1
  pub size_of_superset : size (superset (span 0 9 0 0) (span 3 4 0 0)) ≡ 1
  pub size_of_says : size seat7 ≡ 2
  pub size_of_at : size (at seat7 (span 0 9 0 0)) ≡ 3
  pub size_of_bang : size (bang seat7) ≡ 3
  pub size_of_with : size (with seat7 seat7) ≡ 5
  pub size_of_plus : size (plus seat7 seat7) ≡ 5
  pub size_of_implies : size (implies seat7 seat7) ≡ 5
  -- the offer weighs 0 for session 7 and counts one seat and one place
  pub offer_weighs : weight 7 offer ≡ pos 0
  pub seat_weighs : weight 7 (lolli seat7 one) ≡ negsuc 0
  pub offer_seats : seats 7 offer ≡ 1
  pub offer_places : places 7 (tensor offer place7) ≡ 2
  -- M1 issues it; M8's, a seat for two places, is refused
  pub offer_balanced : balanced offer ≡ true
  pub two_for_one : balanced (lolli seat7 (tensor place7 place7)) ≡ false
  -- sessions that cancel only in sum, arms that differ, a seat under ! and one left of ⊃; what stands right of ⊃ may
  -- weigh
  pub across_sessions : balanced (lolli (atom 1 6 none) (atom 2 7 none)) ≡ false
  pub arms_differ : balanced (lolli (with (atom 1 7 none) one) (atom 1 7 none)) ≡ false
  pub under_bang : balanced (lolli (bang (atom 1 7 none)) (atom 1 7 none)) ≡ false
  pub left_of_implies : balanced (implies (atom 1 7 none) one) ≡ false
  pub right_of_implies : balanced (lolli (atom 1 7 none) (implies one (atom 1 7 none))) ≡ true
  pub arms_alike : balanced (lolli (plus seat7 place7) (at place7 (span 0 9 0 0))) ≡ true
  pub plain_seat : plain (tensor seat7 free7) ≡ true
  pub offer_not_plain : plain offer ≡ false
  -- "Plain: only `a`, `t`, `s`"
  pub at_not_plain : plain (at free7 (span 0 9 0 0)) ≡ false
  pub superset_not_plain : plain (superset (span 0 9 0 0) (span 3 4 0 0)) ≡ false
  -- the nearest ⟨K⟩ above a seat decides, also through ⊗; above a bare seat there is none; 0 and 255 are no house
  pub house_seat : house_seats 7 seat7 ≡ 1
  pub bare_seat : house_seats 7 (atom 1 7 none) ≡ 0
  pub host_over_house : house_seats 7 (says 2 seat7) ≡ 1
  pub house_over_host : house_seats 7 (says 1 (says 2 (atom 1 7 none))) ≡ 0
  pub beside_host : house_seats 7 (says 1 (tensor (atom 1 7 none) (says 2 (atom 1 7 none)))) ≡ 1
  pub beside_bare : house_seats 7 (tensor seat7 (atom 1 7 none)) ≡ 1
  pub principal_zero : house_seats 7 (says 0 (atom 1 7 none)) ≡ 0
  pub principal_last : house_seats 7 (says 255 (atom 1 7 none)) ≡ 0
  pub house_place : house_seats 7 place7 ≡ 0
  -- ⊇ is containment, overlap is not; both ends are in an interval
  pub overlap : contains (span 0 599 0 0) (span 540 600 0 0) ≡ false
  pub same_interval_holds : contains (span 540 600 0 0) (span 540 600 0 0) ≡ true
  pub last_minute : has (span 540 600 0 0) 600 ≡ true
  pub past_it : has (span 540 600 0 0) 601 ≡ false
  pub one_minute : reversed (span 540 540 0 0) ≡ false
  -- 0,0 is no break: minute 0 is in
  pub minute_zero : has (span 0 9 0 0) 0 ≡ true
  pub no_break : broken (span 0 9 0 0) ≡ false
  -- 0..99 with the break 40..59: neither end of the break is in it, the minutes beside it are
  pub before_break : has (span 0 99 40 59) 39 ≡ true
  pub break_first : has (span 0 99 40 59) 40 ≡ false
  pub break_last : has (span 0 99 40 59) 59 ≡ false
  pub after_break : has (span 0 99 40 59) 60 ≡ true
  -- it has all of an interval on one side of its break, or with a larger break, and not one that goes over it
  pub before_it : contains (span 0 99 40 59) (span 0 39 0 0) ≡ true
  pub after_it : contains (span 0 99 40 59) (span 60 99 0 0) ≡ true
  pub larger_break : contains (span 0 99 40 59) (span 0 99 30 70) ≡ true
  pub over_break : contains (span 0 99 40 59) (span 0 99 0 0) ≡ false
  pub later_break : contains (span 0 99 40 59) (span 0 99 41 60) ≡ false
  pub earlier_break : contains (span 0 99 40 59) (span 0 99 39 58) ≡ false
  -- a break is strictly inside, and may be one minute; 0 and a number is none
  pub strictly_inside : broken (span 0 9 1 8) ≡ false
  pub minute_break : broken (span 0 2 1 1) ≡ false
  pub touches_first : broken (span 1 9 1 8) ≡ true
  pub touches_last : broken (span 0 9 1 9) ≡ true
  pub last_before_first : broken (span 0 9 5 4) ≡ true
  pub zero_first : broken (span 0 9 0 5) ≡ true
  pub zero_last : broken (span 0 9 5 0) ≡ true
  -- "`n` is an atom and weighs and is tallied like `a`; `q` as its part"
  pub holder_places : places 7 (place_for 5) ≡ 1
  pub holder_seat : house_seats 7 (says 1 (atom 1 7 (some 5))) ≡ 1
  pub every_offer_places : places 7 every_offer ≡ 1
  pub every_offer_balanced : balanced every_offer ≡ true
  pub every_offer_size : size every_offer ≡ 6
  pub two_for_every : balanced (for_every (lolli seat7 (tensor (place_for 0) (place_for 5)))) ≡ false
  -- `q` never stands "in a plain wording, though `n` may"
  pub holder_plain : plain (place_for 5) ≡ true
  pub every_not_plain : plain (for_every (place_for 0)) ≡ false
  -- holder 0 is bound inside `q` and only there; each place where it stands is judged
  pub bound_inside : unbound every_offer ≡ false
  pub unbound_alone : unbound (place_for 0) ≡ true
  pub unbound_beside : unbound (tensor (for_every (place_for 0)) (place_for 0)) ≡ true
  pub named_not_unbound : unbound (place_for 5) ≡ false
  pub every_beside : quantified (tensor (place_for 0) (for_every (place_for 0))) ≡ true
  -- the holder goes to every holder 0, also left of ⊸, and to no other holder, to no `a`, and not inside another `q`
  pub holder_in : with_holder 5 (lolli (place_for 0) (place_for 0)) ≡ lolli (place_for 5) (place_for 5)
  pub holder_other : with_holder 5 (place_for 6) ≡ place_for 6
  pub holder_no_a : with_holder 5 place7 ≡ place7
  pub holder_not_inside : with_holder 5 (tensor (place_for 0) every_offer) ≡ tensor (place_for 5) every_offer

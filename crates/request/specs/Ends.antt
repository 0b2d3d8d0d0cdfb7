-- The ends of the ranges, as the papers write them: document 01, "Ranges", and document 02, ask 1, "65,536 breaks its
-- range", and ask 7.
use Rattle.std.specs.Prelude.{◌≡◌}
use Rattle.std.proofs.Math.Option.{none, some}
use Prim.Native.String.{String}
use Rattle.request.specs.Range.{Range, predicate, session, principal, minute, formula_number, serial, label}
use Rattle.request.specs.Range.{next_serial, holds, steps, holder, named_holder}
use Rattle.request.specs.Text.{bytes, number_in}

-- these texts are read as the range's first number and its last; those of the numbers before and after are not read
pub record Ends (r : Range) (first last below past : String) : Type 0 where
  pub from : number_in r (bytes first) ≡ some r.first
  pub to : number_in r (bytes last) ≡ some r.last
  pub under : number_in r (bytes below) ≡ none
  pub over : number_in r (bytes past) ≡ none

-- "-" is no number: nothing stands below 0
pub record RangesEnd : Type 0 where
  pub predicates : Ends predicate "0" "255" "-" "256"
  pub sessions : Ends session "0" "65535" "-" "65536"
  pub holders : Ends holder "0" "65535" "-" "65536"
  pub named_holders : Ends named_holder "1" "65535" "0" "65536"
  pub principals : Ends principal "0" "255" "-" "256"
  pub minutes : Ends minute "0" "9999999" "-" "10000000"
  pub formulas : Ends formula_number "0" "999" "-" "1000"
  pub serials : Ends serial "1" "999999" "0" "1000000"
  pub next_serials : Ends next_serial "1" "1000000" "0" "1000001"
  pub labels : Ends label "0" "63" "-" "64"
  pub hold_counts : Ends holds "0" "32" "-" "33"
  pub step_counts : Ends steps "1" "256" "0" "257"

-- The sessions, by computation.
use mathlib.Core.Path.{◌≡◌, refl}
use mathlib.Core.List.{◌++◌}
use Rattle.request.specs.Text.{bytes}
use Rattle.ledger.specs.Cases.{accepted, refused, AnsweredFrom}
use Rattle.snapshot.specs.Cases.{M1Texts, TextsOpen, coupons, bulk, opening, EditionsOpen, Closings}
use Rattle.snapshot.proofs.Compute.{rewritten}

pub m1_texts : M1Texts
unfolding rewritten AnsweredFrom
m1_texts = record { before = refl; after = refl; opened = refl; closed = refl; again = refl }

pub texts_open : TextsOpen
unfolding rewritten
texts_open = record {
  line_counts = record { from = refl; to = refl; under = refl; over = refl };
  live_counts = record { from = refl; to = refl; under = refl; over = refl };
  forms = refl;
  credentials = refl;
  rules = refl;
  holders = refl;
  editions = refl;
}

few : opening (bulk "till,1,513,1,512" 512) ≡ accepted 8107
unfolding rewritten coupons
few = refl

many : opening (bulk "till,2,514,1,513" 513) ≡ accepted 8123
unfolding rewritten coupons
many = refl

few_second_holds : opening (bulk "till,2,513,1,512" 512) ≡ refused 50
unfolding rewritten coupons
few_second_holds = refl

many_first_holds : opening (bulk "till,1,514,1,513" 513) ≡ refused 50
unfolding rewritten coupons
many_first_holds = refl

few_late_holds : opening (bulk "till,1,1,1,512" 512) ≡ refused 51
unfolding rewritten coupons
few_late_holds = refl

few_late_second_holds : opening (bulk "till,2,1,1,512" 512) ≡ refused 50
unfolding rewritten coupons
few_late_second_holds = refl

many_late_first_holds : opening (bulk "till,1,1,1,513" 513) ≡ refused 50
unfolding rewritten coupons
many_late_first_holds = refl

standing : opening (bulk "till,2,514,1,513" 512 ++ bytes "513,r,0,0,9,0,0\n") ≡ accepted 8123
unfolding rewritten coupons
standing = refl

pub editions_open : EditionsOpen
editions_open = record {
  few = few;
  many = many;
  few_second = few_second_holds;
  many_first = many_first_holds;
  few_late = few_late_holds;
  few_late_second = few_late_second_holds;
  many_late_first = many_late_first_holds;
  standing = standing;
}

pub closings : Closings
unfolding rewritten AnsweredFrom
closings = record {
  short = refl;
  none = refl;
  fits = refl;
  past = refl;
  paused = refl;
  left = refl;
  last = refl;
  holders = refl;
  named = refl;
  every = refl;
  first = refl;
}

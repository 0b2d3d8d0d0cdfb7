-- The serials of a booking's holds, as the code goes through them: those from a place on.
use mathlib.Core.Path.{◌≡◌, refl, sym, ◌∙◌}
use mathlib.Core.List.{List, [], ◌∷◌}
use mathlib.Core.Bool.{Bool, true, false}
use Prim.Native.Nat.{ℕ, ◌+◌, ◌-◌, ◌≤◌, ◌<◌}
use native.Mathlib.Omega.{arith}
use native.Mathlib.Numerals.{add-one}
use lib.Dec.{eqb}
use lib.ListN.{length, get_or, take, drop, drop_of_length-le}
use lib.Seq.{drop-cons}
use Rattle.std.specs.List.{list_any}
use Rattle.std.proofs.lemmas.List.{take_rest}
use Rattle.std.proofs.lemmas.Bool.Decides.{nat_tests}
use Rattle.ledger.specs.Checks.{any_of, twice}

eqb_turned : (m n : ℕ) → eqb m n ≡ eqb n m
eqb_turned m n = grind (arith, nat_tests)

-- what `contains` answers
again : (n : ℕ) (ns : List ℕ) → list_any (λ m. eqb m n) ns ≡ any_of (eqb n) ns
unfolding any_of
again n [] = refl
again n (m ∷ ns) = rw (eqb_turned m n, again n ns)

-- the part from a place on, as the code hands it over
abbrev pub from : List ℕ → ℕ → List ℕ
from ns k = take (length ns - k) (drop k ns)

module _ (ns : List ℕ) (k : ℕ) (h : length ns ≤ k) where
  pub no_serial : drop k ns ≡ []
  no_serial = drop_of_length-le ns h

  pub twice_end : twice (drop k ns) ≡ false
  unfolding twice
  twice_end = rw (no_serial, twice)

module _ (ns : List ℕ) (k : ℕ) (h : k < length ns) where
  pub next_serial_holds : drop k ns ≡ get_or ns k 0 ∷ drop (k + 1) ns
  next_serial_holds = rw add-one (drop-cons ns k 0 h)

  abbrev again_later : Bool
  again_later = list_any (λ m. eqb m (get_or ns k 0)) (from ns (k + 1))

  later_is : {b : Bool} → again_later ≡ b → any_of (eqb (get_or ns k 0)) (drop (k + 1) ns) ≡ b
  later_is e = sym (again (get_or ns k 0) (drop (k + 1) ns)) ∙ rw (take_rest ns (k + 1)) at e

  pub twice_here : again_later ≡ true → twice (drop k ns) ≡ true
  unfolding twice
  twice_here e = rw (next_serial_holds, twice, later_is e)

  pub twice_next : again_later ≡ false → twice (drop k ns) ≡ twice (drop (k + 1) ns)
  unfolding twice
  twice_next e = rw (next_serial_holds, twice, later_is e)

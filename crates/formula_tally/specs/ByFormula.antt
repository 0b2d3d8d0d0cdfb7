-- Document 02, ask 9: "Let the tally count, for each wording, its live singles with and without the minute, each count
-- with its own contract, and then add, for each figure of ask 3, count × what one such single gives it." A wording is a
-- formula here, and a single a linear credential.
use Rattle.std.specs.Prelude.{◌≡◌, not, ℕ, zero, suc, ◌+◌, ◌*◌, ◌-◌, eqb, length}
use Rattle.logic.specs.Interval.{has}
use Rattle.logic.specs.Formula.{bit, seats, places, house_seats}
use Rattle.logic.specs.Multiset.{sum}
use Rattle.ledger.specs.declared.Credential.{Credential}
use Rattle.ledger.specs.Ledger.{Ledger, formula, by_kind}
use Rattle.ledger.specs.Calls.{open_seats, shut_seats, placed}
use Rattle.formula_tally.specs.declared.Sums.{Sums}

-- "its live singles with .. the minute": 1 for a linear credential of formula n whose interval has minute m, 0 for any
-- other credential
unfoldable pub with_of : ℕ → ℕ → Credential → ℕ
with_of m n c = by_kind c.kind (bit (has c.interval m)) 0 * bit (eqb c.formula n)

-- ".. and without the minute": 1 for one whose interval does not have it
unfoldable pub without_of : ℕ → ℕ → Credential → ℕ
without_of m n c = by_kind c.kind (bit (not (has c.interval m))) 0 * bit (eqb c.formula n)

-- The two counts of formula n, over the live credentials.
unfoldable pub singles_with : Ledger → ℕ → ℕ → ℕ
singles_with t m n = sum (with_of m n) t.live

unfoldable pub singles_without : Ledger → ℕ → ℕ → ℕ
singles_without t m n = sum (without_of m n) t.live

-- f 0 + .. + f (n - 1)
unfoldable pub sum_to : ℕ → (ℕ → ℕ) → ℕ
sum_to zero f = 0
sum_to (suc n) f = sum_to n f + f n

-- "then add, for each figure of ask 3, count × what one such single gives it". Ask 3: "Open now counts only seats whose
-- nearest ⟨K⟩ above them is principal 1, in a window that has the minute. All other seats, bare ones too, go to shut."
-- So one with the minute gives its house seats to open and its other seats to shut, one without it gives all its seats
-- to shut, and both give their places to placed.
unfoldable pub open_by : Ledger → ℕ → ℕ → ℕ
open_by t s m = sum_to (length t.lines) (λ n. singles_with t m n * house_seats s (formula t n))

unfoldable pub shut_by : Ledger → ℕ → ℕ → ℕ
shut_by t s m = sum_to (length t.lines) (λ n.
    singles_with t m n * (seats s (formula t n) - house_seats s (formula t n))
    + singles_without t m n * seats s (formula t n))

unfoldable pub placed_by : Ledger → ℕ → ℕ → ℕ
placed_by t s m = sum_to (length t.lines) (λ n.
    (singles_with t m n + singles_without t m n) * places s (formula t n))

-- "The three figures must equal those of the coupon-by-coupon sum for all tills, which stays as the definition": that
-- of ledger/specs/Calls.
pub record Equal (t : Ledger) (s m : ℕ) : Type 0 where
  pub opens : open_seats t s m ≡ open_by t s m
  pub shuts : shut_seats t s m ≡ shut_by t s m
  pub places : placed t s ≡ placed_by t s m

abbrev pub ByFormula : Type 0
ByFormula = (t : Ledger) (s m : ℕ) → Equal t s m

-- What the functions answer

-- what formula k gives to open, to open and shut, to placed
abbrev pub open_at : Ledger → ℕ → ℕ → ℕ → ℕ
open_at t s m k = singles_with t m k * house_seats s (formula t k)

abbrev pub seats_at : Ledger → ℕ → ℕ → ℕ → ℕ
seats_at t s m k = (singles_with t m k + singles_without t m k) * seats s (formula t k)

abbrev pub places_at : Ledger → ℕ → ℕ → ℕ → ℕ
places_at t s m k = (singles_with t m k + singles_without t m k) * places s (formula t k)

pub record GivenBy (t : Ledger) (s m k : ℕ) (r : Sums) : Type 0 where
  pub opens : r.«open» ≡ open_at t s m k
  pub seats : r.seats ≡ seats_at t s m k
  pub places : r.places ≡ places_at t s m k

-- what all formulas give
pub record Added (t : Ledger) (s m : ℕ) (r : Sums) : Type 0 where
  pub opens : r.«open» ≡ open_by t s m
  pub seats : r.seats ≡ open_by t s m + shut_by t s m
  pub places : r.places ≡ placed_by t s m

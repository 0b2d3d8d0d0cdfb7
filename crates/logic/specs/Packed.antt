-- Four counts of a session in a formula, in one number, a byte each: no formula of a ledger has more than 64 of
-- anything. Document 02, ask 9: what "one such single gives" to the figures of ask 3.
use Rattle.std.specs.Prelude.{true, false, ℕ, ◌+◌, ◌*◌, ◌/◌, ◌%◌}
use Rattle.logic.specs.Formula.{Formula, seats, places, house_under}

-- what counts as one of the second, the third, the fourth
abbrev pub byte : ℕ
byte = 256

abbrev pub place_unit : ℕ
place_unit = byte

abbrev pub house_unit : ℕ
house_unit = byte * place_unit

abbrev pub under_unit : ℕ
under_unit = byte * house_unit

-- Of session s in a formula: seats, places, house seats where nothing stands above the formula, and where the house
-- stands right above it.
unfoldable pub counts : ℕ → Formula → ℕ
counts s a =
    seats s a + place_unit * places s a + house_unit * house_under false s a + under_unit * house_under true s a

-- the four in a number
abbrev pub seats_in : ℕ → ℕ
seats_in n = n % byte

abbrev pub places_in : ℕ → ℕ
places_in n = n / place_unit % byte

abbrev pub house_in : ℕ → ℕ
house_in n = n / house_unit % byte

abbrev pub under_in : ℕ → ℕ
under_in n = n / under_unit

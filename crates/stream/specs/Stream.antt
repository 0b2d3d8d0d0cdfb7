-- What the state between two pieces of a stream stands for: a till, the first bytes of the sheet that has begun, and
-- the text that waits to be written.
use Rattle.std.specs.Prelude.{◌≡◌, List, [], ◌++◌, ℕ, ◌+◌, ◌*◌, ◌≤◌, ◌<◌, length, take}
use Rattle.std.specs.Borrow.{MutBor}
use Rattle.ledger.specs.Ledger.{empty}
use Rattle.store.specs.Store.{ledger_of, Good}
use Rattle.ledger.specs.Calls.{told, call, after, answers}
use Rattle.stream.specs.declared.Kiosk.{Kiosk}
use Rattle.stream.specs.declared.Place.{Place}
use Rattle.stream_sheets.specs.Sheets.{most, split, sheets_of}
use Rattle.stream_print.specs.Printed.{line, printed, longest, Room, Wrote}

-- What is lent is still the very same, so that whoever lent it finds there what the kiosk's fields hold.
abbrev pub SameLent : Kiosk → Kiosk → Type 0
SameLent k k' =
    (k'.store.ghost_name ≡ k.store.ghost_name) × (k'.rows.ghost_name ≡ k.rows.ghost_name)
    × (k'.begun.ghost_name ≡ k.begun.ghost_name) × (k'.text.ghost_name ≡ k.text.ghost_name)

-- a kiosk of a till, the bytes of a sheet, a text and a place: nothing said below speaks of where they lie, or of rows
abbrev pub lying : List ℕ → MutBor (List ℕ)
lying x = record { ref_ptr = (0, 0); ghost_name = 0; now = x }

abbrev pub of_parts : List ℕ → List ℕ → List ℕ → Place → Kiosk
of_parts l b o p = record { store = lying l; rows = lying []; begun = lying b; text = lying o; place = p }

-- the sheet b answered, and its line put after the first `at` bytes of o
pub record Said (l b o : List ℕ) (at : ℕ) (l' o' : List ℕ) (r : ℕ) : Type 0 where
  pub good : Good l'
  pub ledger : ledger_of l' ≡ (call (ledger_of l) b).ledger
  pub wrote : Wrote o at (line (told (call (ledger_of l) b).answer)) o' r
  pub short : r ≤ at + longest

-- what every function asks: a good till, whole buffers, and room for n answers
pub record Ready (k : Kiosk) (n : ℕ) : Type 0 where
  pub good : Good k.store.now
  pub begun : length k.begun.now ≡ most
  pub filled : k.place.filled ≤ most
  pub text : Room k.text.now k.place.text (longest * n)

-- the bytes b have been read and the bytes w written
pub record Stands (w : List ℕ) (k : Kiosk) (b : List ℕ) : Type 0 where
  pub ledger : ledger_of k.store.now ≡ after empty (split b).ended
  pub begun : take k.place.filled k.begun.now ≡ take most (split b).begun
  pub fresh : k.place.fresh ≡ (split b).fresh
  pub text : w ++ take k.place.text k.text.now ≡ printed (answers empty (split b).ended)

-- The bytes x were taken, whatever was read before: in which pieces a stream comes makes no difference.
pub record Took (k : Kiosk) (x : List ℕ) (k' : Kiosk) : Type 0 where
  pub ready : Ready k' 0
  pub short : k'.place.text ≤ k.place.text + longest * length x
  pub stands : (w b : List ℕ) → Stands w k b → Stands w k' (b ++ x)

-- the first n of the bytes x were taken, one at least
pub record TookSome (k : Kiosk) (x : List ℕ) (k' : Kiosk) (n : ℕ) : Type 0 where
  pub some : 0 < n
  pub inside : n ≤ length x
  pub took : Took k (take n x) k'

-- The input has ended: what has been written and what waits are the answers to its sheets.
pub record Ended (k : Kiosk) (o' : List ℕ) (r : ℕ) : Type 0 where
  pub text : Room o' r 0
  pub whole : (w b : List ℕ) → Stands w k b → w ++ take r o' ≡ printed (answers empty (sheets_of b))

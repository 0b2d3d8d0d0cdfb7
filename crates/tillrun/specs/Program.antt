-- What the program's turns leave: a till, the first bytes of the sheet that has begun, what has been read and written.
use Rattle.std.specs.Prelude.{◌≡◌, true, List, ◌++◌, ◌⊎◌, ℕ, pos, length, take}
use Rattle.ledger.specs.Ledger.{empty}
use Rattle.ledger.specs.Calls.{answers}
use Rattle.stream_print.specs.Printed.{printed}
use Rattle.stream_sheets.specs.Sheets.{split, sheets_of}
use Rattle.stream.specs.Stream.{Ready, Stands}
use Rattle.stream_console.specs.declared.Input.{Input}
use Rattle.stream_console.specs.declared.Output.{Output}
use Rattle.stream.specs.declared.Kiosk.{Kiosk}
use Rattle.store.specs.Store.{StandsFor}
use Rattle.tillrun.specs.declared.Run.{Run}
use Rattle.stream_console.specs.Console.{CameIn, WentOut, Received, Sent, Stopped}

-- An empty till, whole buffers with room for n answers, and nothing read yet.
pub record Opened (k : Kiosk) (n : ℕ) : Type 0 where
  pub empty_till : StandsFor k.store.now empty
  pub ready : Ready k n
  pub place : k.place ≡ record { filled = 0; fresh = true; text = 0 }

-- One read, and one write of what then waited. What came in is the front of the piece x', what went out the front of
-- the text.
pub record Turned (k : Kiosk) (r : Run) (k' : Kiosk) (x' : List ℕ) (r' : Run) : Type 0 where
  pub ready : Ready k' (length x')
  pub received : Received r.input x' r'.input
  pub sent : Sent r.output (take r'.output.put k'.text.now) r'.output
  pub none : k'.place.text ≡ 0
  pub stands : (w b : List ℕ) → Stands w k b
      → Stands (w ++ take r'.output.put k'.text.now) k' (b ++ take r'.input.got x')

-- The bytes b came in from standard input, and the bytes w went out to standard output.
pub record Through (b : List ℕ) (i : Input) (w : List ℕ) (u : Output) : Type 0 where
  pub from : i.from ≡ pos 0
  pub came : CameIn i b
  pub to : u.to ≡ pos 1
  pub went : WentOut u w

-- What the loop keeps.
pub record Going (k : Kiosk) (r : Run) (n : ℕ) : Type 0 where
  pub ready : Ready k n
  pub none : k.place.text ≡ 0
  pub read : List ℕ
  pub written : List ℕ
  pub through : Through read r.input written r.output
  pub stands : Stands written k read

-- The input was read until it ended, a write failed or 2^64 - 1 reads were made. What was handed over to be written are
-- the answers to all its sheets; where a write failed before the end, to those that an empty line has ended.
pub record Played (i : Input) (u : Output) : Type 0 where
  pub read : List ℕ
  pub written : List ℕ
  pub through : Through read i written u
  pub stopped : Stopped i u
  pub answered : (written ≡ printed (answers empty (sheets_of read)))
      ⊎ ((u.failed ≡ true) × (written ≡ printed (answers empty (split read).ended)))

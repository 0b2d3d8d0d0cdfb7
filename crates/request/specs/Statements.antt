-- What is proved of reading and writing requests (in proofs/).
use Rattle.std.specs.Prelude.{◌≡◌, List, ℕ, ◌≤◌, length}
use Rattle.std.proofs.Math.Option.{some}
use Rattle.request.specs.Range.{Range, ◌‥◌, max_bytes}
use Rattle.request.specs.Text.{number_in}
use Rattle.request.specs.Request.{Request}
use Rattle.request.specs.Read.{request_with, request_of}
use Rattle.request.specs.Write.{write}
use Rattle.request.specs.InRange.{InRange}

-- A written request is read again.
abbrev pub WriteRead : Type 0
WriteRead = (r : Request) → InRange r → request_of (write r) ≡ some r

-- Whatever is read is in range.
abbrev pub ReadInRange : Type 0
ReadInRange = (b : List ℕ) (r : Request) → request_of b ≡ some r → InRange r

-- A request has one spelling: bytes that read as it are those that are written.
abbrev pub ReadWrite : Type 0
ReadWrite = (b : List ℕ) (r : Request) → request_of b ≡ some r → write r ≡ b

-- A field that reads in a range reads as the same number in every wider one.
abbrev pub Wider : Type 0
Wider =
    (r s : Range) → s.first ≤ r.first → r.last ≤ s.last → (t : List ℕ) (n : ℕ) → number_in r t ≡ some n
    → number_in s t ≡ some n

-- document 01: "session .. 0 to 255"
abbrev pub session_before : Range
session_before = 0 ‥ 255

-- Document 02, ask 1: "Every sheet in use reads as before", as the same request.
abbrev pub SheetsAsBefore : Type 0
SheetsAsBefore = (b : List ℕ) (r : Request) → request_with session_before b ≡ some r → request_of b ≡ some r

-- the bytes of a booking with all its fields at their longest: 56 + 32 * 12 + 256 * 55
abbrev pub longest : ℕ
longest = 14520

-- No request is longer.
abbrev pub Longest : Type 0
Longest = (r : Request) → InRange r → length (write r) ≤ longest

-- So "a sheet has at most 16,384 bytes" stops none that is written.
abbrev pub WriteShort : Type 0
WriteShort = (r : Request) → InRange r → length (write r) ≤ max_bytes

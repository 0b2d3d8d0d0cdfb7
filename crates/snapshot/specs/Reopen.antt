-- The two calls: opening a text, and closing into a lent buffer.
use Rattle.std.specs.Prelude.{List, ◌++◌, true, false, ℕ, ltb, length, drop}
use Rattle.std.proofs.Math.Option.{Option, none, some}
use Rattle.ledger.specs.declared.Answer.{Answer}
use Rattle.ledger.specs.declared.Answer.TheVariants.{Accepted, Refused}
use Rattle.ledger.specs.Ledger.{Ledger}
use Rattle.ledger.specs.Checks.{Refusal, first}
use Rattle.ledger.specs.Calls.{Reply, reply}
use Rattle.snapshot.specs.Snapshot.{text, snapshot_of, open_checks}

-- Opening: a refusal leaves the ledger as it was; else the text's takes its place, and the answer is the text's length,
-- as closing answers it
unfoldable pub settle : Ledger → ℕ → Option Refusal → Option Ledger → Reply
settle t n (some f) o = reply (Refused f.number f.step) t
settle t n none (some u) = reply (Accepted n) u
settle t n none none = reply (Refused 50 0) t  -- does not occur: check 50 has failed

unfoldable pub reopen : Ledger → List ℕ → Reply
reopen t b = settle t (length b) (first (open_checks b)) (snapshot_of b)

-- an answer and the lent buffer after the call
pub record Closing : Type 0 where
  pub answer : Answer
  pub buffer : List ℕ

-- Closing: "closing gives 52 if the buffer is too short, the buffer then untouched"; "answers the number of bytes it
-- wrote"; "Bytes past the written text stay." The ledger is only read.
unfoldable pub close : Ledger → List ℕ → Closing
close t o = elim (ltb (length o) (length (text t))) [
  | true ↦ record { answer = Refused 52 0; buffer = o }
  | false ↦ record { answer = Accepted (length (text t)); buffer = text t ++ drop (length (text t)) o }
]

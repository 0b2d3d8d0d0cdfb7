-- What closing and opening from C leave.
use Rattle.std.specs.Prelude.{◌≡◌, List, ℕ}
use Rattle.ledger.specs.Calls.{Told, told}
use Rattle.ledger.specs.Statements.{IsAccepted}
use Rattle.snapshot.specs.Reopen.{reopen, close}
use Rattle.store.specs.Store.{ledger_of}
use Rattle.entry.specs.Entered.{numbers}
use Rattle.entry.specs.Played.{Made}

-- l: the till's block; o, o': the lent buffer before and after; n: the numbers of the answer
pub record Closed (l o n o' : List ℕ) : Type 0 where
  pub answer : n ≡ numbers (told (close (ledger_of l) o).answer)
  pub buffer : o' ≡ (close (ledger_of l) o).buffer

-- l, l': the till's block before and after, whatever it held; b: the text. An accepted text makes the block a till,
-- from which calls may begin; a refusal leaves the very same numbers.
pub record Reopened (l b n l' : List ℕ) : Type 0 where
  pub answer : n ≡ numbers (told (reopen (ledger_of l) b).answer)
  pub made : IsAccepted (told (reopen (ledger_of l) b).answer) → Made l' (reopen (ledger_of l) b).ledger
  pub same : (f k : ℕ) → told (reopen (ledger_of l) b).answer ≡ Told.no f k → l' ≡ l

-- What a call leaves: the answer and the ledger of the definition; at a refusal the very same numbers.
use Rattle.std.specs.Prelude.{◌≡◌, List, ℕ}
use Rattle.request.specs.Request.{Request}
use Rattle.ledger.specs.declared.Answer.{Answer}
use Rattle.ledger.specs.Calls.{Told, told, handle, call, told_of}
use Rattle.store.specs.Store.{ledger_of, Good}

-- of a request that has been read
pub record Handled (l : List ℕ) (r : Request) (a : Answer) (l' : List ℕ) : Type 0 where
  pub good : Good l'
  pub answer : told a ≡ told (handle (ledger_of l) r).answer
  pub ledger : ledger_of l' ≡ (handle (ledger_of l) r).ledger
  pub same : (n k : ℕ) → told a ≡ Told.no n k → l' ≡ l

-- of bytes
pub record Called (l b : List ℕ) (a : Answer) (l' : List ℕ) : Type 0 where
  pub good : Good l'
  pub answer : told a ≡ told_of (ledger_of l) b
  pub ledger : ledger_of l' ≡ (call (ledger_of l) b).ledger
  pub same : (n k : ℕ) → told a ≡ Told.no n k → l' ≡ l

-- The tally of a session at a minute: what the function answers.
use Rattle.std.specs.Prelude.{◌≡◌, List, ℕ}
use Rattle.ledger.specs.Calls.{open_seats, shut_seats, placed}
use Rattle.store.specs.Store.{ledger_of}
use Rattle.formula_tally.specs.declared.Figures.{Figures}

pub record Tallied (l : List ℕ) (s m : ℕ) (r : Figures) : Type 0 where
  pub «open» : r.«open» ≡ open_seats (ledger_of l) s m
  pub shut : r.shut ≡ shut_seats (ledger_of l) s m
  pub placed : r.placed ≡ placed (ledger_of l) s

-- Refusals and acceptance, and what is proved of them (in proofs/). Sessions.antt and Cases.antt have the sessions.
use Rattle.std.specs.Prelude.{◌≡◌, ◌↔◌, List, [], ◌∷◌, true, ℕ, ◌≤◌, ◌<◌}
use Rattle.std.proofs.Math.Option.{none, some}
use Rattle.request.specs.Request.{Line}
use Rattle.ledger.specs.Ledger.{Ledger}
use Rattle.ledger.specs.Checks.{Refusal, Check, same_line}
use Rattle.ledger.specs.Calls.{Told, ok, call, told_of}

-- every check passes
abbrev pub Pass : List Check → Type 0
Pass [] = Unit {0}
Pass (c ∷ cs) = (c ≡ none) × Pass cs

-- f is the first check that fails: those before it pass
pub data FirstFails (f : Refusal) : List Check → Type 0 where
  here : {cs : List Check} → FirstFails f (some f ∷ cs)
  later : {cs : List Check} → FirstFails f cs → FirstFails f (none ∷ cs)

-- so far so good: the checks before `rest` pass. `s ▸ e` goes past one more, which passes by e
infixl 4 ◌▸◌
pub data SoFar (all : List Check) : List Check → Type 0 where
  from_start : SoFar all all
  ◌▸◌ : {c : Check} {rest : List Check} → SoFar all (c ∷ rest) → c ≡ none → SoFar all rest

-- no refusal
abbrev pub IsAccepted : Told → Type 0
IsAccepted (ok values) = Unit {0}
IsAccepted (Told.no n k) = ⊥

-- For every ledger and all bytes: "Any refusal returns these two numbers and the till as before", the second "its step
-- (from 1) for 40 to 42, else 0".
pub record RefusalLeaves (t : Ledger) (bytes : List ℕ) (n k : ℕ) : Type 0 where
  pub same : (call t bytes).ledger ≡ t
  pub early : n < 40 → k ≡ 0
  pub late : 42 < n → k ≡ 0
  pub step : 40 ≤ n → n ≤ 42 → 1 ≤ k

abbrev pub Refusals : Type 0
Refusals = (t : Ledger) (bytes : List ℕ) (n k : ℕ) → told_of t bytes ≡ Told.no n k → RefusalLeaves t bytes n k

-- "no two lines equal": the test of 13 is equality of lines, of any numbers.
abbrev pub SameLine : Type 0
SameLine = (l m : Line) → (same_line l m ≡ true) ↔ (l ≡ m)

-- The ledger (document 01: the till) as lists: "The till holds wordings and live coupons".
use Rattle.std.specs.Prelude.{List, [], ◌∷◌, Bool, true, false, ℕ, ◌+◌, eqb, get_or}
use Rattle.std.proofs.Math.Option.{Option, none, some}
use Rattle.logic.specs.Formula.{Formula}
use Rattle.request.specs.declared.Kind.{Kind}
use Rattle.request.specs.declared.Kind.TheVariants.{Linear, Unrestricted}
use Rattle.request.specs.Request.{Line}
use Rattle.steps.specs.declared.Row.{Row}
use Rattle.steps.specs.Instance.{instance_row}
use Rattle.ledger.specs.declared.Credential.{Credential}
use Rattle.ledger.specs.Table.{nth, formulas, row_of}

-- The formula lines in order, the live credentials, and the serial that the next accepted issue or booking gives:
-- "Serials run from 1, given only by accepted calls and never given again."
pub record Ledger : Type 0 where
  pub lines : List Line
  pub live : List Credential
  pub next : ℕ

abbrev pub empty : Ledger
empty = record { lines = []; live = []; next = 1 }

-- the formula of a number, and its line as a row
abbrev pub formula : Ledger → ℕ → Formula
formula t n = nth (formulas t.lines) n

abbrev pub row : Ledger → ℕ → Row
row t n = row_of (get_or t.lines n Line.one)

-- the row of a formula's number that may have a holder in it, as the steps know formulas
abbrev pub row_for : Ledger → ℕ → Row
row_for t m = instance_row (row t) m

-- by kind: the first for a linear credential, the second for an unrestricted one
abbrev pub by_kind : {A : Type 0} → Kind → A → A → A
by_kind Linear x y = x
by_kind Unrestricted x y = y

-- the first kind is the second
abbrev pub is_kind : Kind → Kind → Bool
is_kind Linear k = by_kind k true false
is_kind Unrestricted k = by_kind k false true

-- the live credential of a serial
unfoldable pub find : List Credential → ℕ → Option Credential
find [] n = none
find (c ∷ cs) n = elim (eqb c.serial n) [ true ↦ some c | false ↦ find cs n ]

-- without it
unfoldable pub without_serial : List Credential → ℕ → List Credential
without_serial [] n = []
without_serial (c ∷ cs) n = elim (eqb c.serial n) [ true ↦ cs | false ↦ c ∷ without_serial cs n ]

abbrev pub is_none : {A : Type 0} → Option A → Bool
is_none none = true
is_none (some a) = false

abbrev pub cons_some : {A : Type 0} → Option A → List A → List A
cons_some none xs = xs
cons_some (some x) xs = x ∷ xs

-- the live credentials of the serials held, in order
unfoldable pub held : List Credential → List ℕ → List Credential
held cs [] = []
held cs (n ∷ ns) = cons_some (find cs n) (held cs ns)

-- how many of them are linear
unfoldable pub linear_count : List Credential → ℕ
linear_count [] = 0
linear_count (c ∷ cs) = by_kind c.kind 1 0 + linear_count cs

-- "removes the single-use holds"
unfoldable pub spend : List Credential → List Credential → List Credential
spend cs [] = cs
spend cs (h ∷ hs) = spend (by_kind h.kind (without_serial cs h.serial) cs) hs

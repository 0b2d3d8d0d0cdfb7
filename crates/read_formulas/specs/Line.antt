-- Lines of bytes: what the code's contracts say is read from the first line of the bytes that a reader still has. The
-- readers of a line's fields are those of the definition of a request (crate request, Read.antt).
use Rattle.std.specs.Prelude.{List, [], ◌∷◌, ℕ, ◌≤◌, eqb}
use Rattle.std.proofs.Math.Option.{Option, none, some}
use Prim.Native.String.{String}
use Rattle.logic.specs.declared.Interval.{Interval}
use Rattle.logic.specs.Interval.{span, no_interval}
use Rattle.request.specs.Range.{predicate, session, holder, minute, formula_number, ◌‥◌}
use Rattle.request.specs.Text.{bytes, same_bytes, and_then, fields, number_in}
use Rattle.request.specs.Reader.{Reader, whole}
use Rattle.request.specs.Request.{Line}
use Rattle.steps.specs.declared.Row.{Row}
use Rattle.ledger.specs.Table.{lettered, row_of}
use Rattle.logic.specs.Choice.{pick}
use Rattle.read_fields.specs.Field.{field_to}

-- the first line, and what follows its byte 10
unfoldable pub split : List ℕ → Option (List ℕ × List ℕ)
split [] = none
split (x ∷ xs) = pick (eqb x 10) (some ([], xs)) (and_then (split xs) (λ p. some (x ∷ p.0, p.1)))

-- what r reads from the fields of the first line, all of them, and the bytes after that line
unfoldable pub read_line : {A : Type 0} → Reader A → List ℕ → Option (A × List ℕ)
read_line r b = and_then (split b) (λ p. and_then (whole r (fields p.0)) (λ a. some (a, p.1)))

-- what a table has for a text, or else d
unfoldable pub lookup : {A : Type 0} → List (String × A) → A → List ℕ → A
lookup [] d t = d
lookup (e ∷ es) d t = pick (same_bytes t (bytes e.0)) e.1 (lookup es d t)

-- `from,to,first,last`, which the byte `stop` ends
unfoldable pub interval_to : ℕ → List ℕ → Option (Interval × List ℕ)
interval_to stop b =
    and_then (field_to 44 (number_in minute) b) (λ p.
    and_then (field_to 44 (number_in minute) p.1) (λ q.
    and_then (field_to 44 (number_in minute) q.1) (λ u.
    and_then (field_to stop (number_in minute) u.1) (λ v. some (span p.0 q.0 u.0 v.0, v.1)))))

-- A formula line's fields as a row, after the letter and its comma

-- a letter, a number and two intervals
abbrev pub row : ℕ → ℕ → Interval → Interval → Row
row letter a i j = record { letter = letter; a = a; b = 0; holder = 0; first = i; second = j }

-- a letter, two numbers and a holder
abbrev pub held : ℕ → ℕ → ℕ → ℕ → Row
held letter a b h =
    record { letter = letter; a = a; b = b; holder = h; first = no_interval; second = no_interval }

unfoldable pub one_field : ℕ → List ℕ → Option (Row × List ℕ)
one_field letter b = and_then (field_to 10 (number_in formula_number) b) (λ p. some (lettered letter p.0 0, p.1))

-- two numbers, from 0 to m and from 0 to n
unfoldable pub two_fields : ℕ → ℕ → ℕ → List ℕ → Option (Row × List ℕ)
two_fields letter m n b =
    and_then (field_to 44 (number_in (0 ‥ m)) b) (λ p.
    and_then (field_to 10 (number_in (0 ‥ n)) p.1) (λ q. some (lettered letter p.0 q.0, q.1)))

-- a formula's number and an interval
unfoldable pub at_fields : ℕ → List ℕ → Option (Row × List ℕ)
at_fields letter b =
    and_then (field_to 44 (number_in formula_number) b) (λ p.
    and_then (interval_to 10 p.1) (λ q. some (row letter p.0 q.0 no_interval, q.1)))

-- two intervals
unfoldable pub superset_fields : ℕ → List ℕ → Option (Row × List ℕ)
superset_fields letter b =
    and_then (interval_to 44 b) (λ p.
    and_then (interval_to 10 p.1) (λ q. some (row letter 0 p.0 q.0, q.1)))

-- a predicate, a session and a holder
unfoldable pub named_fields : ℕ → List ℕ → Option (Row × List ℕ)
named_fields letter b =
    and_then (field_to 44 (number_in predicate) b) (λ p.
    and_then (field_to 44 (number_in session) p.1) (λ q.
    and_then (field_to 10 (number_in holder) q.1) (λ u. some (held letter p.0 q.0 u.0, u.1))))

-- lines as rows
unfoldable pub rowed : Option (Line × List ℕ) → Option (Row × List ℕ)
rowed o = and_then o (λ p. some (row_of p.0, p.1))

-- what a reader of two numbers asks
pub record TwoAsked (m n : ℕ) : Type 0 where
  pub first : (9 ≤ m) × (m ≤ 99999999)
  pub second : (9 ≤ n) × (n ≤ 99999999)

-- What the code's answer says of the bytes of a request, by `request_of` (crate request, Read.antt).
use Rattle.std.specs.Prelude.{◌≡◌, List, ◌∷◌, ℕ, Option as Read, Some, None}
use Rattle.std.proofs.Math.Option.{Option, none, some}
use Prim.Native.String.{String}
use Rattle.request.specs.declared.Kind.{Kind}
use Rattle.request.specs.Range.{minute, formula_number, holds, steps}
use Rattle.request.specs.Text.{bytes, and_then, lines}
use Rattle.request.specs.Reader.{Reader, return, ◌>>=◌, whole}
use Rattle.request.specs.Request.{Line, Request, word, issue, withdraw, tally}
use Rattle.request.specs.Read.{number, interval, first_line, rest, alone, booking, Head as FirstLine}
use Rattle.request.specs.InRange.{◌in_range◌, IntervalInRange}
use Rattle.steps.specs.declared.Row.{Row}
use Rattle.ledger.specs.Table.{row_of}
use Rattle.ledger.specs.Ledger.{is_none}
use Rattle.ledger.specs.Checks.{Check, ◌if◌}
use Rattle.read_heads.specs.declared.Head.{Head}
use Rattle.read_heads.specs.declared.First.{First}
use Rattle.read_heads.specs.declared.First.TheVariants.{Word, Issue, Withdraw, Tally, Book}
use Rattle.read_formulas.specs.Line.{read_line}

-- the request that a first line and the bytes after it make
unfoldable pub request_from : Option (FirstLine × List ℕ) → Option Request
request_from o = and_then o (λ p. and_then (lines p.1) (whole (rest p.0)))

-- the fields of a first line after its word
unfoldable pub after : String → Reader FirstLine
after w ts = first_line (bytes w ∷ ts)

-- those of an issue after its kind
unfoldable pub issue_fields : Kind → Reader FirstLine
issue_fields k = do
  n ← number formula_number
  i ← interval
  return (alone (issue k n i))

-- what the lines after a booking's head say: its holds and its steps
unfoldable pub booking_from : Head → List ℕ → Option Request
booking_from h b =
    and_then (lines b) (whole (rest (booking h.now h.formula h.interval h.holds h.steps)))

pub record HeadInRange (h : Head) : Type 0 where
  pub now : h.now in_range minute
  pub formula : h.formula in_range formula_number
  pub interval : IntervalInRange h.interval
  pub holds : h.holds in_range holds
  pub steps : h.steps in_range steps

-- a formula line, as a row
pub record WordIs (q : Option Request) (x : Row) : Type 0 where
  pub line : Line
  pub reads : q ≡ some (word line)
  pub row : row_of line ≡ x

-- a booking's head: the request is what the bytes c after it say
pub record BookIs (q : Option Request) (c : List ℕ) (h : Head) : Type 0 where
  pub reads : q ≡ booking_from h c
  pub range : HeadInRange h

-- what was read of bytes whose request is q, where those of c are left
abbrev pub LineIs : Option Request → List ℕ → First → Type 0
LineIs q c (Word x) = WordIs q x
LineIs q c (Issue k n i) = q ≡ some (issue k n i)
LineIs q c (Withdraw n) = q ≡ some (withdraw n)
LineIs q c (Tally a m) = q ≡ some (tally a m)
LineIs q c (Book h) = BookIs q c h

-- what the answer says of the check 2, "form, field count, line count or a range is broken; empty": it fails, or as far
-- as the first line goes it does not
abbrev pub first_check : Read First → Check
first_check (Some f) = none
first_check None = some (record { number = 2; step = 0 })

pub record FormBroken (q : Option Request) : Type 0 where
  pub check : first_check None ≡ (2 if is_none q)

abbrev pub FirstIs : Option Request → List ℕ → Read First → Type 0
FirstIs q c (Some f) = LineIs q c f
FirstIs q c None = FormBroken q

-- the answer for the bytes b after the word w, where those of c are left
abbrev pub FirstAfter : String → List ℕ → List ℕ → Read First → Type 0
FirstAfter w b c r = FirstIs (request_from (read_line (after w) b)) c r

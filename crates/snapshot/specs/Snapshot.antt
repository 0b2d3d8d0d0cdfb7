-- The ledger as text (document 02, ask 5: "the till written as text into a lent buffer and read again"). "First line
-- `till,1,next,wordings,coupons`, then the wording lines in order, then `serial,kind,wording` and the window's fields
-- for each live coupon, serials rising." Ask 8: or `till,2`.
use Rattle.std.specs.Prelude.{◌≡◌, List, [], ◌∷◌, ◌++◌, map, Bool, true, false, ◌&&◌, ◌||◌, not, ℕ, ◌+◌, ◌*◌, eqb, leb}
use Rattle.std.specs.Prelude.{ltb, length}
use Rattle.std.proofs.Math.Option.{Option, none, some}
use Prim.Native.Char.{code}
use Rattle.logic.specs.Choice.{pick}
use Rattle.request.specs.Range.{Range, ◌‥◌, serial, next_serial, formula_number}
use Rattle.request.specs.Text.{bytes, and_then, lines}
use Rattle.request.specs.Reader.{Reader, return, ◌>>=◌, many, choose, whole, line}
use Rattle.request.specs.Request.{Line, line_intervals}
use Rattle.request.specs.Read.{number, kind, interval, formula_line}
use Rattle.request.specs.Write.{digits, joined, ended_lines, minutes, kind_field, line_fields}
use Rattle.ledger.specs.declared.Credential.{Credential}
use Rattle.ledger.specs.Table.{row_of}
use Rattle.ledger.specs.Ledger.{Ledger, is_none}
use Rattle.ledger.specs.Checks.{Check, ◌if◌, first, any_of, max_formulas, max_live, word_rules, issue_rules}
use Rattle.ledger.specs.Checks.{interval_checks}
use Rattle.snapshot.specs.declared.Edition.{Edition}
use Rattle.snapshot.specs.declared.Edition.TheVariants.{First, Second}
use Rattle.snapshot.specs.declared.Title.{Title}

-- The first line

-- the counts: "pass 200 or 512", by ask 8 2,048
abbrev pub line_count : Range
line_count = 0 ‥ max_formulas

abbrev pub live_count : Range
live_count = 0 ‥ max_live

abbrev pub title_in : Edition → Ledger → Title
title_in e t = record { edition = e; next = t.next; lines = length t.lines; live = length t.live }

-- "A till with no `n` or `q` and at most 512 live coupons is still written with `till,1`; any other is written with
-- `till,2` and otherwise the same lines."
abbrev pub max_first : ℕ
max_first = 512

-- a line of `n` or `q`, used or not, by its letter
abbrev pub holder_letter : ℕ → Bool
holder_letter c = eqb c (code "n") || eqb c (code "q")

unfoldable pub holder_line : Line → Bool
holder_line l = holder_letter (row_of l).letter

abbrev pub edition_by : Bool → ℕ → Edition
edition_by holders live = pick (holders || ltb max_first live) Second First

unfoldable pub edition_of : List Line → ℕ → Edition
edition_of ls n = edition_by (any_of holder_line ls) n

abbrev pub own_edition : Ledger → Edition
own_edition t = edition_of t.lines (length t.live)

abbrev pub title_of : Ledger → Title
title_of t = title_in (own_edition t) t

-- The writer

abbrev pub edition_field : Edition → List ℕ
edition_field First = bytes "1"
edition_field Second = bytes "2"

-- the fields after `till`
unfoldable pub edition_fields : Title → List (List ℕ)
edition_fields h = edition_field h.edition ∷ digits h.next ∷ digits h.lines ∷ digits h.live ∷ []

unfoldable pub title_fields : Title → List (List ℕ)
title_fields h = bytes "till" ∷ edition_fields h

-- `serial,kind,wording` and the window's fields
unfoldable pub credential_fields : Credential → List (List ℕ)
credential_fields c = digits c.serial ∷ kind_field c.kind ∷ digits c.formula ∷ minutes c.interval

unfoldable pub texts_in : Edition → Ledger → List (List ℕ)
texts_in e t =
    joined (title_fields (title_in e t))
    ∷ (map (λ l. joined (line_fields l)) t.lines ++ map (λ c. joined (credential_fields c)) t.live)

-- the ledger written as text
unfoldable pub text : Ledger → List ℕ
text t = ended_lines (texts_in (own_edition t) t)

-- no ledger that calls gave has a longer one: the first line, 200 formula lines and 2,048 credentials at their longest,
-- 105,384 bytes
abbrev pub longest_text : ℕ
longest_text = 24 + max_formulas * 66 + max_live * 45

-- The reader

-- `next,wordings,coupons`
unfoldable pub counts : Edition → Reader Title
counts e = do
  n ← number next_serial
  l ← number line_count
  c ← number live_count
  return (record { edition = e; next = n; lines = l; live = c })

-- by edition: another one is a row more
unfoldable pub edition : Reader Title
edition = choose (("1", counts First) ∷ ("2", counts Second) ∷ [])

unfoldable pub title_line : Reader Title
title_line = choose (("till", edition) ∷ [])

unfoldable pub credential_line : Reader Credential
credential_line = do
  s ← number serial
  k ← kind
  n ← number formula_number
  i ← interval
  return (record { serial = s; kind = k; formula = n; interval = i })

-- the lines that the first one announces
unfoldable pub body : Title → Reader (Edition × Ledger)
body h = do
  ls ← many h.lines (line formula_line)
  cs ← many h.live (line credential_line)
  return (h.edition, record { lines = ls; live = cs; next = h.next })

unfoldable pub saved_lines : Reader (Edition × Ledger)
saved_lines = do
  h ← line title_line
  body h

-- the edition and the ledger that the lines say, or none
unfoldable pub saved_of : List ℕ → Option (Edition × Ledger)
saved_of b = and_then (lines b) (whole saved_lines)

-- "with 50 for a first line that closing would not write"
abbrev pub same_edition : Edition → Edition → Bool
same_edition First First = true
same_edition First Second = false
same_edition Second First = false
same_edition Second Second = true

unfoldable pub as_written : Edition × Ledger → Option Ledger
as_written s = pick (same_edition s.0 (own_edition s.1)) (some s.1) none

-- the ledger that a text says, or none: "its form or a range is broken, its counts do not match or pass 200 or 512",
-- or its first line is not the one that closing would write
unfoldable pub snapshot_of : List ℕ → Option Ledger
snapshot_of b = and_then (saved_of b) as_written

-- The checks of a text

-- "its serials do not rise"
unfoldable pub rising : ℕ → List Credential → Bool
rising lo [] = true
rising lo (c ∷ cs) = ltb lo c.serial && rising c.serial cs

-- "a wording or coupon breaks a rule that word or issue would enforce (14, 22, 23 apart)": these are their own rows,
-- with 3 and 43 before them
abbrev pub line_rules : Ledger → Line → List Check
line_rules t l = interval_checks (line_intervals l) ++ word_rules t l

abbrev pub credential_rules : Ledger → Credential → List Check
credential_rules t c = interval_checks (c.interval ∷ []) ++ issue_rules t c.kind c.formula

abbrev pub fails : List Check → Bool
fails cs = not (is_none (first cs))

-- a ledger of formula lines alone
abbrev pub lines_only : List Line → Ledger
lines_only ls = record { lines = ls; live = []; next = 1 }

-- one of the lines breaks a rule, as word would be asked: after those before it
unfoldable pub bad_lines : List Line → List Line → Bool
bad_lines earlier [] = false
bad_lines earlier (l ∷ ls) = fails (line_rules (lines_only earlier) l) || bad_lines (earlier ++ (l ∷ [])) ls

-- a credential breaks one, "or a serial is not below next"
unfoldable pub bad_credential : Ledger → Credential → Bool
bad_credential t c = fails (credential_rules t c) || leb t.next c.serial

unfoldable pub unruly : Ledger → Bool
unruly t = bad_lines [] t.lines || any_of (bad_credential t) t.live

-- of a text that has a form
abbrev pub snapshot_checks : Option Ledger → List Check
snapshot_checks none = []
snapshot_checks (some t) =
    (50 if not (rising 0 t.live)) ∷
    (51 if unruly t) ∷ []

-- all checks of the bytes of a text: "An opened text gives 50 .., then 51 .."
unfoldable pub open_checks : List ℕ → List Check
open_checks b =
    (50 if is_none (snapshot_of b)) ∷
    snapshot_checks (snapshot_of b)

-- the text is opened, as this ledger
pub record Opens (b : List ℕ) (t : Ledger) : Type 0 where
  pub reads : snapshot_of b ≡ some t
  pub passes : first (open_checks b) ≡ none

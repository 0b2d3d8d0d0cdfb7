-- Further sessions: one for each place where document 01 is easily read otherwise (docs/DECISIONS.md has the reasons).
-- A request is given by its whole text. Those of formulas are in FormulaCases.antt, those of the steps in
-- StepCases.antt, PauseCases.antt and ConnectiveCases.antt.
use Rattle.std.specs.Prelude.{◌≡◌, List, [], ◌∷◌, ◌++◌, map, ℕ, zero, suc}
use Prim.Native.String.{String}
use Rattle.request.specs.Text.{bytes}
use Rattle.ledger.specs.Ledger.{Ledger, empty}
use Rattle.ledger.specs.Calls.{Told, ok, told, answers}
use Rattle.ledger.specs.Sessions.{of_lines}

-- a text with what it is answered
pub record Turn : Type 0 where
  pub text : List ℕ
  pub reply : Told

infix 6 ◌⇒◌
abbrev pub ◌⇒◌ : String → Told → Turn
s ⇒ r = record { text = bytes s; reply = r }

-- a request by its lines
infix 6 ◌⇛◌
abbrev pub ◌⇛◌ : List String → Told → Turn
ls ⇛ r = record { text = of_lines ls; reply = r }

abbrev pub accepted : ℕ → Told
accepted n = ok (n ∷ [])

abbrev pub refused : ℕ → Told
refused n = Told.no n 0

-- so many bytes, each of them 0
unfoldable pub many_bytes : ℕ → List ℕ
many_bytes zero = []
many_bytes (suc n) = 0 ∷ many_bytes n

-- texts one after the other, from a ledger on and from the empty one
unfoldable pub AnsweredFrom : Ledger → List Turn → Type 0
AnsweredFrom l ts = map told (answers l (map (λ t. t.text) ts)) ≡ map (λ t. t.reply) ts

unfoldable pub AllAnswered : List (List Turn) → Type 0
AllAnswered [] = Unit {0}
AllAnswered (ts ∷ more) = AnsweredFrom empty ts × AllAnswered more

-- Form: "lines ended by byte 10", "no spaces", "without leading zeros", ranges, "empty"; 2 before all else but 1: "A
-- sheet has at most 16,384 bytes." With a byte fewer or more allowed, or with 2 first, one of the last two texts would
-- be answered otherwise.
abbrev pub form : List Turn
form =
    ("" ⇒ refused 2) ∷
    ("\n" ⇒ refused 2) ∷
    ("word,o" ⇒ refused 2) ∷
    ("word,o\n\n" ⇒ refused 2) ∷
    ("word,o\r\n" ⇒ refused 2) ∷
    ("word, o\n" ⇒ refused 2) ∷
    ("word,o,\n" ⇒ refused 2) ∷
    ("word,\n" ⇒ refused 2) ∷
    ("word,a,01,7\n" ⇒ refused 2) ∷
    ("word,a,256,7\n" ⇒ refused 2) ∷
    ("word,a,99999999999999999999,7\n" ⇒ refused 2) ∷
    ("word,a,255,65536\n" ⇒ refused 2) ∷
    ("word,a,7,65543\n" ⇒ refused 2) ∷
    ("word,a,255,65535\n" ⇒ accepted 0) ∷
    ("word,s,256,0\n" ⇒ refused 2) ∷
    ("word,s,255,0\n" ⇒ accepted 1) ∷
    ("withdraw,0\n" ⇒ refused 2) ∷
    ("withdraw,1000000\n" ⇒ refused 2) ∷
    ("withdraw,999999\n" ⇒ refused 24) ∷
    ("tally,65535,9999999\n" ⇒ ok (0 ∷ 0 ∷ 0 ∷ [])) ∷
    ("tally,65536,0\n" ⇒ refused 2) ∷
    ("tally,0,10000000\n" ⇒ refused 2) ∷
    record { text = many_bytes 16384; reply = refused 2 } ∷
    record { text = many_bytes 16385; reply = refused 1 } ∷ []

-- "Checks run in this order; the first to fail answers": 2, then 3 over the whole sheet, then the table's rows for each
-- kind of sheet. Most requests fail at two rows or more, so that with these exchanged they would get another number.
abbrev pub order : List Turn
order =
    ("issue,s,1000,9,0,0,0\n" ⇒ refused 2) ∷
    ("issue,s,999,9,0,0,0\n" ⇒ refused 3) ∷
    ("issue,r,999,9,0,0,0\n" ⇒ refused 3) ∷
    ("issue,s,999,0,9,0,0\n" ⇒ refused 10) ∷
    ("issue,r,999,0,9,0,0\n" ⇒ refused 10) ∷
    ("word,h,0,5,4,0,0\n" ⇒ refused 3) ∷
    ("word,g,0,1,0,0,5,4,0,0\n" ⇒ refused 3) ∷
    ("word,h,0,4,5,0,0\n" ⇒ refused 10) ∷
    ("word,o\n" ⇒ accepted 0) ∷
    ("word,t,0,1\n" ⇒ refused 10) ∷
    ("word,o\n" ⇒ refused 13) ∷
    ("issue,s,0,0,9,0,0\n" ⇒ refused 20) ∷
    ("issue,r,0,0,9,0,0\n" ⇒ accepted 1) ∷
    -- book: 10, 20, 30, 24, each where all that come after it fail too, and the first two where they alone fail
    ("word,a,9,7\n" ⇒ accepted 1) ∷
    (("book,10,999,0,9,0,0,1,1" ∷ "hold,9" ∷ "or" ∷ []) ⇛ refused 10) ∷
    (("book,5,999,0,9,0,0,0,1" ∷ "or" ∷ []) ⇛ refused 10) ∷
    (("book,10,0,0,9,0,0,1,1" ∷ "hold,9" ∷ "or" ∷ []) ⇛ refused 20) ∷
    (("book,5,0,0,9,0,0,0,1" ∷ "or" ∷ []) ⇛ refused 20) ∷
    (("book,10,1,0,9,0,0,1,1" ∷ "hold,9" ∷ "ax,0" ∷ []) ⇛ refused 30) ∷
    (("book,5,1,0,9,0,0,1,1" ∷ "hold,9" ∷ "ax,0" ∷ []) ⇛ refused 24) ∷
    -- word: 10 before 12, with a part of size 64
    ("word,t,1,1\n" ⇒ accepted 2) ∷
    ("word,t,2,2\n" ⇒ accepted 3) ∷
    ("word,t,3,3\n" ⇒ accepted 4) ∷
    ("word,t,4,4\n" ⇒ accepted 5) ∷
    ("word,t,5,5\n" ⇒ accepted 6) ∷
    ("word,s,1,6\n" ⇒ accepted 7) ∷
    ("word,t,7,999\n" ⇒ refused 10) ∷
    ("word,t,7,1\n" ⇒ refused 12) ∷ []

-- A seat (0), a free atom (1), two principals' (2, 3); serial 1 is a seat, 2 is 1's free atom, 3 an unrestricted atom.
abbrev pub start : List Turn
start =
    ("word,a,1,7\n" ⇒ accepted 0) ∷
    ("word,a,9,7\n" ⇒ accepted 1) ∷
    ("word,s,1,1\n" ⇒ accepted 2) ∷
    ("word,s,2,1\n" ⇒ accepted 3) ∷
    ("issue,s,0,0,9,0,0\n" ⇒ accepted 1) ∷
    ("issue,s,2,0,9,0,0\n" ⇒ accepted 2) ∷
    ("issue,r,1,0,9,0,0\n" ⇒ accepted 3) ∷ []

-- "All holds pass 24 before 31 is tried"; 31 of both kinds, also with another hold between; 30 before both; a window of
-- head or step is 3, before 10 and after 2, which the last line may bring; a label out of range is 2, one never taken
-- 40; more lines than announced are 2; of lines that follow the close the first is 42.
abbrev pub bookings : List Turn
bookings =
    start ++
    (("book,5,0,0,9,0,0,3,1" ∷ "hold,1" ∷ "hold,1" ∷ "hold,9" ∷ "ax,0" ∷ []) ⇛ refused 24) ∷
    (("book,5,0,0,9,0,0,2,1" ∷ "hold,1" ∷ "hold,1" ∷ "ax,0" ∷ []) ⇛ refused 31) ∷
    (("book,5,1,0,9,0,0,2,2" ∷ "hold,3" ∷ "hold,3" ∷ "cp,0" ∷ "ax,2" ∷ []) ⇛ refused 31) ∷
    (("book,5,0,0,9,0,0,3,1" ∷ "hold,1" ∷ "hold,2" ∷ "hold,1" ∷ "ax,0" ∷ []) ⇛ refused 31) ∷
    (("book,5,0,9,0,0,0,1,1" ∷ "hold,1" ∷ "ax,0" ∷ []) ⇛ refused 3) ∷
    (("book,5,999,9,0,0,0,1,1" ∷ "hold,1" ∷ "ax,0" ∷ []) ⇛ refused 3) ∷
    (("book,5,0,9,0,0,0,1,1" ∷ "hold,1" ∷ "ax,64" ∷ []) ⇛ refused 2) ∷
    (("book,5,0,9,0,0,0,1,1" ∷ "hold,1" ∷ "ax,0" ∷ "ax,0" ∷ []) ⇛ refused 2) ∷
    (("book,5,0,0,9,0,0,1,2" ∷ "hold,1" ∷ "ll,0,0000000000000000,9,0,0,0" ∷ "ul,0,0,9,0,0" ∷ []) ⇛ refused 3) ∷
    (("book,10,0,0,9,0,0,2,1" ∷ "hold,1" ∷ "hold,9" ∷ "ax,0" ∷ []) ⇛ refused 30) ∷
    (("book,5,0,0,9,0,0,1,2" ∷ "hold,1" ∷ "ax,0" ∷ "ul,0,9,0,0,0" ∷ []) ⇛ refused 3) ∷
    (("book,5,0,0,9,0,0,1,1" ∷ "hold,1" ∷ "ax,64" ∷ []) ⇛ refused 2) ∷
    (("book,5,0,0,9,0,0,1,1" ∷ "hold,1" ∷ "ax,63" ∷ []) ⇛ Told.no 40 1) ∷
    (("book,5,0,0,9,0,0,1,1" ∷ "hold,1" ∷ "ax,0" ∷ "ax,0" ∷ []) ⇛ refused 2) ∷
    (("book,5,0,0,9,0,0,1,3" ∷ "hold,1" ∷ "ax,0" ∷ "ax,9" ∷ "ax,0" ∷ []) ⇛ Told.no 42 2) ∷
    (("book,5,2,0,9,0,0,1,2" ∷ "hold,2" ∷ "sr" ∷ "sl,0" ∷ []) ⇛ Told.no 42 3) ∷
    (("book,5,0,0,9,0,0,2,1" ∷ "hold,1" ∷ "hold,2" ∷ "ax,0" ∷ []) ⇛ Told.no 40 1) ∷
    (("book,5,3,0,9,0,0,1,4" ∷ "hold,2" ∷ "sr" ∷ "sl,0" ∷ "af" ∷ "ax,1" ∷ []) ⇛ Told.no 40 2) ∷
    (("book,5,2,0,9,0,0,1,4" ∷ "hold,2" ∷ "sr" ∷ "sl,0" ∷ "af" ∷ "ax,1" ∷ []) ⇛ accepted 4) ∷ []

-- "in a window that has the minute": both ends are in, minute 0 too where 0,0 is the break; an unrestricted credential
-- counts nothing; a part counts as often as it stands there. A booking makes the seat a place, and the credential that
-- it gave can be withdrawn.
abbrev pub tallies : List Turn
tallies =
    ("word,a,1,7\n" ⇒ accepted 0) ∷
    ("word,a,2,7\n" ⇒ accepted 1) ∷
    ("word,s,1,0\n" ⇒ accepted 2) ∷
    ("word,t,2,2\n" ⇒ accepted 3) ∷
    ("word,l,2,1\n" ⇒ accepted 4) ∷
    ("issue,r,4,0,9,0,0\n" ⇒ accepted 1) ∷
    ("issue,s,3,5,9,0,0\n" ⇒ accepted 2) ∷
    ("issue,s,1,5,9,0,0\n" ⇒ accepted 3) ∷
    ("tally,7,4\n" ⇒ ok (0 ∷ 2 ∷ 1 ∷ [])) ∷
    ("tally,7,5\n" ⇒ ok (2 ∷ 0 ∷ 1 ∷ [])) ∷
    ("tally,7,9\n" ⇒ ok (2 ∷ 0 ∷ 1 ∷ [])) ∷
    ("tally,7,10\n" ⇒ ok (0 ∷ 2 ∷ 1 ∷ [])) ∷
    ("tally,6,5\n" ⇒ ok (0 ∷ 0 ∷ 0 ∷ [])) ∷
    ("withdraw,1\n" ⇒ accepted 1) ∷
    ("withdraw,2\n" ⇒ accepted 2) ∷
    ("withdraw,2\n" ⇒ refused 24) ∷
    ("tally,7,5\n" ⇒ ok (0 ∷ 0 ∷ 1 ∷ [])) ∷
    ("issue,r,4,0,9,0,0\n" ⇒ accepted 4) ∷
    ("issue,s,2,0,9,0,0\n" ⇒ accepted 5) ∷
    ("tally,7,0\n" ⇒ ok (1 ∷ 0 ∷ 1 ∷ [])) ∷
    ("tally,7,5\n" ⇒ ok (1 ∷ 0 ∷ 1 ∷ [])) ∷
    (("book,5,1,0,9,0,0,2,7" ∷ "hold,4" ∷ "hold,5" ∷ "cp,0" ∷ "ll,2,0000000000000002,0,9,0,0" ∷ "sr" ∷ "sl,1" ∷ "af"
    ∷ "ax,3" ∷ "ax,4" ∷ []) ⇛ accepted 6) ∷
    ("tally,7,5\n" ⇒ ok (0 ∷ 0 ∷ 2 ∷ [])) ∷
    ("withdraw,6\n" ⇒ accepted 6) ∷
    ("tally,7,5\n" ⇒ ok (0 ∷ 0 ∷ 1 ∷ [])) ∷
    ("withdraw,5\n" ⇒ refused 24) ∷
    ("withdraw,4\n" ⇒ accepted 4) ∷ []

-- Document 02, ask 1, "Sessions go from 0 to 65,535": a seat of session 65,535 and one of session 255, alike in their
-- last byte, side by side. Tally tells them apart, so does what weighs alike (21), and so does `ax` (40).
abbrev pub sessions : List Turn
sessions =
    ("word,a,1,65535\n" ⇒ accepted 0) ∷
    ("word,a,1,255\n" ⇒ accepted 1) ∷
    ("word,a,2,65535\n" ⇒ accepted 2) ∷
    ("word,l,1,2\n" ⇒ accepted 3) ∷
    ("word,l,0,2\n" ⇒ accepted 4) ∷
    ("issue,r,3,0,9,0,0\n" ⇒ refused 21) ∷
    ("issue,r,4,0,9,0,0\n" ⇒ accepted 1) ∷
    ("issue,s,0,0,9,0,0\n" ⇒ accepted 2) ∷
    ("tally,65535,5\n" ⇒ ok (0 ∷ 1 ∷ 0 ∷ [])) ∷
    ("tally,255,5\n" ⇒ ok (0 ∷ 0 ∷ 0 ∷ [])) ∷
    ("issue,s,1,0,9,0,0\n" ⇒ accepted 3) ∷
    ("tally,65535,5\n" ⇒ ok (0 ∷ 1 ∷ 0 ∷ [])) ∷
    ("tally,255,5\n" ⇒ ok (0 ∷ 1 ∷ 0 ∷ [])) ∷
    ("tally,65279,5\n" ⇒ ok (0 ∷ 0 ∷ 0 ∷ [])) ∷
    (("book,5,0,0,9,0,0,1,1" ∷ "hold,3" ∷ "ax,0" ∷ []) ⇛ Told.no 40 1) ∷
    (("book,5,1,0,9,0,0,1,1" ∷ "hold,2" ∷ "ax,0" ∷ []) ⇛ Told.no 40 1) ∷
    (("book,5,2,0,9,0,0,2,4" ∷ "hold,1" ∷ "hold,2" ∷ "cp,0" ∷ "ll,2,0000000000000002,0,9,0,0" ∷ "ax,1" ∷ "ax,3"
    ∷ []) ⇛ accepted 4) ∷
    ("tally,65535,5\n" ⇒ ok (0 ∷ 0 ∷ 1 ∷ [])) ∷
    ("withdraw,3\n" ⇒ accepted 3) ∷
    ("tally,255,5\n" ⇒ ok (0 ∷ 0 ∷ 0 ∷ [])) ∷ []

-- Document 02, ask 2: "Lines of the old length break the form" (2); 3 over the whole sheet, then 43 over the whole
-- sheet, then 10; "0,0 is no break; otherwise from < first ≤ last < to". The break's fields are minutes.
abbrev pub break_order : List Turn
break_order =
    ("issue,s,0,0,9\n" ⇒ refused 2) ∷
    ("issue,s,0,0,9,00,0\n" ⇒ refused 2) ∷
    ("issue,s,0,9,0,0,10000000\n" ⇒ refused 2) ∷
    ("issue,s,0,9,0,1,2\n" ⇒ refused 3) ∷
    ("issue,s,0,0,9,0,5\n" ⇒ refused 43) ∷
    ("issue,s,0,0,9,5,0\n" ⇒ refused 43) ∷
    ("issue,s,0,0,9,5,9\n" ⇒ refused 43) ∷
    ("issue,s,0,1,9,1,5\n" ⇒ refused 43) ∷
    ("issue,s,0,0,9,5,4\n" ⇒ refused 43) ∷
    ("issue,r,0,9,0,1,2\n" ⇒ refused 3) ∷
    ("issue,r,0,0,9,5,9\n" ⇒ refused 43) ∷
    ("issue,s,0,0,9,1,8\n" ⇒ refused 10) ∷
    ("issue,r,0,0,9,1,8\n" ⇒ refused 10) ∷
    ("issue,s,0,9999997,9999999,9999998,9999998\n" ⇒ refused 10) ∷
    ("word,a,1,7\n" ⇒ accepted 0) ∷
    ("word,h,0,0,9,0,9\n" ⇒ refused 43) ∷
    ("word,g,0,9,9,9,0,9,0,0\n" ⇒ refused 43) ∷
    ("word,g,0,9,0,0,0,9,9,9\n" ⇒ refused 43) ∷
    ("word,g,0,9,9,9,5,4,0,0\n" ⇒ refused 3) ∷
    ("word,g,5,4,0,0,0,9,9,9\n" ⇒ refused 3) ∷
    ("word,h,999,0,9,0,9\n" ⇒ refused 43) ∷
    ("issue,r,0,0,9,0,9\n" ⇒ refused 43) ∷
    ("word,g,0,9,0,0,0,9\n" ⇒ refused 2) ∷
    ("word,h,0,0,9,0,0\n" ⇒ accepted 1) ∷
    ("word,h,0,0,9,4,5\n" ⇒ accepted 2) ∷
    ("word,h,0,0,9,4,5\n" ⇒ refused 13) ∷
    ("word,u,0,0\n" ⇒ accepted 3) ∷
    ("word,u,0,0\n" ⇒ refused 13) ∷
    ("issue,s,0,0,9,0,0\n" ⇒ accepted 1) ∷
    (("book,5,0,0,9,9,9,1,2" ∷ "hold,1" ∷ "ax,0" ∷ "ul,0,9,0,0,0" ∷ []) ⇛ refused 3) ∷
    (("book,5,0,0,9,0,0,1,2" ∷ "hold,1" ∷ "ax,0" ∷ "ul,0,0,9,9,9" ∷ []) ⇛ refused 43) ∷
    (("book,5,0,0,9,9,9,1,1" ∷ "hold,9" ∷ "ax,0" ∷ []) ⇛ refused 43) ∷
    (("book,5,0,0,9,9,9,1,1" ∷ "hold,1" ∷ "ax,64" ∷ []) ⇛ refused 2) ∷
    (("book,5,0,0,9,9,9,1,1" ∷ "hold,1" ∷ "ax,0" ∷ "ax,0" ∷ []) ⇛ refused 2) ∷
    (("book,5,0,0,9,0,0,1,2" ∷ "hold,1" ∷ "ax,0" ∷ "ll,0,0000000000000000,0,9,0,9" ∷ []) ⇛ refused 43) ∷
    (("book,5,9,0,9,9,9,1,1" ∷ "hold,1" ∷ "ax,0" ∷ []) ⇛ refused 43) ∷ []

-- "A window is then the set of its minutes without the break": tally at both ends of the break and beside them; now in
-- the break, at its ends too, is outside (30), and beside it is not. The goal may have a larger break or lie on one
-- side, and not over the credential's break.
abbrev pub breaks : List Turn
breaks =
    ("word,a,1,7\n" ⇒ accepted 0) ∷
    ("word,s,1,0\n" ⇒ accepted 1) ∷
    ("issue,s,1,0,99,40,59\n" ⇒ accepted 1) ∷
    ("tally,7,39\n" ⇒ ok (1 ∷ 0 ∷ 0 ∷ [])) ∷
    ("tally,7,40\n" ⇒ ok (0 ∷ 1 ∷ 0 ∷ [])) ∷
    ("tally,7,59\n" ⇒ ok (0 ∷ 1 ∷ 0 ∷ [])) ∷
    ("tally,7,60\n" ⇒ ok (1 ∷ 0 ∷ 0 ∷ [])) ∷
    (("book,50,1,0,99,40,59,1,4" ∷ "hold,1" ∷ "sr" ∷ "sl,0" ∷ "af" ∷ "ax,1" ∷ []) ⇛ refused 30) ∷
    (("book,40,1,0,99,40,59,1,1" ∷ "hold,1" ∷ "or" ∷ []) ⇛ refused 30) ∷
    (("book,59,1,0,99,40,59,1,1" ∷ "hold,1" ∷ "or" ∷ []) ⇛ refused 30) ∷
    (("book,39,1,0,99,40,59,1,1" ∷ "hold,1" ∷ "or" ∷ []) ⇛ Told.no 40 1) ∷
    (("book,60,1,0,99,40,59,1,1" ∷ "hold,1" ∷ "or" ∷ []) ⇛ Told.no 40 1) ∷
    (("book,5,1,0,99,0,0,1,4" ∷ "hold,1" ∷ "sr" ∷ "sl,0" ∷ "af" ∷ "ax,1" ∷ []) ⇛ Told.no 40 2) ∷
    (("book,5,1,0,99,41,60,1,4" ∷ "hold,1" ∷ "sr" ∷ "sl,0" ∷ "af" ∷ "ax,1" ∷ []) ⇛ Told.no 40 2) ∷
    (("book,5,1,0,99,39,58,1,4" ∷ "hold,1" ∷ "sr" ∷ "sl,0" ∷ "af" ∷ "ax,1" ∷ []) ⇛ Told.no 40 2) ∷
    (("book,5,1,0,40,0,0,1,4" ∷ "hold,1" ∷ "sr" ∷ "sl,0" ∷ "af" ∷ "ax,1" ∷ []) ⇛ Told.no 40 2) ∷
    (("book,60,1,59,99,0,0,1,4" ∷ "hold,1" ∷ "sr" ∷ "sl,0" ∷ "af" ∷ "ax,1" ∷ []) ⇛ Told.no 40 2) ∷
    (("book,5,1,0,99,30,70,1,4" ∷ "hold,1" ∷ "sr" ∷ "sl,0" ∷ "af" ∷ "ax,1" ∷ []) ⇛ accepted 2) ∷
    ("tally,7,30\n" ⇒ ok (0 ∷ 1 ∷ 0 ∷ [])) ∷
    (("book,5,1,0,29,0,0,1,4" ∷ "hold,2" ∷ "sr" ∷ "sl,0" ∷ "af" ∷ "ax,1" ∷ []) ⇛ accepted 3) ∷ []

-- Document 02, ask 3: "Open now counts only seats whose nearest ⟨K⟩ above them is principal 1, in a window that has the
-- minute. All other seats, bare ones too, go to shut." One credential more before each tally: seat, ⟨1⟩seat, ⟨2⟩seat,
-- ⟨1⟩⟨2⟩seat, ⟨2⟩⟨1⟩seat, ⟨1⟩⟨1⟩seat, ⟨1⟩(seat ⊗ ⟨2⟩seat), ⟨1⟩seat ⊗ seat, ⟨1⟩(seat ⊗ seat), ⟨0⟩seat, ⟨255⟩seat,
-- ⟨1⟩place, ⟨2⟩place, ⟨1⟩seat of session 6 and of session 65,535, an unrestricted ⟨1⟩seat ⊸ ⟨1⟩seat. Then the break,
-- the minutes before it and past the interval; a host's token ⟨2⟩seat booked and withdrawn; a bare seat booked as
-- ⟨1⟩seat and withdrawn: no seat is lost, and two leave.
abbrev pub houses : List Turn
houses =
    ("word,a,1,7\n" ⇒ accepted 0) ∷
    ("word,s,1,0\n" ⇒ accepted 1) ∷
    ("word,s,2,0\n" ⇒ accepted 2) ∷
    ("word,s,1,2\n" ⇒ accepted 3) ∷
    ("word,s,2,1\n" ⇒ accepted 4) ∷
    ("word,s,1,1\n" ⇒ accepted 5) ∷
    ("word,t,0,2\n" ⇒ accepted 6) ∷
    ("word,s,1,6\n" ⇒ accepted 7) ∷
    ("word,t,1,0\n" ⇒ accepted 8) ∷
    ("word,t,0,0\n" ⇒ accepted 9) ∷
    ("word,s,1,9\n" ⇒ accepted 10) ∷
    ("word,s,0,0\n" ⇒ accepted 11) ∷
    ("word,s,255,0\n" ⇒ accepted 12) ∷
    ("word,a,2,7\n" ⇒ accepted 13) ∷
    ("word,s,1,13\n" ⇒ accepted 14) ∷
    ("word,s,2,13\n" ⇒ accepted 15) ∷
    ("word,a,1,6\n" ⇒ accepted 16) ∷
    ("word,s,1,16\n" ⇒ accepted 17) ∷
    ("word,a,1,65535\n" ⇒ accepted 18) ∷
    ("word,s,1,18\n" ⇒ accepted 19) ∷
    ("word,l,1,1\n" ⇒ accepted 20) ∷
    ("issue,s,0,0,99,40,59\n" ⇒ accepted 1) ∷
    ("tally,7,5\n" ⇒ ok (0 ∷ 1 ∷ 0 ∷ [])) ∷
    ("issue,s,1,0,99,40,59\n" ⇒ accepted 2) ∷
    ("tally,7,5\n" ⇒ ok (1 ∷ 1 ∷ 0 ∷ [])) ∷
    ("issue,s,2,0,99,40,59\n" ⇒ accepted 3) ∷
    ("tally,7,5\n" ⇒ ok (1 ∷ 2 ∷ 0 ∷ [])) ∷
    ("issue,s,3,0,99,40,59\n" ⇒ accepted 4) ∷
    ("tally,7,5\n" ⇒ ok (1 ∷ 3 ∷ 0 ∷ [])) ∷
    ("issue,s,4,0,99,40,59\n" ⇒ accepted 5) ∷
    ("tally,7,5\n" ⇒ ok (2 ∷ 3 ∷ 0 ∷ [])) ∷
    ("issue,s,5,0,99,40,59\n" ⇒ accepted 6) ∷
    ("tally,7,5\n" ⇒ ok (3 ∷ 3 ∷ 0 ∷ [])) ∷
    ("issue,s,7,0,99,40,59\n" ⇒ accepted 7) ∷
    ("tally,7,5\n" ⇒ ok (4 ∷ 4 ∷ 0 ∷ [])) ∷
    ("issue,s,8,0,99,40,59\n" ⇒ accepted 8) ∷
    ("tally,7,5\n" ⇒ ok (5 ∷ 5 ∷ 0 ∷ [])) ∷
    ("issue,s,10,0,99,40,59\n" ⇒ accepted 9) ∷
    ("tally,7,5\n" ⇒ ok (7 ∷ 5 ∷ 0 ∷ [])) ∷
    ("issue,s,11,0,99,40,59\n" ⇒ accepted 10) ∷
    ("tally,7,5\n" ⇒ ok (7 ∷ 6 ∷ 0 ∷ [])) ∷
    ("issue,s,12,0,99,40,59\n" ⇒ accepted 11) ∷
    ("tally,7,5\n" ⇒ ok (7 ∷ 7 ∷ 0 ∷ [])) ∷
    ("issue,s,14,0,99,40,59\n" ⇒ accepted 12) ∷
    ("tally,7,5\n" ⇒ ok (7 ∷ 7 ∷ 1 ∷ [])) ∷
    ("issue,s,15,0,99,40,59\n" ⇒ accepted 13) ∷
    ("tally,7,5\n" ⇒ ok (7 ∷ 7 ∷ 2 ∷ [])) ∷
    ("issue,s,17,0,99,40,59\n" ⇒ accepted 14) ∷
    ("tally,7,5\n" ⇒ ok (7 ∷ 7 ∷ 2 ∷ [])) ∷
    ("issue,s,19,0,99,40,59\n" ⇒ accepted 15) ∷
    ("tally,7,5\n" ⇒ ok (7 ∷ 7 ∷ 2 ∷ [])) ∷
    ("issue,r,20,0,99,40,59\n" ⇒ accepted 16) ∷
    ("tally,7,5\n" ⇒ ok (7 ∷ 7 ∷ 2 ∷ [])) ∷
    ("tally,7,39\n" ⇒ ok (7 ∷ 7 ∷ 2 ∷ [])) ∷
    ("tally,7,40\n" ⇒ ok (0 ∷ 14 ∷ 2 ∷ [])) ∷
    ("tally,7,100\n" ⇒ ok (0 ∷ 14 ∷ 2 ∷ [])) ∷
    ("tally,6,5\n" ⇒ ok (1 ∷ 0 ∷ 0 ∷ [])) ∷
    ("tally,65535,5\n" ⇒ ok (1 ∷ 0 ∷ 0 ∷ [])) ∷
    (("book,5,2,0,99,40,59,1,4" ∷ "hold,3" ∷ "sr" ∷ "sl,0" ∷ "af" ∷ "ax,1" ∷ []) ⇛ accepted 17) ∷
    ("tally,7,5\n" ⇒ ok (7 ∷ 7 ∷ 2 ∷ [])) ∷
    ("withdraw,17\n" ⇒ accepted 17) ∷
    ("tally,7,5\n" ⇒ ok (7 ∷ 6 ∷ 2 ∷ [])) ∷
    (("book,5,1,0,99,40,59,1,3" ∷ "hold,1" ∷ "sr" ∷ "af" ∷ "ax,0" ∷ []) ⇛ accepted 18) ∷
    ("tally,7,5\n" ⇒ ok (8 ∷ 5 ∷ 2 ∷ [])) ∷
    ("withdraw,18\n" ⇒ accepted 18) ∷
    ("tally,7,5\n" ⇒ ok (7 ∷ 5 ∷ 2 ∷ [])) ∷ []

abbrev pub cases : List (List Turn)
cases = form ∷ order ∷ bookings ∷ tallies ∷ sessions ∷ break_order ∷ breaks ∷ houses ∷ []

abbrev pub CasesPlay : Type 0
CasesPlay = AllAnswered cases

-- Sessions of closing and opening: M1's texts byte by byte, the booking played from one of them, and one text for each
-- place where document 02 is easily read otherwise. A text is given by its lines, or by its bytes.
use Rattle.std.specs.Prelude.{◌≡◌, List, [], ◌∷◌, ◌++◌, map, ℕ, zero, suc, ◌+◌}
use Prim.Native.String.{String}
use Rattle.request.specs.Text.{bytes}
use Rattle.request.specs.Write.{digits}
use Rattle.request.specs.Ends.{Ends}
use Rattle.ledger.specs.Ledger.{Ledger, empty}
use Rattle.ledger.specs.Calls.{Told, ok, told, after}
use Rattle.ledger.specs.Sessions.{of_lines, each, words, second, m1_booking}
use Rattle.ledger.specs.Cases.{Turn, ◌⇒◌, ◌⇛◌, accepted, refused, AnsweredFrom}
use Rattle.snapshot.specs.Snapshot.{line_count, live_count, text}
use Rattle.snapshot.specs.Reopen.{reopen, close}

-- M1: its ledger before and after the booking

abbrev pub before_booking : List (List String)
before_booking = words ++ each ("issue,r,7,0,9999,0,0" ∷ second ∷ "issue,s,4,0,600,0,0" ∷ [])

abbrev pub m1_lines : List String
m1_lines = "a,1,7" ∷ "a,2,7" ∷ "a,9,7" ∷ "s,1,0" ∷ "s,2,2" ∷ "s,1,1" ∷ "t,3,4" ∷ "l,6,5" ∷ []

abbrev pub before_text : List ℕ
before_text =
    of_lines ("till,1,4,8,3" ∷ m1_lines ++ ("1,r,7,0,9999,0,0" ∷ "2,s,3,0,600,0,0" ∷ "3,s,4,0,600,0,0" ∷ []))

abbrev pub after_text : List ℕ
after_text = of_lines ("till,1,5,8,2" ∷ m1_lines ++ ("1,r,7,0,9999,0,0" ∷ "4,s,5,540,600,0,0" ∷ []))

abbrev pub reopened : List ℕ → Ledger
reopened b = (reopen empty b).ledger

abbrev pub played_on : Ledger → List (List String) → Ledger
played_on t rs = after t (map of_lines rs)

-- the booking and a tally before and after it, from the text that was opened
abbrev pub m1_turns : List Turn
m1_turns =
    (("tally,7,540" ∷ []) ⇛ ok (1 ∷ 0 ∷ 0 ∷ [])) ∷
    (m1_booking ⇛ accepted 4) ∷
    (("tally,7,540" ∷ []) ⇛ ok (0 ∷ 0 ∷ 1 ∷ [])) ∷ []

pub record M1Texts : Type 0 where
  pub before : text (played_on empty before_booking) ≡ before_text
  pub after : text (played_on empty (before_booking ++ (m1_booking ∷ []))) ≡ after_text
  pub opened : AnsweredFrom (reopened before_text) m1_turns
  pub closed : text (played_on (reopened before_text) (m1_booking ∷ [])) ≡ after_text
  -- "After M1, the same booking": also from its text
  pub again : AnsweredFrom (reopened after_text) ((m1_booking ⇛ refused 24) ∷ [])

-- texts, each opened upon the empty ledger, and what is answered
abbrev pub OpenedAs : List Turn → Type 0
OpenedAs ts = map (λ t. told (reopen empty t.text).answer) ts ≡ map (λ t. t.reply) ts

-- Form, ranges and counts: 50. `till,1,1,0,0` is the empty ledger's text; "next is the next serial, 1 to 1,000,000".
abbrev pub forms : List Turn
forms =
    ("till,1,1,0,0\n" ⇒ accepted 13) ∷
    ("till,1,1000000,0,0\n" ⇒ accepted 19) ∷
    ("" ⇒ refused 50) ∷
    ("\n" ⇒ refused 50) ∷
    ("till,1,1,0,0" ⇒ refused 50) ∷
    ("till,1,1,0,0\r\n" ⇒ refused 50) ∷
    ("till,1,1,0,0\n\n" ⇒ refused 50) ∷
    ("till,1,1,0,0,0\n" ⇒ refused 50) ∷
    ("till,1,1,0\n" ⇒ refused 50) ∷
    ("till,2,1,0,0\n" ⇒ refused 50) ∷
    ("till,0,1,0,0\n" ⇒ refused 50) ∷
    ("till,3,1,0,0\n" ⇒ refused 50) ∷
    ("till,01,1,0,0\n" ⇒ refused 50) ∷
    ("book,1,1,0,0\n" ⇒ refused 50) ∷
    ("till,1,01,0,0\n" ⇒ refused 50) ∷
    ("till,1,0,0,0\n" ⇒ refused 50) ∷
    ("till,1,1000001,0,0\n" ⇒ refused 50) ∷
    ("till,1,1,201,0\n" ⇒ refused 50) ∷
    ("till,1,1,0,2049\n" ⇒ refused 50) ∷
    ("till,1,1,1,0\n" ⇒ refused 50) ∷
    ("till,1,1,0,0\no\n" ⇒ refused 50) ∷
    ("till,1,1,1,0\nword,o\n" ⇒ refused 50) ∷
    ("till,1,1,2,0\no\nb,1000\n" ⇒ refused 50) ∷
    ("till,1,1,1,0\no\n" ⇒ accepted 15) ∷ []

-- a formula line and this credential, and another one after it
abbrev pub one : String → List String
one c = "till,1,3,1,1" ∷ "a,9,7" ∷ c ∷ []

abbrev pub two : String → List String
two c = "till,1,3,1,2" ∷ "a,9,7" ∷ c ∷ "2,s,0,0,9,0,0" ∷ []

-- The lines of credentials: 50 for form and ranges, and for serials that do not rise. A break is written as in a sheet,
-- its first minute before its last.
abbrev pub credentials : List Turn
credentials =
    (one "2,s,0,0,9,0,0" ⇛ accepted 33) ∷
    (one "2,s,0,0,9,4,5" ⇛ accepted 33) ∷
    (one "2,x,0,0,9,0,0" ⇛ refused 50) ∷
    (one "2,s,0,0,9" ⇛ refused 50) ∷
    (one "02,s,0,0,9,0,0" ⇛ refused 50) ∷
    (one "0,s,0,0,9,0,0" ⇛ refused 50) ∷
    (one "1000000,s,0,0,9,0,0" ⇛ refused 50) ∷
    (one "2,s,1000,0,9,0,0" ⇛ refused 50) ∷
    (one "2,s,0,0,10000000,0,0" ⇛ refused 50) ∷
    (two "1,s,0,0,9,0,0" ⇛ accepted 47) ∷
    (two "2,s,0,0,9,0,0" ⇛ refused 50) ∷
    (two "3,s,0,0,9,0,0" ⇛ refused 50) ∷ []

-- Rules that word and issue enforce: 51. A formula line is asked after those before it, a credential at all of them;
-- from > to and a bad break are in form; 50 over the whole text comes before 51.
abbrev pub rules : List Turn
rules =
    (one "3,s,0,0,9,0,0" ⇛ refused 51) ∷
    (one "2,s,1,0,9,0,0" ⇛ refused 51) ∷
    (one "2,s,999,0,9,0,0" ⇛ refused 51) ∷
    (one "2,s,0,9,0,0,0" ⇛ refused 51) ∷
    (one "2,s,0,0,9,0,9" ⇛ refused 51) ∷
    (one "2,s,0,0,9,5,4" ⇛ refused 51) ∷
    (("till,1,3,1,1" ∷ "o" ∷ "2,s,0,0,9,0,0" ∷ []) ⇛ refused 51) ∷
    (("till,1,3,1,1" ∷ "o" ∷ "2,r,0,0,9,0,0" ∷ []) ⇛ accepted 29) ∷
    (("till,1,3,1,1" ∷ "a,1,7" ∷ "2,r,0,0,9,0,0" ∷ []) ⇛ refused 51) ∷
    (("till,1,1,2,0" ∷ "b,1" ∷ "o" ∷ []) ⇛ refused 51) ∷
    (("till,1,1,2,0" ∷ "o" ∷ "b,1" ∷ []) ⇛ refused 51) ∷
    (("till,1,1,2,0" ∷ "o" ∷ "b,0" ∷ []) ⇛ accepted 19) ∷
    (("till,1,1,2,0" ∷ "o" ∷ "b,999" ∷ []) ⇛ refused 51) ∷
    (("till,1,1,2,0" ∷ "o" ∷ "o" ∷ []) ⇛ refused 51) ∷
    (("till,1,1,2,0" ∷ "o" ∷ "h,0,9,0,0,0" ∷ []) ⇛ refused 51) ∷
    (("till,1,1,2,0" ∷ "o" ∷ "h,0,0,9,5,4" ∷ []) ⇛ refused 51) ∷
    (("till,1,1,2,0" ∷ "o" ∷ "h,0,0,9,4,5" ∷ []) ⇛ accepted 27) ∷
    (("till,1,1,1,0" ∷ "g,0,9,0,0,3,4,4,4" ∷ []) ⇛ refused 51) ∷
    (("till,1,1,7,0" ∷ "a,9,7" ∷ "t,0,0" ∷ "t,1,1" ∷ "t,2,2" ∷ "t,3,3" ∷ "t,4,4" ∷ "s,1,5" ∷ []) ⇛ accepted 55) ∷
    (("till,1,1,7,0" ∷ "a,9,7" ∷ "t,0,0" ∷ "t,1,1" ∷ "t,2,2" ∷ "t,3,3" ∷ "t,4,4" ∷ "t,5,0" ∷ []) ⇛ refused 51) ∷
    (("till,1,2,2,1" ∷ "b,1" ∷ "o" ∷ "2,x,0,0,9,0,0" ∷ []) ⇛ refused 50) ∷
    (("till,1,1,1,0" ∷ "b,1" ∷ "o" ∷ []) ⇛ refused 50) ∷
    (("till,1,1,2,0" ∷ "g,9,0,0,0,0,9,0,0" ∷ "x" ∷ []) ⇛ refused 50) ∷
    (("till,1,2,2,2" ∷ "o" ∷ "o" ∷ "1,r,0,0,9,0,0" ∷ "1,r,0,0,9,0,0" ∷ []) ⇛ refused 50) ∷ []

-- Document 02, ask 7: lines `n` and `q` are in form; 53 of a word or an issue is a rule that these enforce (51), after
-- the lines before it.
abbrev pub holders : List Turn
holders =
    (("till,2,3,3,1" ∷ "n,2,7,0" ∷ "q,0" ∷ "n,2,7,65535" ∷ "2,s,2,0,9,0,0" ∷ []) ⇛ accepted 51) ∷
    (("till,2,3,1,0" ∷ "n,2,7,65536" ∷ []) ⇛ refused 50) ∷
    (("till,2,3,1,0" ∷ "n,2,7" ∷ []) ⇛ refused 50) ∷
    (("till,2,3,3,0" ∷ "n,2,7,0" ∷ "q,0" ∷ "q,1" ∷ []) ⇛ refused 51) ∷
    (("till,2,3,3,0" ∷ "n,2,7,0" ∷ "q,0" ∷ "t,1,1" ∷ []) ⇛ accepted 31) ∷
    (("till,2,3,2,0" ∷ "q,1" ∷ "n,2,7,0" ∷ []) ⇛ refused 51) ∷
    (("till,2,3,1,1" ∷ "n,2,7,0" ∷ "2,s,0,0,9,0,0" ∷ []) ⇛ refused 51) ∷
    (("till,2,3,1,1" ∷ "n,9,7,0" ∷ "2,r,0,0,9,0,0" ∷ []) ⇛ refused 51) ∷
    (("till,2,3,2,1" ∷ "n,9,7,0" ∷ "q,0" ∷ "2,s,1,0,9,0,0" ∷ []) ⇛ refused 51) ∷
    (("till,2,3,2,1" ∷ "n,9,7,0" ∷ "q,0" ∷ "2,r,1,0,9,0,0" ∷ []) ⇛ accepted 39) ∷ []

-- Ask 8: "A till with no `n` or `q` and at most 512 live coupons is still written with `till,1`; any other is written
-- with `till,2`", used or not; "50 for a first line that closing would not write", also before a rule that is broken.
abbrev pub editions : List Turn
editions =
    (("till,1,1,0,0" ∷ []) ⇛ accepted 13) ∷
    (("till,2,1,0,0" ∷ []) ⇛ refused 50) ∷
    (("till,2,2,1,1" ∷ "a,9,7" ∷ "1,s,0,0,9,0,0" ∷ []) ⇛ refused 50) ∷
    (("till,2,1,1,0" ∷ "n,9,7,5" ∷ []) ⇛ accepted 21) ∷
    (("till,1,1,1,0" ∷ "n,9,7,5" ∷ []) ⇛ refused 50) ∷
    (("till,2,1,2,0" ∷ "o" ∷ "q,0" ∷ []) ⇛ accepted 19) ∷
    (("till,1,1,2,0" ∷ "o" ∷ "q,0" ∷ []) ⇛ refused 50) ∷
    (("till,2,1,3,0" ∷ "n,9,7,5" ∷ "o" ∷ "b,1" ∷ []) ⇛ accepted 27) ∷
    (("till,1,1,3,0" ∷ "o" ∷ "b,0" ∷ "n,9,7,0" ∷ []) ⇛ refused 50) ∷
    (("till,2,1,1,0" ∷ "q,5" ∷ []) ⇛ refused 51) ∷
    (("till,1,1,1,0" ∷ "q,5" ∷ []) ⇛ refused 50) ∷
    (("till,2,1,1,0" ∷ "b,5" ∷ []) ⇛ refused 50) ∷
    (("till,1,1,1,0" ∷ "b,5" ∷ []) ⇛ refused 51) ∷
    (("till,0,1,1,0" ∷ "n,9,7,5" ∷ []) ⇛ refused 50) ∷
    (("till,3,1,1,0" ∷ "n,9,7,5" ∷ []) ⇛ refused 50) ∷
    (("till,02,1,1,0" ∷ "n,9,7,5" ∷ []) ⇛ refused 50) ∷
    (("till,21,1,0" ∷ "n,9,7,5" ∷ []) ⇛ refused 50) ∷
    (("till,1,1,2,0" ∷ "n,9,7,5" ∷ "g,9,0,0,0,0,9,0,0" ∷ []) ⇛ refused 50) ∷
    (("till,1,2,2,1" ∷ "n,9,7,5" ∷ "o" ∷ "1,s,1,0,9,0,0" ∷ []) ⇛ refused 50) ∷
    (("till,2" ∷ "n,9,7,5" ∷ []) ⇛ refused 50) ∷ []

pub record TextsOpen : Type 0 where
  -- "its counts .. pass 200 or 512", by ask 8 2,048
  pub line_counts : Ends line_count "0" "200" "-" "201"
  pub live_counts : Ends live_count "0" "2048" "-" "2049"
  pub forms : OpenedAs forms
  pub credentials : OpenedAs credentials
  pub rules : OpenedAs rules
  pub holders : OpenedAs holders
  pub editions : OpenedAs editions

-- n lines of coupons from serial k on, each with the same text after its serial
unfoldable pub coupons : String → ℕ → ℕ → List ℕ
coupons more zero k = []
coupons more (suc n) k = digits k ++ bytes more ++ coupons more n (suc k)

abbrev pub singles : ℕ → ℕ → List ℕ
singles n k = coupons ",s,0,0,9,0,0\n" n k

-- A free atom and n single-use coupons from serial 1 on, after a first line: 512 are the first edition's, and one more
-- makes it the second. The other edition is 50, also where next is not above the serials (51).
abbrev pub bulk : String → ℕ → List ℕ
bulk first n = bytes first ++ bytes "\na,9,7\n" ++ singles n 1

abbrev pub opening : List ℕ → Told
opening b = told (reopen empty b).answer

pub record EditionsOpen : Type 0 where
  pub few : opening (bulk "till,1,513,1,512" 512) ≡ accepted 8107
  pub many : opening (bulk "till,2,514,1,513" 513) ≡ accepted 8123
  pub few_second : opening (bulk "till,2,513,1,512" 512) ≡ refused 50
  pub many_first : opening (bulk "till,1,514,1,513" 513) ≡ refused 50
  pub few_late : opening (bulk "till,1,1,1,512" 512) ≡ refused 51
  pub few_late_second : opening (bulk "till,2,1,1,512" 512) ≡ refused 50
  pub many_late_first : opening (bulk "till,1,1,1,513" 513) ≡ refused 50
  pub standing : opening (bulk "till,2,514,1,513" 512 ++ bytes "513,r,0,0,9,0,0\n") ≡ accepted 8123

-- After serial 999,999 was given: "(14, 22, 23 apart)", so the text is opened, and 23 comes with the next issue,
-- where 53 does not come before it.
abbrev pub last_serial : List ℕ
last_serial = of_lines ("till,2,1000000,2,1" ∷ "a,2,7" ∷ "n,2,7,0" ∷ "999999,s,0,0,9,0,0" ∷ [])

abbrev pub last_turns : List Turn
last_turns =
    ("tally,7,5\n" ⇒ ok (0 ∷ 0 ∷ 1 ∷ [])) ∷
    ("issue,s,0,0,9,0,0\n" ⇒ refused 23) ∷
    ("issue,s,1,0,9,0,0\n" ⇒ refused 53) ∷
    ("withdraw,999999\n" ⇒ accepted 999999) ∷
    ("issue,s,0,0,9,0,0\n" ⇒ refused 23) ∷ []

-- A ledger with a break in a formula and in a credential, and its text: "break first and break last, after from and
-- to". Written the other way round the text would be another; read the other way round the break would be none (51).
abbrev pub paused_calls : List (List String)
paused_calls = each ("word,a,9,7" ∷ "word,h,0,0,9,4,5" ∷ "issue,s,0,0,9,4,5" ∷ [])

abbrev pub paused_text : List ℕ
paused_text = of_lines ("till,1,2,2,1" ∷ "a,9,7" ∷ "h,0,0,9,4,5" ∷ "1,s,0,0,9,4,5" ∷ [])

-- Document 02, ask 7: lines `n` and `q` as they are written
abbrev pub holder_text : List String
holder_text = "n,9,65535,65535" ∷ "n,1,7,0" ∷ "q,1" ∷ "t,2,0" ∷ []

abbrev pub holder_words : List String
holder_words = "word,n,9,65535,65535" ∷ "word,n,1,7,0" ∷ "word,q,1" ∷ "word,t,2,0" ∷ []

-- the empty ledger, closed into a buffer of these bytes: what is told, and the buffer after
abbrev pub closed_into : String → Told × List ℕ
closed_into o = (told (close empty (bytes o)).answer, (close empty (bytes o)).buffer)

pub record Closings : Type 0 where
  -- one byte too short, just long enough, and longer
  pub short : closed_into "abcdefghijkl" ≡ (refused 52, bytes "abcdefghijkl")
  pub none : closed_into "" ≡ (refused 52, [])
  pub fits : closed_into "abcdefghijklm" ≡ (accepted 13, bytes "till,1,1,0,0\n")
  pub past : closed_into "abcdefghijklmnopqr" ≡ (accepted 13, bytes "till,1,1,0,0\nnopqr")
  pub paused : text (played_on empty paused_calls) ≡ paused_text
  -- a text that is read and refused (51) leaves the ledger
  pub left : (reopen (reopened last_serial) (of_lines (one "3,s,0,0,9,0,0"))).ledger ≡ reopened last_serial
  pub last : AnsweredFrom (reopened last_serial) last_turns
  pub holders : text (played_on empty (each holder_words)) ≡ of_lines ("till,2,1,4,0" ∷ holder_text)
  -- ask 8: one `n` or one `q`, first or last, used or not, makes it `till,2`
  pub named : text (played_on empty (each ("word,o" ∷ "word,n,9,7,5" ∷ [])))
      ≡ of_lines ("till,2,1,2,0" ∷ "o" ∷ "n,9,7,5" ∷ [])
  pub every : text (played_on empty (each ("word,o" ∷ "word,q,0" ∷ []))) ≡ of_lines ("till,2,1,2,0" ∷ "o" ∷ "q,0" ∷ [])
  pub first : text (played_on empty (each ("word,n,9,7,5" ∷ "word,o" ∷ [])))
      ≡ of_lines ("till,2,1,2,0" ∷ "n,9,7,5" ∷ "o" ∷ [])

-- The sessions of a big hall (document 02, ask 8): "A big hall has more seats than 512. Up to 2,048 live coupons are
-- allowed; 22, opening and M10 go by that." They are long, so they stand apart from what they are sessions of. All but
-- M10 begin at a text that is opened: reading 2,048 coupons is far less to compute than issuing them. So does the
-- session of the panel (ask 9), which has 200 wordings.
use Rattle.std.specs.Prelude.{◌≡◌, List, [], ◌∷◌, ◌++◌, ℕ, zero, suc}
use Prim.Native.String.{String}
use Rattle.request.specs.Text.{bytes}
use Rattle.request.specs.Write.{digits}
use Rattle.ledger.specs.Ledger.{empty}
use Rattle.ledger.specs.Calls.{Reply, Told, ok, told}
use Rattle.ledger.specs.Sessions.{Session, Plays, of_lines, each, oks, times, words}
use Rattle.ledger.specs.Cases.{Turn, ◌⇒◌, ◌⇛◌, accepted, refused, AnsweredFrom}
use Rattle.snapshot.specs.Snapshot.{text}
use Rattle.snapshot.specs.Reopen.{reopen}
use Rattle.snapshot.specs.Cases.{reopened, played_on, opening, coupons, singles, bulk}

-- n numbers from k on
unfoldable pub counting : ℕ → ℕ → List ℕ
counting zero k = []
counting (suc n) k = k ∷ counting n (suc k)

-- Document 01: "M1's words, `issue,r,2,0,9`, then 511 times `issue,s,2,0,9`: `book,0,2,0,9,1,1` with hold 2 and step
-- `ax,0` gives ok,513; then `book,0,2,0,9,1,2` with hold 1 and steps `cp,0` `ax,1` gives no,22,0." M10 goes by 2,048:
-- 2,047 times, and ok,2049.
abbrev pub M10 : Session
M10 = record {
  requests =
      words ++ each ("issue,r,2,0,9,0,0" ∷ times 2047 "issue,s,2,0,9,0,0")
      ++ (("book,0,2,0,9,0,0,1,1" ∷ "hold,2" ∷ "ax,0" ∷ []) ∷
      ("book,0,2,0,9,0,0,1,2" ∷ "hold,1" ∷ "cp,0" ∷ "ax,1" ∷ []) ∷ []);
  replies =
      oks (0 ∷ 1 ∷ 2 ∷ 3 ∷ 4 ∷ 5 ∷ 6 ∷ 7 ∷ counting 2049 1) ++ (Told.no 22 0 ∷ []);
}

abbrev pub M10Plays : Type 0
M10Plays = Plays M10

-- Sheets in a full hall; `full` of ledger/specs/LastSerials has the order of its refusals

-- "Up to 2,048 live coupons are allowed", whatever their kind: 2,047 standing ones, one more, and no room.
abbrev pub standing_hall : List ℕ
standing_hall = bytes "till,2,2048,1,2047\na,9,7\n" ++ coupons ",r,0,0,9,0,0\n" 2047 1

abbrev pub standing : List Turn
standing =
    ("issue,r,0,0,9,0,0\n" ⇒ accepted 2048) ∷
    ("issue,r,0,0,9,0,0\n" ⇒ refused 22) ∷
    ("issue,s,0,0,9,0,0\n" ⇒ refused 22) ∷ []

-- A coupon past the 512th is one like the others: "serial held twice" (31), "a withdraw removes it", and the others
-- stay live, the last one too. What has left makes room, and is "never given again".
abbrev pub late : List Turn
late =
    (("book,5,0,0,9,0,0,2,1" ∷ "hold,1000" ∷ "hold,1000" ∷ "ax,0" ∷ []) ⇛ refused 31) ∷
    ("withdraw,1000\n" ⇒ accepted 1000) ∷
    ("withdraw,2048\n" ⇒ accepted 2048) ∷
    ("withdraw,1000\n" ⇒ refused 24) ∷
    ("issue,s,0,0,9,0,0\n" ⇒ accepted 2049) ∷
    (("book,5,0,0,9,0,0,1,1" ∷ "hold,2049" ∷ "ax,0" ∷ []) ⇛ accepted 2050) ∷
    ("issue,s,0,0,9,0,0\n" ⇒ accepted 2051) ∷
    ("issue,s,0,0,9,0,0\n" ⇒ refused 22) ∷ []

-- "Tally: over live singles": all of them, and past 65,535. A wording of size 64 has 32 seats under ⟨1⟩, one of size 63
-- has 32 places; each of these halls has 2,048 singles of it. Minute 9 lies in their window, 10 does not.
abbrev pub seat_hall : List ℕ
seat_hall =
    bytes "till,2,2049,7,2048\na,1,7\nt,0,0\nt,1,1\nt,2,2\nt,3,3\nt,4,4\ns,1,5\n" ++ coupons ",s,6,0,9,0,0\n" 2048 1

abbrev pub seats : List Turn
seats =
    ("tally,7,9\n" ⇒ ok (65536 ∷ 0 ∷ 0 ∷ [])) ∷
    ("tally,7,10\n" ⇒ ok (0 ∷ 65536 ∷ 0 ∷ [])) ∷ []

abbrev pub place_hall : List ℕ
place_hall =
    bytes "till,2,2049,6,2048\na,2,7\nt,0,0\nt,1,1\nt,2,2\nt,3,3\nt,4,4\n" ++ coupons ",s,5,0,9,0,0\n" 2048 1

abbrev pub places : List Turn
places = ("tally,7,9\n" ⇒ ok (0 ∷ 0 ∷ 65536 ∷ [])) ∷ []

-- n lines of wordings, each a seat, sessions from k on
unfoldable pub seat_lines : ℕ → ℕ → List ℕ
seat_lines zero k = []
seat_lines (suc n) k = bytes "a,1," ++ digits k ++ bytes "\n" ++ seat_lines n (suc k)

-- Ask 9, "Panel sums by wording": "Let the tally count, for each wording, its live singles with and without the minute,
-- each count with its own contract, and then add, for each figure of ask 3, count × what one such single gives it." Of
-- 200 wordings those to 192 are a seat of the session with their number. The last is (place ⊗ ⟨1⟩(seat ⊗ seat)) ⊗ seat,
-- of sessions 65,535, 64, 255 and 255.
abbrev pub panel_hall : List ℕ
panel_hall =
    bytes "till,1,10,200,9\n" ++ seat_lines 193 0
    ++ bytes "l,0,0\na,1,255\na,2,65535\nt,64,194\ns,1,196\nt,195,197\nt,198,194\n"
    ++ bytes "1,r,193,0,9,0,0\n2,s,0,0,9,0,0\n3,s,64,0,9,0,0\n4,s,128,0,9,0,0\n5,s,192,0,9,0,0\n"
    ++ coupons ",s,199,0,9,0,0\n" 2 6 ++ coupons ",s,199,5,9,0,0\n" 2 8

-- At minute 4 two singles of the last wording have the minute and two have it not; at minute 5 all four have it. It
-- gives nothing to sessions 128, 191 and 192, which lie between those that it names. Then one with the minute leaves
-- and one without, and the standing coupon, which counted nothing.
abbrev pub panel : List Turn
panel =
    ("tally,64,4\n" ⇒ ok (2 ∷ 3 ∷ 0 ∷ [])) ∷
    ("tally,64,5\n" ⇒ ok (4 ∷ 1 ∷ 0 ∷ [])) ∷
    ("tally,128,4\n" ⇒ ok (0 ∷ 1 ∷ 0 ∷ [])) ∷
    ("tally,191,4\n" ⇒ ok (0 ∷ 0 ∷ 0 ∷ [])) ∷
    ("tally,192,4\n" ⇒ ok (0 ∷ 1 ∷ 0 ∷ [])) ∷
    ("tally,255,4\n" ⇒ ok (2 ∷ 6 ∷ 0 ∷ [])) ∷
    ("tally,65535,4\n" ⇒ ok (0 ∷ 0 ∷ 4 ∷ [])) ∷
    ("withdraw,8\n" ⇒ accepted 8) ∷
    ("withdraw,7\n" ⇒ accepted 7) ∷
    ("tally,255,4\n" ⇒ ok (1 ∷ 3 ∷ 0 ∷ [])) ∷
    ("tally,65535,4\n" ⇒ ok (0 ∷ 0 ∷ 2 ∷ [])) ∷
    ("withdraw,1\n" ⇒ accepted 1) ∷
    ("tally,0,4\n" ⇒ ok (0 ∷ 1 ∷ 0 ∷ [])) ∷ []

pub record HallSheets : Type 0 where
  pub standing : AnsweredFrom (reopened standing_hall) standing
  pub late : AnsweredFrom (reopened (bulk "till,2,2049,1,2048" 2048)) late
  pub seats : AnsweredFrom (reopened seat_hall) seats
  pub places : AnsweredFrom (reopened place_hall) places
  pub panel : AnsweredFrom (reopened panel_hall) panel

-- Texts of a hall

-- what opening a text tells, and the text of the ledger that it leaves
unfoldable pub told_and_written : Reply → Told × List ℕ
told_and_written r = (told r.answer, text r.ledger)

-- a text is opened, with its length as the answer, and closed again as it was
abbrev pub OpensAndCloses : List ℕ → ℕ → Type 0
OpensAndCloses b n = told_and_written (reopen empty b) ≡ (accepted n, b)

-- n lines of wordings `g`, all different, each as long as one may be
unfoldable pub supersets : ℕ → ℕ → List ℕ
supersets zero k = []
supersets (suc n) k =
    bytes "g," ++ digits k ++ bytes ",9999999,5000000,5000001,1000000,9999999,5000000,5000001\n" ++ supersets n (suc k)

-- No text is longer (`LongestText`): 200 wordings and 2,048 coupons, each line as long as one may be.
abbrev pub longest : List ℕ
longest =
    bytes "till,2,1000000,200,2048\n" ++ supersets 200 1000000
    ++ coupons ",r,199,1000000,9999999,5000000,5000001\n" 2048 997952

-- "A till with no `n` or `q` and at most 512 live coupons is still written with `till,1`; any other is written with
-- `till,2`": by one coupon more; by coupons of either kind; with an `n` and 513 coupons; by the last of 200 wordings
abbrev pub few_hall : List ℕ
few_hall = bulk "till,1,900,1,512" 512

abbrev pub many_hall : List ℕ
many_hall = bulk "till,2,900,1,513" 513

abbrev pub mixed_hall : List ℕ
mixed_hall = bulk "till,2,900,1,513" 512 ++ bytes "513,r,0,0,9,0,0\n"

abbrev pub named_hall : List ℕ
named_hall = bytes "till,2,900,2,513\nn,9,7,5\na,9,7\n" ++ coupons ",s,1,0,9,0,0\n" 513 1

abbrev pub last_named : List ℕ
last_named = bytes "till,2,1,200,0\n" ++ supersets 199 1000000 ++ bytes "n,9,7,5\n"

-- by the till as it is: the first of 513 coupons leaves, and the text is the first edition's again
abbrev pub back_calls : List (List String)
back_calls = each ("withdraw,1" ∷ [])

abbrev pub back_text : List ℕ
back_text = bytes "till,1,900,1,512\na,9,7\n" ++ singles 512 2

-- Ask 5: "for each live coupon, serials rising", whichever left and came. The first of four coupons and one in the
-- middle leave, and two come after them, past serial 65,535.
abbrev pub gaps_hall : List ℕ
gaps_hall =
    of_lines ("till,1,65535,1,4" ∷ "a,9,7" ∷ "2,s,0,0,9,0,0" ∷ "3,r,0,0,9,0,0" ∷ "5,s,0,0,9,0,0" ∷
    "65534,s,0,0,9,0,0" ∷ [])

abbrev pub gaps_calls : List (List String)
gaps_calls = each ("withdraw,5" ∷ "withdraw,2" ∷ "issue,s,0,0,9,0,0" ∷ "issue,r,0,0,9,0,0" ∷ [])

abbrev pub gaps_text : List ℕ
gaps_text =
    of_lines ("till,1,65537,1,4" ∷ "a,9,7" ∷ "3,r,0,0,9,0,0" ∷ "65534,s,0,0,9,0,0" ∷ "65535,s,0,0,9,0,0" ∷
    "65536,r,0,0,9,0,0" ∷ [])

-- "its counts .. pass" 2,048: 50
abbrev pub over_hall : List ℕ
over_hall = bulk "till,2,2050,1,2049" 2049

pub record HallTexts : Type 0 where
  pub longest : OpensAndCloses longest 105384
  pub few : OpensAndCloses few_hall 8107
  pub many : OpensAndCloses many_hall 8123
  pub mixed : OpensAndCloses mixed_hall 8123
  pub named : OpensAndCloses named_hall 8131
  pub last : OpensAndCloses last_named 13157
  pub back : text (played_on (reopened many_hall) back_calls) ≡ back_text
  pub gaps : text (played_on (reopened gaps_hall) gaps_calls) ≡ gaps_text
  pub over : opening over_hall ≡ refused 50

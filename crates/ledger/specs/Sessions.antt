-- Document 01's sessions M1 to M9: inputs, as the bytes of the requests, with their answers. Its lines are quoted as
-- they stand there; "M1 to M10 get 0,0 in each window" (document 02, ask 2). And M1 for guests who are late (ask 4).
-- M10 is long, and in crate hall.
use Rattle.std.specs.Prelude.{◌≡◌, List, [], ◌∷◌, ◌++◌, map, ℕ, zero, suc}
use Prim.Native.String.{String}
use Rattle.request.specs.Text.{bytes}
use Rattle.ledger.specs.Ledger.{empty}
use Rattle.ledger.specs.Calls.{Told, ok, told, answers}

-- a request by its lines, each ended by byte 10
unfoldable pub of_lines : List String → List ℕ
of_lines [] = []
of_lines (l ∷ ls) = bytes l ++ (10 ∷ of_lines ls)

-- requests from the empty ledger on, and what is answered
pub record Session : Type 0 where
  pub requests : List (List String)
  pub replies : List Told

unfoldable pub Plays : Session → Type 0
Plays s = map told (answers empty (map of_lines s.requests)) ≡ s.replies

unfoldable pub AllPlay : List Session → Type 0
AllPlay [] = Unit {0}
AllPlay (s ∷ ss) = Plays s × AllPlay ss

-- one request of one line each
abbrev pub each : List String → List (List String)
each [] = []
each (l ∷ ls) = (l ∷ []) ∷ each ls

-- ok,n for each n
abbrev pub oks : List ℕ → List Told
oks [] = []
oks (n ∷ ns) = ok (n ∷ []) ∷ oks ns

abbrev pub words : List (List String)
words = each ("word,a,1,7" ∷ "word,a,2,7" ∷ "word,a,9,7" ∷ "word,s,1,0" ∷ "word,s,2,2" ∷ "word,s,1,1" ∷ "word,t,3,4"
    ∷ "word,l,6,5" ∷ [])

-- M1's booking: its first line, third hold and third step
abbrev pub booking : String → String → String → List String
booking head hold third =
    head ∷ "hold,1" ∷ "hold,2" ∷ hold ∷ "cp,0" ∷ "ll,3,0000000000000006,540,600,0,0" ∷ third ∷ "sr" ∷ "sl,1" ∷ "af"
    ∷ "ax,4" ∷ "sr" ∷ "sl,2" ∷ "af" ∷ "ax,5" ∷ "sr" ∷ "sl,6" ∷ "af" ∷ "ax,7" ∷ []

-- M1, with the issue of serial 2 and a booking
abbrev pub m1_with : String → List String → List (List String)
m1_with second b =
    words ++ each ("issue,r,7,0,9999,0,0" ∷ second ∷ "issue,s,4,0,600,0,0" ∷ "tally,7,540" ∷ [])
    ++ (b ∷ each ("tally,7,540" ∷ []))

-- what M1 answers before its booking
abbrev pub m1_begins : List Told
m1_begins = oks (0 ∷ 1 ∷ 2 ∷ 3 ∷ 4 ∷ 5 ∷ 6 ∷ 7 ∷ 1 ∷ 2 ∷ 3 ∷ []) ++ (ok (1 ∷ 0 ∷ 0 ∷ []) ∷ [])

abbrev pub second : String
second = "issue,s,3,0,600,0,0"

abbrev pub head : String
head = "book,540,5,540,600,0,0,3,15"

abbrev pub m1_booking : List String
m1_booking = booking head "hold,3" "tr,0000000000000002"

-- a refused booking leaves the seat as it was
abbrev pub stays : List Told
stays = ok (1 ∷ 0 ∷ 0 ∷ []) ∷ []

-- the booking gives serial 4, and the seat is a place
abbrev pub booked : List Told
booked = ok (4 ∷ []) ∷ ok (0 ∷ 0 ∷ 1 ∷ []) ∷ []

-- "`tillrun` prints fourteen lines"
abbrev pub M1 : Session
M1 = record {
  requests = m1_with second m1_booking;
  replies = m1_begins ++ booked;
}

-- "M1, serial 2's window to 599: the booking gives no,40,5."
abbrev pub M2 : Session
M2 = record {
  requests = m1_with "issue,s,3,0,599,0,0" m1_booking;
  replies = m1_begins ++ (Told.no 40 5 ∷ stays);
}

-- "M1, third step's share ..06: no,40,7."
abbrev pub M3 : Session
M3 = record {
  requests = m1_with second (booking head "hold,3" "tr,0000000000000006");
  replies = m1_begins ++ (Told.no 40 7 ∷ stays);
}

-- "Now 539: no,30,0."
abbrev pub M4 : Session
M4 = record {
  requests = m1_with second (booking "book,539,5,540,600,0,0,3,15" "hold,3" "tr,0000000000000002");
  replies = m1_begins ++ (Told.no 30 0 ∷ stays);
}

-- "Goal 540..540: ok,4."
abbrev pub M5 : Session
M5 = record {
  requests = m1_with second (booking "book,540,5,540,540,0,0,3,15" "hold,3" "tr,0000000000000002");
  replies = m1_begins ++ booked;
}

-- "After M1, the same booking: no,24,0."
abbrev pub M6 : Session
M6 = record {
  requests = m1_with second m1_booking ++ (m1_booking ∷ []);
  replies = m1_begins ++ booked ++ (Told.no 24 0 ∷ []);
}

-- "Holds 1, 2, 2: no,31,0."
abbrev pub M7 : Session
M7 = record {
  requests = m1_with second (booking head "hold,2" "tr,0000000000000002");
  replies = m1_begins ++ (Told.no 31 0 ∷ stays);
}

-- "After M1's words `t,5,5` `l,3,8`: ok,8 ok,9; `issue,r,9,0,9`: no,21,0."
abbrev pub M8 : Session
M8 = record {
  requests = words ++ each ("word,t,5,5" ∷ "word,l,3,8" ∷ "issue,r,9,0,9,0,0" ∷ []);
  replies = oks (0 ∷ 1 ∷ 2 ∷ 3 ∷ 4 ∷ 5 ∷ 6 ∷ 7 ∷ 8 ∷ 9 ∷ []) ++ (Told.no 21 0 ∷ []);
}

-- "From empty `a,9,7`, then `t,i,i` for i from 0 to 4: the last has size 63; `s,1,5` has 64: ok,6; `s,1,6`:
-- no,12,0."
abbrev pub M9 : Session
M9 = record {
  requests =
      each ("word,a,9,7" ∷ "word,t,0,0" ∷ "word,t,1,1" ∷ "word,t,2,2" ∷ "word,t,3,3" ∷ "word,t,4,4" ∷ [])
      ++ each ("word,s,1,5" ∷ "word,s,1,6" ∷ []);
  replies = oks (0 ∷ 1 ∷ 2 ∷ 3 ∷ 4 ∷ 5 ∷ 6 ∷ []) ++ (Told.no 12 0 ∷ []);
}

-- the same line n times
unfoldable pub times : ℕ → String → List String
times zero l = []
times (suc n) l = l ∷ times n l

-- "M1 to M9 stand as one proved statement, a list of inputs with answers"
abbrev pub sessions : List Session
sessions = M1 ∷ M2 ∷ M3 ∷ M4 ∷ M5 ∷ M6 ∷ M7 ∷ M8 ∷ M9 ∷ []

abbrev pub SessionsPlay : Type 0
SessionsPlay = AllPlay sessions

-- Document 02, ask 4, "Guests who are late want a shorter window on the sheet they hold": M1 with another first line of
-- its booking, hold and step lines as they stand, and what it answers.
abbrev pub m1_at : String → List Told → Session
m1_at line replies = record {
  requests = m1_with second (booking line "hold,3" "tr,0000000000000002");
  replies = m1_begins ++ replies;
}

-- beside M1's own line three with a window within its 540..600: shorter, one minute, with a break
abbrev pub later_sessions : List Session
later_sessions =
    m1_at head booked ∷
    m1_at "book,560,5,550,590,0,0,3,15" booked ∷
    m1_at "book,600,5,600,600,0,0,3,15" booked ∷
    m1_at "book,540,5,540,600,560,570,3,15" booked ∷ []

-- What has to be said of the window: that it is one (550..590 with the break 0..5 has the minutes of 550..590, within
-- M1's), that now lies in it, and that it is within M1's and not the other way round.
abbrev pub not_later_sessions : List Session
not_later_sessions =
    m1_at "book,560,5,550,590,0,5,3,15" (Told.no 43 0 ∷ stays) ∷
    m1_at "book,540,5,550,590,0,0,3,15" (Told.no 30 0 ∷ stays) ∷
    m1_at "book,540,5,540,601,0,0,3,15" (Told.no 40 13 ∷ stays) ∷ []

abbrev pub LaterPlay : Type 0
LaterPlay = AllPlay (later_sessions ++ not_later_sessions)

-- Sessions for windows with a break, step by step. Document 02, ask 2: "A window is then the set of its minutes without
-- the break, and ⊇, "has the minute" and every rule that uses a window mean that set." Windows here are 0..9, whole or
-- with the break 4..5, and once 0..3. Document 01's section "Steps" is quoted.
use Rattle.std.specs.Prelude.{List, [], ◌∷◌}
use Rattle.ledger.specs.Calls.{Told}
use Rattle.ledger.specs.Cases.{Turn, ◌⇒◌, ◌⇛◌, accepted, AllAnswered}

-- "L's window ⊇ goal's", "L's window ⊇ J", "⊇ that holds": a step that compared only from and to, or left out one of
-- the two breaks, would answer otherwise. Serials 1, 3, 5, 7, 9 have the break and 2, 4, 6, 8, 10 are the same without
-- it; 11 to 13 ask for a ⊇.
abbrev pub compared_pauses : List Turn
compared_pauses =
    ("word,a,9,7\n" ⇒ accepted 0) ∷
    ("word,a,8,7\n" ⇒ accepted 1) ∷
    ("word,l,0,1\n" ⇒ accepted 2) ∷
    ("word,u,0,1\n" ⇒ accepted 3) ∷
    ("word,s,1,0\n" ⇒ accepted 4) ∷
    ("word,g,0,9,4,5,0,9,0,0\n" ⇒ accepted 5) ∷
    ("word,g,0,9,0,0,0,9,4,5\n" ⇒ accepted 6) ∷
    ("word,g,0,9,4,5,0,9,4,5\n" ⇒ accepted 7) ∷
    ("word,u,5,0\n" ⇒ accepted 8) ∷
    ("word,u,6,0\n" ⇒ accepted 9) ∷
    ("word,u,7,0\n" ⇒ accepted 10) ∷
    ("issue,s,0,0,9,4,5\n" ⇒ accepted 1) ∷
    ("issue,s,0,0,9,0,0\n" ⇒ accepted 2) ∷
    ("issue,r,0,0,9,4,5\n" ⇒ accepted 3) ∷
    ("issue,r,0,0,9,0,0\n" ⇒ accepted 4) ∷
    ("issue,r,2,0,9,4,5\n" ⇒ accepted 5) ∷
    ("issue,r,2,0,9,0,0\n" ⇒ accepted 6) ∷
    ("issue,r,3,0,9,4,5\n" ⇒ accepted 7) ∷
    ("issue,r,3,0,9,0,0\n" ⇒ accepted 8) ∷
    ("issue,s,4,0,9,4,5\n" ⇒ accepted 9) ∷
    ("issue,s,4,0,9,0,0\n" ⇒ accepted 10) ∷
    ("issue,r,8,0,9,0,0\n" ⇒ accepted 11) ∷
    ("issue,r,9,0,9,0,0\n" ⇒ accepted 12) ∷
    ("issue,r,10,0,9,0,0\n" ⇒ accepted 13) ∷
    -- `ax`: not over L's break; both have it; the goal alone has it
    (("book,1,0,0,9,0,0,1,1" ∷ "hold,1" ∷ "ax,0" ∷ []) ⇛ Told.no 40 1) ∷
    (("book,1,0,0,9,4,5,1,1" ∷ "hold,1" ∷ "ax,0" ∷ []) ⇛ accepted 14) ∷
    (("book,1,0,0,9,4,5,1,1" ∷ "hold,2" ∷ "ax,0" ∷ []) ⇛ accepted 15) ∷
    -- `ll`: not over L's break; both have it; J alone has it
    (("book,1,1,0,9,0,0,2,5" ∷ "hold,5" ∷ "hold,4" ∷ "cp,0" ∷ "ll,2,0000000000000000,0,9,0,0" ∷ "cp,1" ∷ "ax,3" ∷ "ax,4"
    ∷ []) ⇛ Told.no 40 2) ∷
    (("book,1,1,0,9,4,5,2,5" ∷ "hold,5" ∷ "hold,3" ∷ "cp,0" ∷ "ll,2,0000000000000000,0,9,4,5" ∷ "cp,1" ∷ "ax,3" ∷ "ax,4"
    ∷ []) ⇛ accepted 16) ∷
    (("book,1,1,0,9,4,5,2,5" ∷ "hold,6" ∷ "hold,3" ∷ "cp,0" ∷ "ll,2,0000000000000000,0,9,4,5" ∷ "cp,1" ∷ "ax,3" ∷ "ax,4"
    ∷ []) ⇛ accepted 17) ∷
    -- `ul`: the same
    (("book,1,1,0,9,0,0,2,5" ∷ "hold,7" ∷ "hold,4" ∷ "cp,0" ∷ "ul,2,0,9,0,0" ∷ "cp,1" ∷ "ax,3" ∷ "ax,4"
    ∷ []) ⇛ Told.no 40 2) ∷
    (("book,1,1,0,9,4,5,2,5" ∷ "hold,7" ∷ "hold,3" ∷ "cp,0" ∷ "ul,2,0,9,4,5" ∷ "cp,1" ∷ "ax,3" ∷ "ax,4"
    ∷ []) ⇛ accepted 18) ∷
    (("book,1,1,0,9,4,5,2,5" ∷ "hold,8" ∷ "hold,3" ∷ "cp,0" ∷ "ul,2,0,9,4,5" ∷ "cp,1" ∷ "ax,3" ∷ "ax,4"
    ∷ []) ⇛ accepted 19) ∷
    -- `sl`: as `ax`
    (("book,1,4,0,9,0,0,1,4" ∷ "hold,9" ∷ "sr" ∷ "sl,0" ∷ "af" ∷ "ax,1" ∷ []) ⇛ Told.no 40 2) ∷
    (("book,1,4,0,9,4,5,1,4" ∷ "hold,9" ∷ "sr" ∷ "sl,0" ∷ "af" ∷ "ax,1" ∷ []) ⇛ accepted 20) ∷
    (("book,1,4,0,9,4,5,1,4" ∷ "hold,10" ∷ "sr" ∷ "sl,0" ∷ "af" ∷ "ax,1" ∷ []) ⇛ accepted 21) ∷
    -- `gr`: the first window alone has the break; the second alone; both
    (("book,1,0,0,9,0,0,1,4" ∷ "hold,11" ∷ "cp,0" ∷ "ul,1,0,9,0,0" ∷ "gr" ∷ "ax,2" ∷ []) ⇛ Told.no 40 3) ∷
    (("book,1,0,0,9,0,0,1,4" ∷ "hold,12" ∷ "cp,0" ∷ "ul,1,0,9,0,0" ∷ "gr" ∷ "ax,2" ∷ []) ⇛ accepted 22) ∷
    (("book,1,0,0,9,0,0,1,4" ∷ "hold,13" ∷ "cp,0" ∷ "ul,1,0,9,0,0" ∷ "gr" ∷ "ax,2" ∷ []) ⇛ accepted 23) ∷ []

-- "K, I and windows stay unless named": what replaces L keeps L's break, and with `ll`, `ul` and `hl` it has J's. A
-- part or a copy that lost its break would prove the goals over the break, which are refused here. Formulas 2 and 3 are
-- A@J for a J without and with the break; serials 8 to 12 have no break, the others have it.
abbrev pub paused_parts : List Turn
paused_parts =
    ("word,a,9,7\n" ⇒ accepted 0) ∷
    ("word,a,8,7\n" ⇒ accepted 1) ∷
    ("word,h,0,0,9,0,0\n" ⇒ accepted 2) ∷
    ("word,h,0,0,9,4,5\n" ⇒ accepted 3) ∷
    ("word,t,0,1\n" ⇒ accepted 4) ∷
    ("word,t,2,1\n" ⇒ accepted 5) ∷
    ("word,w,0,1\n" ⇒ accepted 6) ∷
    ("word,p,0,0\n" ⇒ accepted 7) ∷
    ("word,p,2,0\n" ⇒ accepted 8) ∷
    ("word,b,0\n" ⇒ accepted 9) ∷
    ("word,s,1,0\n" ⇒ accepted 10) ∷
    ("word,s,1,2\n" ⇒ accepted 11) ∷
    ("word,l,0,1\n" ⇒ accepted 12) ∷
    ("word,u,0,1\n" ⇒ accepted 13) ∷
    ("word,l,11,1\n" ⇒ accepted 14) ∷
    ("issue,r,0,0,9,4,5\n" ⇒ accepted 1) ∷
    ("issue,r,4,0,9,4,5\n" ⇒ accepted 2) ∷
    ("issue,r,5,0,9,4,5\n" ⇒ accepted 3) ∷
    ("issue,r,6,0,9,4,5\n" ⇒ accepted 4) ∷
    ("issue,r,7,0,9,4,5\n" ⇒ accepted 5) ∷
    ("issue,r,8,0,9,4,5\n" ⇒ accepted 6) ∷
    ("issue,r,9,0,9,4,5\n" ⇒ accepted 7) ∷
    ("issue,r,12,0,9,0,0\n" ⇒ accepted 8) ∷
    ("issue,r,13,0,9,0,0\n" ⇒ accepted 9) ∷
    ("issue,r,3,0,9,0,0\n" ⇒ accepted 10) ∷
    ("issue,r,0,0,9,0,0\n" ⇒ accepted 11) ∷
    ("issue,r,14,0,9,0,0\n" ⇒ accepted 12) ∷
    ("issue,r,10,0,9,4,5\n" ⇒ accepted 13) ∷
    ("issue,r,2,0,9,4,5\n" ⇒ accepted 14) ∷
    -- no part and no copy goes over its break: `cp`; `tl`, its left part and its right one; `w1`, `w2`; `pl`, its first
    -- premise and its second one; `bl`; `sl`, where `hr` leads out of the goal's window
    (("book,1,0,0,9,0,0,1,2" ∷ "hold,1" ∷ "cp,0" ∷ "ax,1" ∷ []) ⇛ Told.no 40 2) ∷
    (("book,1,4,0,9,0,0,1,5" ∷ "hold,2" ∷ "cp,0" ∷ "tl,1" ∷ "tr,0000000000000004" ∷ "ax,2" ∷ "ax,3"
    ∷ []) ⇛ Told.no 40 4) ∷
    (("book,1,4,0,9,0,0,1,6" ∷ "hold,3" ∷ "cp,0" ∷ "tl,1" ∷ "hl,2" ∷ "tr,0000000000000010" ∷ "ax,4" ∷ "ax,3"
    ∷ []) ⇛ Told.no 40 6) ∷
    (("book,1,0,0,9,0,0,1,3" ∷ "hold,4" ∷ "cp,0" ∷ "w1,1" ∷ "ax,2" ∷ []) ⇛ Told.no 40 3) ∷
    (("book,1,1,0,9,0,0,1,3" ∷ "hold,4" ∷ "cp,0" ∷ "w2,1" ∷ "ax,2" ∷ []) ⇛ Told.no 40 3) ∷
    (("book,1,0,0,9,0,0,1,4" ∷ "hold,5" ∷ "cp,0" ∷ "pl,1" ∷ "ax,2" ∷ "ax,3" ∷ []) ⇛ Told.no 40 3) ∷
    (("book,1,0,0,9,0,0,1,5" ∷ "hold,6" ∷ "cp,0" ∷ "pl,1" ∷ "hl,2" ∷ "ax,3" ∷ "ax,4" ∷ []) ⇛ Told.no 40 5) ∷
    (("book,1,0,0,9,0,0,1,4" ∷ "hold,7" ∷ "cp,0" ∷ "bl,1" ∷ "cp,2" ∷ "ax,3" ∷ []) ⇛ Told.no 40 4) ∷
    (("book,1,1,0,3,0,0,2,9" ∷ "hold,12" ∷ "hold,13" ∷ "cp,0" ∷ "cp,1" ∷ "ll,2,0000000000000008,0,3,0,0" ∷ "sr" ∷ "sl,3"
    ∷ "af" ∷ "hr" ∷ "ax,4" ∷ "ax,5" ∷ []) ⇛ Told.no 40 8) ∷
    -- nor does B of `ll` and `ul` go over J's break, nor what `hl` leaves
    (("book,1,1,0,9,0,0,2,5" ∷ "hold,8" ∷ "hold,1" ∷ "cp,0" ∷ "ll,2,0000000000000000,0,9,4,5" ∷ "cp,1" ∷ "ax,3" ∷ "ax,4"
    ∷ []) ⇛ Told.no 40 5) ∷
    (("book,1,1,0,9,0,0,2,5" ∷ "hold,9" ∷ "hold,1" ∷ "cp,0" ∷ "ul,2,0,9,4,5" ∷ "cp,1" ∷ "ax,3" ∷ "ax,4"
    ∷ []) ⇛ Told.no 40 5) ∷
    (("book,1,0,0,9,0,0,1,3" ∷ "hold,10" ∷ "cp,0" ∷ "hl,1" ∷ "ax,2" ∷ []) ⇛ Told.no 40 3) ∷
    -- `hl` has not L's break but J's: here none
    (("book,1,0,0,9,0,0,1,3" ∷ "hold,14" ∷ "cp,0" ∷ "hl,1" ∷ "ax,2" ∷ []) ⇛ accepted 15) ∷
    -- where the goal has the break they close
    (("book,1,0,0,9,4,5,1,2" ∷ "hold,1" ∷ "cp,0" ∷ "ax,1" ∷ []) ⇛ accepted 16) ∷
    (("book,1,4,0,9,4,5,1,5" ∷ "hold,2" ∷ "cp,0" ∷ "tl,1" ∷ "tr,0000000000000004" ∷ "ax,2" ∷ "ax,3"
    ∷ []) ⇛ accepted 17) ∷
    (("book,1,0,0,9,4,5,1,3" ∷ "hold,4" ∷ "cp,0" ∷ "w1,1" ∷ "ax,2" ∷ []) ⇛ accepted 18) ∷
    (("book,1,1,0,9,4,5,1,3" ∷ "hold,4" ∷ "cp,0" ∷ "w2,1" ∷ "ax,2" ∷ []) ⇛ accepted 19) ∷
    (("book,1,0,0,9,4,5,1,4" ∷ "hold,5" ∷ "cp,0" ∷ "pl,1" ∷ "ax,2" ∷ "ax,3" ∷ []) ⇛ accepted 20) ∷
    (("book,1,0,0,9,4,5,1,4" ∷ "hold,7" ∷ "cp,0" ∷ "bl,1" ∷ "cp,2" ∷ "ax,3" ∷ []) ⇛ accepted 21) ∷
    (("book,1,1,0,9,4,5,2,5" ∷ "hold,8" ∷ "hold,1" ∷ "cp,0" ∷ "ll,2,0000000000000000,0,9,4,5" ∷ "cp,1" ∷ "ax,3" ∷ "ax,4"
    ∷ []) ⇛ accepted 22) ∷
    (("book,1,1,0,9,4,5,2,5" ∷ "hold,9" ∷ "hold,1" ∷ "cp,0" ∷ "ul,2,0,9,4,5" ∷ "cp,1" ∷ "ax,3" ∷ "ax,4"
    ∷ []) ⇛ accepted 23) ∷
    (("book,1,0,0,9,4,5,1,3" ∷ "hold,10" ∷ "cp,0" ∷ "hl,1" ∷ "ax,2" ∷ []) ⇛ accepted 24) ∷ []

-- "K, I and windows stay unless named", of goals: a right step leaves the goal's break, `hr` takes J's ("A@J becomes A
-- at J"), and so does A of `ll` and `ul` ("A at J"). The atoms that are held have the break, so a premise whose goal
-- lost it would not close.
abbrev pub paused_goals : List Turn
paused_goals =
    ("word,a,9,7\n" ⇒ accepted 0) ∷
    ("word,a,8,7\n" ⇒ accepted 1) ∷
    ("word,t,0,1\n" ⇒ accepted 2) ∷
    ("word,w,0,1\n" ⇒ accepted 3) ∷
    ("word,p,0,1\n" ⇒ accepted 4) ∷
    ("word,b,0\n" ⇒ accepted 5) ∷
    ("word,s,1,0\n" ⇒ accepted 6) ∷
    ("word,h,0,0,9,4,5\n" ⇒ accepted 7) ∷
    ("word,h,0,0,9,0,0\n" ⇒ accepted 8) ∷
    ("word,l,3,1\n" ⇒ accepted 9) ∷
    ("word,l,4,1\n" ⇒ accepted 10) ∷
    ("word,l,5,1\n" ⇒ accepted 11) ∷
    ("word,l,7,1\n" ⇒ accepted 12) ∷
    ("word,l,8,1\n" ⇒ accepted 13) ∷
    ("word,l,0,1\n" ⇒ accepted 14) ∷
    ("word,u,0,1\n" ⇒ accepted 15) ∷
    ("issue,r,0,0,9,4,5\n" ⇒ accepted 1) ∷
    ("issue,r,1,0,9,4,5\n" ⇒ accepted 2) ∷
    ("issue,r,9,0,9,0,0\n" ⇒ accepted 3) ∷
    ("issue,r,10,0,9,0,0\n" ⇒ accepted 4) ∷
    ("issue,r,11,0,9,0,0\n" ⇒ accepted 5) ∷
    ("issue,r,12,0,9,0,0\n" ⇒ accepted 6) ∷
    ("issue,r,13,0,9,0,0\n" ⇒ accepted 7) ∷
    ("issue,r,14,0,9,0,0\n" ⇒ accepted 8) ∷
    ("issue,r,15,0,9,0,0\n" ⇒ accepted 9) ∷
    -- the goal's break stays: `tr`, `wr`, `p1`, `p2`, `br`, `sr` and `af`
    (("book,1,2,0,9,4,5,2,5" ∷ "hold,1" ∷ "hold,2" ∷ "tr,0000000000000000" ∷ "cp,0" ∷ "ax,2" ∷ "cp,1" ∷ "ax,3"
    ∷ []) ⇛ accepted 10) ∷
    (("book,1,1,0,9,4,5,3,8" ∷ "hold,3" ∷ "hold,1" ∷ "hold,2" ∷ "cp,0" ∷ "ll,3,0000000000000000,0,9,4,5" ∷ "wr" ∷ "cp,1"
    ∷ "ax,4" ∷ "cp,2" ∷ "ax,5" ∷ "ax,6" ∷ []) ⇛ accepted 11) ∷
    (("book,1,1,0,9,4,5,2,6" ∷ "hold,4" ∷ "hold,1" ∷ "cp,0" ∷ "ll,2,0000000000000000,0,9,4,5" ∷ "p1" ∷ "cp,1" ∷ "ax,3"
    ∷ "ax,4" ∷ []) ⇛ accepted 12) ∷
    (("book,1,1,0,9,4,5,2,6" ∷ "hold,4" ∷ "hold,2" ∷ "cp,0" ∷ "ll,2,0000000000000000,0,9,4,5" ∷ "p2" ∷ "cp,1" ∷ "ax,3"
    ∷ "ax,4" ∷ []) ⇛ accepted 13) ∷
    (("book,1,1,0,9,4,5,2,6" ∷ "hold,5" ∷ "hold,1" ∷ "cp,0" ∷ "ll,2,0000000000000000,0,9,4,5" ∷ "br" ∷ "cp,1" ∷ "ax,3"
    ∷ "ax,4" ∷ []) ⇛ accepted 14) ∷
    (("book,1,6,0,9,4,5,1,4" ∷ "hold,1" ∷ "sr" ∷ "af" ∷ "cp,0" ∷ "ax,1" ∷ []) ⇛ accepted 15) ∷
    -- A of `ll` and `ul` has J's break, and not the goal's
    (("book,1,1,0,9,4,5,2,5" ∷ "hold,8" ∷ "hold,1" ∷ "cp,0" ∷ "ll,2,0000000000000000,0,9,4,5" ∷ "cp,1" ∷ "ax,3" ∷ "ax,4"
    ∷ []) ⇛ accepted 16) ∷
    (("book,1,1,0,9,4,5,2,5" ∷ "hold,8" ∷ "hold,1" ∷ "cp,0" ∷ "ll,2,0000000000000000,0,9,0,0" ∷ "cp,1" ∷ "ax,3" ∷ "ax,4"
    ∷ []) ⇛ Told.no 40 4) ∷
    (("book,1,1,0,9,4,5,2,5" ∷ "hold,9" ∷ "hold,1" ∷ "cp,0" ∷ "ul,2,0,9,4,5" ∷ "cp,1" ∷ "ax,3" ∷ "ax,4"
    ∷ []) ⇛ accepted 17) ∷
    (("book,1,1,0,9,4,5,2,5" ∷ "hold,9" ∷ "hold,1" ∷ "cp,0" ∷ "ul,2,0,9,0,0" ∷ "cp,1" ∷ "ax,3" ∷ "ax,4"
    ∷ []) ⇛ Told.no 40 4) ∷
    -- `hr` has J's break, and not the goal's
    (("book,1,1,0,9,0,0,2,6" ∷ "hold,6" ∷ "hold,1" ∷ "cp,0" ∷ "ll,2,0000000000000000,0,9,0,0" ∷ "hr" ∷ "cp,1" ∷ "ax,3"
    ∷ "ax,4" ∷ []) ⇛ accepted 18) ∷
    (("book,1,1,0,9,4,5,2,6" ∷ "hold,7" ∷ "hold,1" ∷ "cp,0" ∷ "ll,2,0000000000000000,0,9,4,5" ∷ "hr" ∷ "cp,1" ∷ "ax,3"
    ∷ "ax,4" ∷ []) ⇛ Told.no 40 5) ∷ []

abbrev pub pause_cases : List (List Turn)
pause_cases = compared_pauses ∷ paused_parts ∷ paused_goals ∷ []

abbrev pub PauseCasesPlay : Type 0
PauseCasesPlay = AllAnswered pause_cases

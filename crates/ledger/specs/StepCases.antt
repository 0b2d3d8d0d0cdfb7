-- Sessions for the steps: each step word where it is right, and where a slip in its rule would be seen. Document 01's
-- section "Steps" is quoted. PauseCases.antt has windows with breaks, ConnectiveCases.antt what a step asks of its
-- formula and of the goal.
use Rattle.std.specs.Prelude.{List, [], ◌∷◌, ◌++◌}
use Prim.Native.String.{String}
use Rattle.ledger.specs.Calls.{Told}
use Rattle.ledger.specs.Sessions.{times}
use Rattle.ledger.specs.Cases.{Turn, ◌⇒◌, ◌⇛◌, accepted, AllAnswered}

-- Two free atoms, 0 and 1, and a formula 2. Serial 1 is formula 2, unrestricted; 2 and 3 are the atoms, linear; all at
-- 0..9.
abbrev pub offers : String → List Turn
offers line =
    ("word,a,9,7\n" ⇒ accepted 0) ∷
    ("word,a,8,7\n" ⇒ accepted 1) ∷
    (line ⇒ accepted 2) ∷
    ("issue,r,2,0,9,0,0\n" ⇒ accepted 1) ∷
    ("issue,s,0,0,9,0,0\n" ⇒ accepted 2) ∷
    ("issue,s,1,0,9,0,0\n" ⇒ accepted 3) ∷ []

-- "L in R; a new single label of the same wording and window": a linear label is not copied, and an unrestricted one is
-- not used itself. An unrestricted credential stays.
abbrev pub copies : List Turn
copies =
    ("word,a,9,7\n" ⇒ accepted 0) ∷
    ("issue,r,0,3,4,0,0\n" ⇒ accepted 1) ∷
    ("issue,s,0,0,9,0,0\n" ⇒ accepted 2) ∷
    (("book,5,0,0,9,0,0,1,2" ∷ "hold,1" ∷ "cp,0" ∷ "ax,1" ∷ []) ⇛ Told.no 40 2) ∷
    (("book,5,0,0,9,0,0,1,2" ∷ "hold,2" ∷ "cp,0" ∷ "ax,1" ∷ []) ⇛ Told.no 40 1) ∷
    (("book,3,0,3,4,0,0,1,1" ∷ "hold,1" ∷ "ax,0" ∷ []) ⇛ Told.no 40 1) ∷
    (("book,3,0,3,4,0,0,1,2" ∷ "hold,1" ∷ "cp,0" ∷ "ax,1" ∷ []) ⇛ accepted 3) ∷
    ("withdraw,1\n" ⇒ accepted 1) ∷ []

-- "left from the share, right from the rest of D"; "it must lie within D", and neither in R nor among labels that are
-- spent; "`tl` takes the left part's first", and both need a label; "L is in D save at `cp`".
abbrev pub tensors : List Turn
tensors =
    offers "word,t,0,1\n" ++
    ("word,t,1,0\n" ⇒ accepted 3) ∷
    (("book,5,2,0,9,0,0,1,4" ∷ "hold,1" ∷ "tl,0" ∷ "tr,0000000000000002" ∷ "ax,1" ∷ "ax,2" ∷ []) ⇛ Told.no 40 1) ∷
    (("book,5,2,0,9,0,0,3,3" ∷ "hold,1" ∷ "hold,2" ∷ "hold,3" ∷ "tr,0000000000000003" ∷ "ax,1" ∷ "ax,2"
    ∷ []) ⇛ Told.no 40 1) ∷
    (("book,5,2,0,9,0,0,1,5" ∷ "hold,1" ∷ "cp,0" ∷ "tl,1" ∷ "tr,0000000000000006" ∷ "ax,2" ∷ "ax,3"
    ∷ []) ⇛ Told.no 40 3) ∷
    (("book,5,0,0,9,0,0,1,63" ∷ "hold,1" ∷ times 62 "cp,0" ++ ("tl,1" ∷ [])) ⇛ Told.no 41 63) ∷
    (("book,5,3,0,9,0,0,1,5" ∷ "hold,1" ∷ "cp,0" ∷ "tl,1" ∷ "tr,0000000000000004" ∷ "ax,2" ∷ "ax,3"
    ∷ []) ⇛ Told.no 40 4) ∷
    (("book,5,3,0,9,0,0,1,5" ∷ "hold,1" ∷ "cp,0" ∷ "tl,1" ∷ "tr,0000000000000008" ∷ "ax,3" ∷ "ax,2"
    ∷ []) ⇛ accepted 4) ∷
    (("book,5,2,0,9,0,0,2,3" ∷ "hold,2" ∷ "hold,3" ∷ "tr,0000000000000004" ∷ "ax,0" ∷ "ax,1" ∷ []) ⇛ Told.no 40 1) ∷
    (("book,5,2,0,9,0,0,2,3" ∷ "hold,2" ∷ "hold,3" ∷ "tr,0000000000000002" ∷ "ax,0" ∷ "ax,1" ∷ []) ⇛ Told.no 40 2) ∷
    (("book,5,2,0,9,0,0,2,3" ∷ "hold,2" ∷ "hold,3" ∷ "tr,0000000000000001" ∷ "ax,0" ∷ "ax,1" ∷ []) ⇛ accepted 5) ∷ []

-- "a share: 16 lower-case hexadecimal digits"; "bit k (worth 2 to the k) stands for label k". A reader that took
-- capitals for digits, or a share of another length, would not answer 2; one without letters would refuse the last
-- booking.
abbrev pub shares : List Turn
shares =
    ("word,a,9,7\n" ⇒ accepted 0) ∷
    ("word,a,8,7\n" ⇒ accepted 1) ∷
    ("word,t,0,1\n" ⇒ accepted 2) ∷
    ("word,t,2,2\n" ⇒ accepted 3) ∷
    ("issue,s,0,0,9,0,0\n" ⇒ accepted 1) ∷
    ("issue,s,1,0,9,0,0\n" ⇒ accepted 2) ∷
    ("issue,s,0,0,9,0,0\n" ⇒ accepted 3) ∷
    ("issue,s,1,0,9,0,0\n" ⇒ accepted 4) ∷
    (("book,5,2,0,9,0,0,2,1" ∷ "hold,1" ∷ "hold,2" ∷ "tr,000000000000001" ∷ []) ⇛ Told.no 2 0) ∷
    (("book,5,2,0,9,0,0,2,1" ∷ "hold,1" ∷ "hold,2" ∷ "tr,00000000000000001" ∷ []) ⇛ Told.no 2 0) ∷
    (("book,5,2,0,9,0,0,2,1" ∷ "hold,1" ∷ "hold,2" ∷ "tr,000000000000000g" ∷ []) ⇛ Told.no 2 0) ∷
    (("book,5,3,0,9,0,0,4,7" ∷ "hold,1" ∷ "hold,2" ∷ "hold,3" ∷ "hold,4" ∷ "tr,000000000000000C"
    ∷ "tr,0000000000000004" ∷ "ax,2" ∷ "ax,3" ∷ "tr,0000000000000001" ∷ "ax,0" ∷ "ax,1" ∷ []) ⇛ Told.no 2 0) ∷
    (("book,5,3,0,9,0,0,4,7" ∷ "hold,1" ∷ "hold,2" ∷ "hold,3" ∷ "hold,4" ∷ "tr,000000000000000c"
    ∷ "tr,0000000000000004" ∷ "ax,2" ∷ "ax,3" ∷ "tr,0000000000000001" ∷ "ax,0" ∷ "ax,1" ∷ []) ⇛ accepted 5) ∷ []

-- `or`: "1, D empty; closes." `ol`: "drops L, a 1", and takes no label.
abbrev pub ones : List Turn
ones =
    offers "word,o\n" ++
    ("word,u,2,0\n" ⇒ accepted 3) ∷
    ("word,l,2,1\n" ⇒ accepted 4) ∷
    ("issue,r,3,0,9,0,0\n" ⇒ accepted 4) ∷
    ("issue,r,4,0,9,0,0\n" ⇒ accepted 5) ∷
    ("issue,r,1,0,9,0,0\n" ⇒ accepted 6) ∷
    (("book,5,0,0,9,0,0,2,2" ∷ "hold,1" ∷ "hold,2" ∷ "cp,0" ∷ "ax,1" ∷ []) ⇛ Told.no 40 2) ∷
    (("book,5,0,0,9,0,0,2,2" ∷ "hold,2" ∷ "hold,3" ∷ "ol,0" ∷ "ax,1" ∷ []) ⇛ Told.no 40 1) ∷
    (("book,5,0,0,9,0,0,2,3" ∷ "hold,1" ∷ "hold,2" ∷ "cp,0" ∷ "ol,2" ∷ "ax,1" ∷ []) ⇛ accepted 7) ∷
    (("book,5,1,0,9,0,0,2,4" ∷ "hold,1" ∷ "hold,6" ∷ "cp,0" ∷ "ol,2" ∷ "cp,1" ∷ "ax,3" ∷ []) ⇛ accepted 8) ∷
    (("book,5,0,0,9,0,0,1,4" ∷ "hold,4" ∷ "cp,0" ∷ "ul,1,0,9,0,0" ∷ "or" ∷ "ax,2" ∷ []) ⇛ accepted 9) ∷
    (("book,5,1,0,9,0,0,2,4" ∷ "hold,5" ∷ "hold,3" ∷ "cp,0" ∷ "ll,2,0000000000000002,0,9,0,0" ∷ "or" ∷ "ax,3"
    ∷ []) ⇛ Told.no 40 3) ∷ []

-- `wr`: "both arms, each from all of D." `w1`, `w2`: "that arm."
abbrev pub withs : List Turn
withs =
    offers "word,w,0,1\n" ++
    ("word,l,2,0\n" ⇒ accepted 3) ∷
    ("issue,r,3,0,9,0,0\n" ⇒ accepted 4) ∷
    (("book,5,0,0,9,0,0,1,3" ∷ "hold,1" ∷ "cp,0" ∷ "w2,1" ∷ "ax,2" ∷ []) ⇛ Told.no 40 3) ∷
    (("book,5,0,0,9,0,0,1,3" ∷ "hold,1" ∷ "cp,0" ∷ "w1,1" ∷ "ax,2" ∷ []) ⇛ accepted 5) ∷
    (("book,5,1,0,9,0,0,1,3" ∷ "hold,1" ∷ "cp,0" ∷ "w1,1" ∷ "ax,2" ∷ []) ⇛ Told.no 40 3) ∷
    (("book,5,1,0,9,0,0,1,3" ∷ "hold,1" ∷ "cp,0" ∷ "w2,1" ∷ "ax,2" ∷ []) ⇛ accepted 6) ∷
    (("book,5,0,0,9,0,0,2,9" ∷ "hold,1" ∷ "hold,4" ∷ "cp,0" ∷ "cp,1" ∷ "ll,3,0000000000000004,0,9,0,0" ∷ "wr" ∷ "w1,2"
    ∷ "ax,4" ∷ "w2,2" ∷ "ax,5" ∷ "ax,6" ∷ []) ⇛ accepted 7) ∷ []

-- "both arms, each from all of D"; "which must not have L".
abbrev pub arms : List Turn
arms =
    ("word,a,9,7\n" ⇒ accepted 0) ∷
    ("word,w,0,0\n" ⇒ accepted 1) ∷
    ("word,l,1,0\n" ⇒ accepted 2) ∷
    ("issue,r,2,0,9,0,0\n" ⇒ accepted 1) ∷
    ("issue,s,0,0,9,0,0\n" ⇒ accepted 2) ∷
    (("book,5,0,0,9,0,0,2,6" ∷ "hold,1" ∷ "hold,2" ∷ "cp,0" ∷ "ll,2,0000000000000006,0,9,0,0" ∷ "wr" ∷ "ax,1" ∷ "ax,1"
    ∷ "ax,3" ∷ []) ⇛ Told.no 40 2) ∷
    (("book,5,0,0,9,0,0,2,6" ∷ "hold,1" ∷ "hold,2" ∷ "cp,0" ∷ "ll,2,0000000000000002,0,9,0,0" ∷ "wr" ∷ "ax,1" ∷ "ax,1"
    ∷ "ax,3" ∷ []) ⇛ accepted 3) ∷ []

-- `p1`, `p2`: "that arm." `pl`: "a premise for each arm", the left one first, and each with the other labels of D.
abbrev pub pluses : List Turn
pluses =
    offers "word,p,0,1\n" ++
    ("word,l,1,0\n" ⇒ accepted 3) ∷
    ("word,l,2,1\n" ⇒ accepted 4) ∷
    ("word,p,0,0\n" ⇒ accepted 5) ∷
    ("word,t,0,1\n" ⇒ accepted 6) ∷
    ("issue,r,3,0,9,0,0\n" ⇒ accepted 4) ∷
    ("issue,r,4,0,9,0,0\n" ⇒ accepted 5) ∷
    ("issue,r,5,0,9,0,0\n" ⇒ accepted 6) ∷
    ("issue,s,1,0,9,0,0\n" ⇒ accepted 7) ∷
    (("book,5,6,0,9,0,0,2,8" ∷ "hold,6" ∷ "hold,7" ∷ "cp,0" ∷ "pl,2" ∷ "tr,0000000000000008" ∷ "ax,3" ∷ "ax,1"
    ∷ "tr,0000000000000010" ∷ "ax,4" ∷ "ax,1" ∷ []) ⇛ accepted 8) ∷
    (("book,5,0,0,9,0,0,2,7" ∷ "hold,1" ∷ "hold,4" ∷ "cp,0" ∷ "pl,2" ∷ "ax,3" ∷ "cp,1" ∷ "ll,5,0000000000000010,0,9,0,0"
    ∷ "ax,4" ∷ "ax,6" ∷ []) ⇛ accepted 9) ∷
    (("book,5,1,0,9,0,0,2,5" ∷ "hold,5" ∷ "hold,2" ∷ "cp,0" ∷ "ll,2,0000000000000002,0,9,0,0" ∷ "p2" ∷ "ax,1" ∷ "ax,3"
    ∷ []) ⇛ Told.no 40 4) ∷
    (("book,5,1,0,9,0,0,2,5" ∷ "hold,5" ∷ "hold,2" ∷ "cp,0" ∷ "ll,2,0000000000000002,0,9,0,0" ∷ "p1" ∷ "ax,1" ∷ "ax,3"
    ∷ []) ⇛ accepted 10) ∷
    (("book,5,1,0,9,0,0,2,5" ∷ "hold,5" ∷ "hold,3" ∷ "cp,0" ∷ "ll,2,0000000000000002,0,9,0,0" ∷ "p1" ∷ "ax,1" ∷ "ax,3"
    ∷ []) ⇛ Told.no 40 4) ∷
    (("book,5,1,0,9,0,0,2,5" ∷ "hold,5" ∷ "hold,3" ∷ "cp,0" ∷ "ll,2,0000000000000002,0,9,0,0" ∷ "p2" ∷ "ax,1" ∷ "ax,3"
    ∷ []) ⇛ accepted 11) ∷ []

-- "L's window ⊇ J = from..to; A at J from the share .. then the goal from the rest with B at J for L": neither is at
-- L's window. A window that overlaps does not contain. No label of R is in the share.
abbrev pub lollies : List Turn
lollies =
    offers "word,l,0,1\n" ++
    ("issue,s,0,3,4,0,0\n" ⇒ accepted 4) ∷
    (("book,5,1,0,9,0,0,2,4" ∷ "hold,1" ∷ "hold,2" ∷ "cp,0" ∷ "ll,2,0000000000000003,0,9,0,0" ∷ "ax,1" ∷ "ax,3"
    ∷ []) ⇛ Told.no 40 2) ∷
    (("book,5,1,0,9,0,0,2,4" ∷ "hold,1" ∷ "hold,2" ∷ "cp,0" ∷ "ll,2,0000000000000002,5,10,0,0" ∷ "ax,1" ∷ "ax,3"
    ∷ []) ⇛ Told.no 40 2) ∷
    (("book,5,1,0,9,0,0,2,4" ∷ "hold,1" ∷ "hold,2" ∷ "cp,0" ∷ "ll,2,0000000000000002,3,4,0,0" ∷ "ax,1" ∷ "ax,3"
    ∷ []) ⇛ Told.no 40 4) ∷
    (("book,3,1,3,4,0,0,2,4" ∷ "hold,1" ∷ "hold,4" ∷ "cp,0" ∷ "ll,2,0000000000000002,0,9,0,0" ∷ "ax,1" ∷ "ax,3"
    ∷ []) ⇛ Told.no 40 3) ∷
    (("book,3,1,3,4,0,0,2,4" ∷ "hold,1" ∷ "hold,4" ∷ "cp,0" ∷ "ll,2,0000000000000002,3,4,0,0" ∷ "ax,1" ∷ "ax,3"
    ∷ []) ⇛ accepted 5) ∷ []

-- "A ⊃ B; the same, but A from an empty D": the linear atom cannot prove the left of ⊃, an unrestricted one can. A
-- and B are at J, and neither at L's window nor at the goal's.
abbrev pub arrows : List Turn
arrows =
    offers "word,u,0,1\n" ++
    ("issue,r,0,0,9,0,0\n" ⇒ accepted 4) ∷
    ("issue,r,0,3,4,0,0\n" ⇒ accepted 5) ∷
    (("book,5,1,0,9,0,0,2,4" ∷ "hold,1" ∷ "hold,2" ∷ "cp,0" ∷ "ul,2,0,9,0,0" ∷ "ax,1" ∷ "ax,3" ∷ []) ⇛ Told.no 40 3) ∷
    (("book,5,1,0,9,0,0,2,5" ∷ "hold,1" ∷ "hold,4" ∷ "cp,0" ∷ "ul,2,5,10,0,0" ∷ "cp,1" ∷ "ax,3" ∷ "ax,4"
    ∷ []) ⇛ Told.no 40 2) ∷
    (("book,5,1,0,9,0,0,2,5" ∷ "hold,1" ∷ "hold,4" ∷ "cp,0" ∷ "ul,2,3,4,0,0" ∷ "cp,1" ∷ "ax,3" ∷ "ax,4"
    ∷ []) ⇛ Told.no 40 5) ∷
    (("book,5,1,0,9,0,0,2,5" ∷ "hold,1" ∷ "hold,4" ∷ "cp,0" ∷ "ul,2,0,9,0,0" ∷ "cp,1" ∷ "ax,3" ∷ "ax,4"
    ∷ []) ⇛ accepted 6) ∷
    (("book,3,1,3,4,0,0,2,5" ∷ "hold,1" ∷ "hold,5" ∷ "cp,0" ∷ "ul,2,3,4,0,0" ∷ "cp,1" ∷ "ax,3" ∷ "ax,4"
    ∷ []) ⇛ accepted 7) ∷
    ("word,h,1,0,9,0,0\n" ⇒ accepted 3) ∷
    ("word,u,0,3\n" ⇒ accepted 4) ∷
    ("issue,r,4,0,9,0,0\n" ⇒ accepted 8) ∷
    (("book,5,1,0,9,0,0,2,6" ∷ "hold,8" ∷ "hold,5" ∷ "cp,0" ∷ "ul,2,3,4,0,0" ∷ "cp,1" ∷ "ax,3" ∷ "hl,4" ∷ "ax,5"
    ∷ []) ⇛ accepted 9) ∷ []

-- `br`: "!, D empty, then the part." `bl`: "the part joins R": what was in R stays there, and the second premise of a
-- step before it has R as it was.
abbrev pub bangs : List Turn
bangs =
    offers "word,b,1\n" ++
    ("word,t,1,1\n" ⇒ accepted 3) ∷
    ("word,l,2,0\n" ⇒ accepted 4) ∷
    ("issue,r,4,0,9,0,0\n" ⇒ accepted 4) ∷
    ("issue,r,1,0,9,0,0\n" ⇒ accepted 5) ∷
    (("book,5,3,0,9,0,0,1,7" ∷ "hold,1" ∷ "cp,0" ∷ "tr,0000000000000002" ∷ "bl,1" ∷ "cp,2" ∷ "ax,3" ∷ "cp,2" ∷ "ax,4"
    ∷ []) ⇛ Told.no 40 6) ∷
    (("book,5,3,0,9,0,0,1,7" ∷ "hold,1" ∷ "cp,0" ∷ "bl,1" ∷ "tr,0000000000000000" ∷ "cp,2" ∷ "ax,3" ∷ "cp,2" ∷ "ax,4"
    ∷ []) ⇛ accepted 6) ∷
    (("book,5,3,0,9,0,0,2,7" ∷ "hold,1" ∷ "hold,5" ∷ "cp,0" ∷ "bl,2" ∷ "tr,0000000000000000" ∷ "cp,3" ∷ "ax,4" ∷ "cp,1"
    ∷ "ax,5" ∷ []) ⇛ accepted 7) ∷
    (("book,5,0,0,9,0,0,2,5" ∷ "hold,4" ∷ "hold,3" ∷ "cp,0" ∷ "ll,2,0000000000000002,0,9,0,0" ∷ "br" ∷ "ax,1" ∷ "ax,3"
    ∷ []) ⇛ Told.no 40 3) ∷
    (("book,5,0,0,9,0,0,2,6" ∷ "hold,4" ∷ "hold,5" ∷ "cp,0" ∷ "ll,2,0000000000000000,0,9,0,0" ∷ "br" ∷ "cp,1" ∷ "ax,3"
    ∷ "ax,4" ∷ []) ⇛ accepted 8) ∷ []

-- `hr`: "A@J becomes A at J", not at I. `hl`: "likewise for L". Neither compares J with the window that it leaves.
abbrev pub moments : List Turn
moments =
    ("word,a,9,7\n" ⇒ accepted 0) ∷
    ("word,a,8,7\n" ⇒ accepted 1) ∷
    ("word,h,1,0,9,0,0\n" ⇒ accepted 2) ∷
    ("word,h,0,3,4,0,0\n" ⇒ accepted 3) ∷
    ("word,l,3,1\n" ⇒ accepted 4) ∷
    ("issue,r,2,3,4,0,0\n" ⇒ accepted 1) ∷
    ("issue,r,4,0,9,0,0\n" ⇒ accepted 2) ∷
    ("issue,s,0,3,4,0,0\n" ⇒ accepted 3) ∷
    (("book,5,1,0,9,0,0,1,3" ∷ "hold,1" ∷ "cp,0" ∷ "hl,1" ∷ "ax,2" ∷ []) ⇛ accepted 4) ∷
    (("book,5,1,0,9,0,0,2,5" ∷ "hold,2" ∷ "hold,3" ∷ "cp,0" ∷ "ll,2,0000000000000002,0,9,0,0" ∷ "hr" ∷ "ax,1" ∷ "ax,3"
    ∷ []) ⇛ accepted 5) ∷
    ("issue,r,3,5,9,0,0\n" ⇒ accepted 6) ∷
    ("issue,s,0,3,4,0,0\n" ⇒ accepted 7) ∷
    (("book,3,0,3,4,0,0,1,3" ∷ "hold,6" ∷ "cp,0" ∷ "hl,1" ∷ "ax,2" ∷ []) ⇛ accepted 8) ∷
    (("book,5,1,5,9,0,0,2,5" ∷ "hold,2" ∷ "hold,7" ∷ "cp,0" ∷ "ll,2,0000000000000002,5,9,0,0" ∷ "hr" ∷ "ax,1" ∷ "ax,3"
    ∷ []) ⇛ accepted 9) ∷ []

-- "K, I and windows stay unless named": the part that `sl` leaves is at L's window, not at the goal's. "The right steps
-- .. and `ax` need a goal without affirms"; `af` and `sl` need one with it.
abbrev pub affirmations : List Turn
affirmations =
    ("word,a,9,7\n" ⇒ accepted 0) ∷
    ("word,s,1,0\n" ⇒ accepted 1) ∷
    ("word,h,0,0,9,0,0\n" ⇒ accepted 2) ∷
    ("word,s,1,2\n" ⇒ accepted 3) ∷
    ("word,a,8,7\n" ⇒ accepted 4) ∷
    ("word,l,3,4\n" ⇒ accepted 5) ∷
    ("issue,r,5,0,9,0,0\n" ⇒ accepted 1) ∷
    ("issue,s,1,0,9,0,0\n" ⇒ accepted 2) ∷
    ("issue,s,0,0,9,0,0\n" ⇒ accepted 3) ∷
    (("book,3,4,3,4,0,0,2,8" ∷ "hold,1" ∷ "hold,2" ∷ "cp,0" ∷ "ll,2,0000000000000002,3,4,0,0" ∷ "sr" ∷ "sl,1" ∷ "af"
    ∷ "hr" ∷ "ax,3" ∷ "ax,4" ∷ []) ⇛ accepted 4) ∷
    (("book,5,0,0,9,0,0,1,2" ∷ "hold,3" ∷ "af" ∷ "ax,0" ∷ []) ⇛ Told.no 40 1) ∷
    (("book,5,1,0,9,0,0,1,2" ∷ "hold,3" ∷ "sr" ∷ "ax,0" ∷ []) ⇛ Told.no 40 2) ∷
    (("book,5,1,0,9,0,0,1,3" ∷ "hold,3" ∷ "sr" ∷ "af" ∷ "ax,0" ∷ []) ⇛ accepted 5) ∷
    (("book,5,0,0,9,0,0,1,2" ∷ "hold,5" ∷ "sl,0" ∷ "ax,1" ∷ []) ⇛ Told.no 40 1) ∷ []

-- `gr`: "⊇ that holds, D empty; closes": the first window is the wider, and to overlap is not enough. It asks nothing
-- of the goal's own window.
abbrev pub supersets : List Turn
supersets =
    ("word,a,9,7\n" ⇒ accepted 0) ∷
    ("word,g,0,9,0,0,3,4,0,0\n" ⇒ accepted 1) ∷
    ("word,g,3,4,0,0,0,9,0,0\n" ⇒ accepted 2) ∷
    ("word,g,0,5,0,0,3,9,0,0\n" ⇒ accepted 3) ∷
    ("word,u,1,0\n" ⇒ accepted 4) ∷
    ("word,u,2,0\n" ⇒ accepted 5) ∷
    ("word,u,3,0\n" ⇒ accepted 6) ∷
    ("word,l,1,0\n" ⇒ accepted 7) ∷
    ("issue,r,4,0,9,0,0\n" ⇒ accepted 1) ∷
    ("issue,r,5,0,9,0,0\n" ⇒ accepted 2) ∷
    ("issue,r,6,0,9,0,0\n" ⇒ accepted 3) ∷
    ("issue,r,7,0,9,0,0\n" ⇒ accepted 4) ∷
    ("issue,s,0,0,9,0,0\n" ⇒ accepted 5) ∷
    (("book,5,0,0,9,0,0,1,4" ∷ "hold,1" ∷ "cp,0" ∷ "ul,1,0,9,0,0" ∷ "gr" ∷ "ax,2" ∷ []) ⇛ accepted 6) ∷
    (("book,5,0,0,9,0,0,1,4" ∷ "hold,2" ∷ "cp,0" ∷ "ul,1,0,9,0,0" ∷ "gr" ∷ "ax,2" ∷ []) ⇛ Told.no 40 3) ∷
    (("book,5,0,0,9,0,0,1,4" ∷ "hold,3" ∷ "cp,0" ∷ "ul,1,0,9,0,0" ∷ "gr" ∷ "ax,2" ∷ []) ⇛ Told.no 40 3) ∷
    (("book,5,0,0,9,0,0,2,4" ∷ "hold,4" ∷ "hold,5" ∷ "cp,0" ∷ "ll,2,0000000000000002,0,9,0,0" ∷ "gr" ∷ "ax,3"
    ∷ []) ⇛ Told.no 40 3) ∷
    ("word,g,3,4,0,0,3,4,0,0\n" ⇒ accepted 8) ∷
    ("word,u,8,0\n" ⇒ accepted 9) ∷
    ("issue,r,9,0,9,0,0\n" ⇒ accepted 7) ∷
    (("book,5,0,0,9,0,0,1,4" ∷ "hold,7" ∷ "cp,0" ∷ "ul,1,0,9,0,0" ∷ "gr" ∷ "ax,2" ∷ []) ⇛ accepted 8) ∷ []

-- "Holds take labels 0, 1, .. in order", whatever their kind. Labels end at 63: one hold and 63 copies fit, the 64th
-- copy is 41 with its own step. 41 is given where the "step is right": `pl` on a ⊕ is 41 for its first premise, `tl` on
-- it is 40. `pl` takes a label for each arm as that premise begins. 41 "also for its second premise, found as that
-- begins", with the step of the rule: not where the first premise breaks a rule.
abbrev pub labels : List Turn
labels =
    ("word,a,9,7\n" ⇒ accepted 0) ∷
    ("word,p,0,0\n" ⇒ accepted 1) ∷
    ("word,l,0,1\n" ⇒ accepted 2) ∷
    ("word,o\n" ⇒ accepted 3) ∷
    ("word,l,3,0\n" ⇒ accepted 4) ∷
    ("issue,r,0,0,9,0,0\n" ⇒ accepted 1) ∷
    ("issue,r,2,0,9,0,0\n" ⇒ accepted 2) ∷
    ("issue,r,4,0,9,0,0\n" ⇒ accepted 3) ∷
    ("issue,s,0,0,9,0,0\n" ⇒ accepted 4) ∷
    (("book,5,0,0,9,0,0,1,64" ∷ "hold,1" ∷ times 64 "cp,0") ⇛ Told.no 41 64) ∷
    (("book,5,0,0,9,0,0,1,63" ∷ "hold,1" ∷ times 63 "cp,0") ⇛ Told.no 42 64) ∷
    (("book,5,0,0,9,0,0,1,65" ∷ "hold,3" ∷ times 63 "cp,0" ++ ("ll,1,0000000000000000,0,9,0,0" ∷ "or"
    ∷ [])) ⇛ Told.no 41 64) ∷
    (("book,5,0,0,9,0,0,1,65" ∷ "hold,3" ∷ times 63 "cp,0" ++ ("ll,1,0000000000000000,0,9,0,0" ∷ "wr"
    ∷ [])) ⇛ Told.no 40 65) ∷
    (("book,5,0,0,9,0,0,1,64" ∷ "hold,3" ∷ times 62 "cp,0" ++ ("ll,1,0000000000000000,0,9,0,0" ∷ "or"
    ∷ [])) ⇛ Told.no 42 65) ∷
    ("issue,r,1,0,9,0,0\n" ⇒ accepted 5) ∷
    (("book,5,0,0,9,0,0,1,64" ∷ "hold,5" ∷ times 63 "cp,0" ++ ("pl,1" ∷ [])) ⇛ Told.no 41 64) ∷
    (("book,5,0,0,9,0,0,1,64" ∷ "hold,5" ∷ times 63 "cp,0" ++ ("tl,1" ∷ [])) ⇛ Told.no 40 64) ∷
    (("book,5,0,0,9,0,0,3,5" ∷ "hold,1" ∷ "hold,2" ∷ "hold,4" ∷ "cp,1" ∷ "ll,3,0000000000000004,0,9,0,0" ∷ "ax,2"
    ∷ "pl,4" ∷ "ax,5" ∷ []) ⇛ Told.no 42 6) ∷
    (("book,5,0,0,9,0,0,3,6" ∷ "hold,1" ∷ "hold,2" ∷ "hold,4" ∷ "cp,1" ∷ "ll,3,0000000000000004,0,9,0,0" ∷ "ax,2"
    ∷ "pl,4" ∷ "ax,5" ∷ "ax,6" ∷ []) ⇛ accepted 6) ∷
    (("book,5,0,0,9,0,0,2,1" ∷ "hold,6" ∷ "hold,1" ∷ "ax,0" ∷ []) ⇛ accepted 7) ∷ []

abbrev pub step_cases : List (List Turn)
step_cases =
    copies ∷ tensors ∷ shares ∷ ones ∷ withs ∷ arms ∷ pluses ∷ lollies ∷ arrows ∷ bangs ∷ moments ∷ affirmations
    ∷ supersets ∷ labels ∷ []

abbrev pub StepCasesPlay : Type 0
StepCasesPlay = AllAnswered step_cases

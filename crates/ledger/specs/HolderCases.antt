-- Sessions for places in a holder's name. Document 02, ask 7, is quoted; ∀A is its `q`, for every holder, and P(h) its
-- `n` with holder h.
use Rattle.std.specs.Prelude.{List, [], ◌∷◌, ◌++◌}
use Prim.Native.String.{String}
use Rattle.ledger.specs.Calls.{Told, ok}
use Rattle.ledger.specs.Sessions.{times}
use Rattle.ledger.specs.Cases.{Turn, ◌⇒◌, ◌⇛◌, accepted, refused, AllAnswered}
use Rattle.ledger.specs.ConnectiveCases.{connectives, refused_left, refused_left_affirmed}

-- "Add wordings `n,predicate,session,holder` and `q,i`": the ends of each range, 0 to 65,535 for a holder, and a line
-- of another length (2). Two lines are equal (13) if they agree in everything, the holder too, and `n` equals no `a`: a
-- holder that was cut to 8 or 15 bits where it is read, or left out where lines are compared, would answer otherwise.
abbrev pub holder_lines : List Turn
holder_lines =
    ("word,n,2,7\n" ⇒ refused 2) ∷
    ("word,n,2,7,65536\n" ⇒ refused 2) ∷
    ("word,n,256,7,5\n" ⇒ refused 2) ∷
    ("word,n,2,65536,5\n" ⇒ refused 2) ∷
    ("word,q,0\n" ⇒ refused 10) ∷
    ("word,n,2,7,0\n" ⇒ accepted 0) ∷
    ("word,n,2,7,65535\n" ⇒ accepted 1) ∷
    ("word,n,2,7,5\n" ⇒ accepted 2) ∷
    ("word,n,2,7,5\n" ⇒ refused 13) ∷
    ("word,a,2,7\n" ⇒ accepted 3) ∷
    ("word,n,2,7,1\n" ⇒ accepted 4) ∷
    ("word,n,2,7,255\n" ⇒ accepted 5) ∷
    ("word,n,2,7,256\n" ⇒ accepted 6) ∷
    ("word,n,2,7,32767\n" ⇒ accepted 7) ∷
    ("word,n,2,65535,5\n" ⇒ accepted 8) ∷
    ("word,n,255,7,5\n" ⇒ accepted 9) ∷
    ("word,q,0\n" ⇒ accepted 10) ∷
    ("word,q,0\n" ⇒ refused 13) ∷
    ("word,q,11\n" ⇒ refused 10) ∷
    ("word,q,9\n" ⇒ accepted 11) ∷ []

-- "`q` never stands within `q`", and 53 "is the answer to a word that puts `q` within `q`": right below, on either side
-- of each connective, deeper, and of a line that is too large (12) too. Other lines may have a `q` in them, two of them
-- beside each other or none that binds, and "an `n` with holder 0 may be entered as a wording, for a later `q`", with
-- what is built on it. A 53 for another line, or one that looked at one side or passed a connective by, would answer
-- otherwise.
abbrev pub nested : List Turn
nested =
    ("word,n,2,7,0\n" ⇒ accepted 0) ∷
    ("word,q,0\n" ⇒ accepted 1) ∷
    ("word,q,1\n" ⇒ refused 53) ∷
    ("word,o\n" ⇒ accepted 2) ∷
    ("word,t,1,2\n" ⇒ accepted 3) ∷
    ("word,q,3\n" ⇒ refused 53) ∷
    ("word,t,2,1\n" ⇒ accepted 4) ∷
    ("word,q,4\n" ⇒ refused 53) ∷
    ("word,w,1,2\n" ⇒ accepted 5) ∷
    ("word,q,5\n" ⇒ refused 53) ∷
    ("word,w,2,1\n" ⇒ accepted 6) ∷
    ("word,q,6\n" ⇒ refused 53) ∷
    ("word,p,1,2\n" ⇒ accepted 7) ∷
    ("word,q,7\n" ⇒ refused 53) ∷
    ("word,p,2,1\n" ⇒ accepted 8) ∷
    ("word,q,8\n" ⇒ refused 53) ∷
    ("word,l,1,2\n" ⇒ accepted 9) ∷
    ("word,q,9\n" ⇒ refused 53) ∷
    ("word,l,2,1\n" ⇒ accepted 10) ∷
    ("word,q,10\n" ⇒ refused 53) ∷
    ("word,u,1,2\n" ⇒ accepted 11) ∷
    ("word,q,11\n" ⇒ refused 53) ∷
    ("word,u,2,1\n" ⇒ accepted 12) ∷
    ("word,q,12\n" ⇒ refused 53) ∷
    ("word,b,1\n" ⇒ accepted 13) ∷
    ("word,q,13\n" ⇒ refused 53) ∷
    ("word,h,1,0,9,0,0\n" ⇒ accepted 14) ∷
    ("word,q,14\n" ⇒ refused 53) ∷
    ("word,s,1,1\n" ⇒ accepted 15) ∷
    ("word,q,15\n" ⇒ refused 53) ∷
    ("word,b,4\n" ⇒ accepted 16) ∷
    ("word,s,1,16\n" ⇒ accepted 17) ∷
    ("word,q,17\n" ⇒ refused 53) ∷
    ("word,q,2\n" ⇒ accepted 18) ∷
    ("word,t,1,1\n" ⇒ accepted 19) ∷
    ("word,q,19\n" ⇒ refused 53) ∷
    ("word,t,0,1\n" ⇒ accepted 20) ∷
    ("word,q,20\n" ⇒ refused 53) ∷
    ("word,t,0,0\n" ⇒ accepted 21) ∷
    ("word,s,1,21\n" ⇒ accepted 22) ∷
    ("word,l,22,2\n" ⇒ accepted 23) ∷
    ("word,q,23\n" ⇒ accepted 24) ∷ []

-- A line's size is 1 and that of its parts (document 01, "size"): 1 for `n`, and `q` adds 1. Formulas 9, 15 and 16
-- are of size 64, and one more is 12; 53 comes before 12.
abbrev pub holder_sizes : List Turn
holder_sizes =
    ("word,n,2,7,0\n" ⇒ accepted 0) ∷
    ("word,q,0\n" ⇒ accepted 1) ∷
    ("word,t,1,1\n" ⇒ accepted 2) ∷
    ("word,t,2,2\n" ⇒ accepted 3) ∷
    ("word,t,3,3\n" ⇒ accepted 4) ∷
    ("word,t,4,4\n" ⇒ accepted 5) ∷
    ("word,t,5,3\n" ⇒ accepted 6) ∷
    ("word,t,6,2\n" ⇒ refused 12) ∷
    ("word,t,6,1\n" ⇒ accepted 7) ∷
    ("word,s,1,7\n" ⇒ accepted 8) ∷
    ("word,s,1,8\n" ⇒ accepted 9) ∷
    ("word,s,1,9\n" ⇒ refused 12) ∷
    ("word,q,9\n" ⇒ refused 53) ∷
    ("word,t,0,0\n" ⇒ accepted 10) ∷
    ("word,t,10,10\n" ⇒ accepted 11) ∷
    ("word,t,11,11\n" ⇒ accepted 12) ∷
    ("word,t,12,12\n" ⇒ accepted 13) ∷
    ("word,t,13,13\n" ⇒ accepted 14) ∷
    ("word,q,14\n" ⇒ accepted 15) ∷
    ("word,s,1,14\n" ⇒ accepted 16) ∷
    ("word,q,16\n" ⇒ refused 12) ∷ []

-- 53 is also the answer "to an issue or booking whose wording has holder 0 outside `q`": of either kind, on either side
-- of each connective, beside a `q` that has the same line in it; after 10 and before 20, 21, 30 and 24. Holder 1 is a
-- holder. A 53 that went by the line and not by its place, by one kind or for a bare `n` alone, or came later, would
-- answer otherwise.
abbrev pub loose : List Turn
loose =
    ("word,n,9,7,0\n" ⇒ accepted 0) ∷
    ("word,o\n" ⇒ accepted 1) ∷
    ("word,q,0\n" ⇒ accepted 2) ∷
    ("word,t,0,1\n" ⇒ accepted 3) ∷
    ("word,t,1,0\n" ⇒ accepted 4) ∷
    ("word,w,0,1\n" ⇒ accepted 5) ∷
    ("word,w,1,0\n" ⇒ accepted 6) ∷
    ("word,p,0,1\n" ⇒ accepted 7) ∷
    ("word,p,1,0\n" ⇒ accepted 8) ∷
    ("word,l,0,1\n" ⇒ accepted 9) ∷
    ("word,l,1,0\n" ⇒ accepted 10) ∷
    ("word,u,0,1\n" ⇒ accepted 11) ∷
    ("word,u,1,0\n" ⇒ accepted 12) ∷
    ("word,b,0\n" ⇒ accepted 13) ∷
    ("word,h,0,0,9,0,0\n" ⇒ accepted 14) ∷
    ("word,s,1,0\n" ⇒ accepted 15) ∷
    ("word,t,0,2\n" ⇒ accepted 16) ∷
    ("word,t,2,0\n" ⇒ accepted 17) ∷
    ("word,n,9,7,1\n" ⇒ accepted 18) ∷
    ("word,n,2,7,0\n" ⇒ accepted 19) ∷
    ("word,t,18,0\n" ⇒ accepted 20) ∷
    ("word,l,1,19\n" ⇒ accepted 21) ∷
    ("word,t,2,2\n" ⇒ accepted 22) ∷
    ("issue,r,3,0,9,0,0\n" ⇒ refused 53) ∷
    ("issue,r,4,0,9,0,0\n" ⇒ refused 53) ∷
    ("issue,r,5,0,9,0,0\n" ⇒ refused 53) ∷
    ("issue,r,6,0,9,0,0\n" ⇒ refused 53) ∷
    ("issue,r,7,0,9,0,0\n" ⇒ refused 53) ∷
    ("issue,r,8,0,9,0,0\n" ⇒ refused 53) ∷
    ("issue,r,9,0,9,0,0\n" ⇒ refused 53) ∷
    ("issue,r,10,0,9,0,0\n" ⇒ refused 53) ∷
    ("issue,r,11,0,9,0,0\n" ⇒ refused 53) ∷
    ("issue,r,12,0,9,0,0\n" ⇒ refused 53) ∷
    ("issue,r,13,0,9,0,0\n" ⇒ refused 53) ∷
    ("issue,r,14,0,9,0,0\n" ⇒ refused 53) ∷
    ("issue,r,15,0,9,0,0\n" ⇒ refused 53) ∷
    ("issue,r,16,0,9,0,0\n" ⇒ refused 53) ∷
    ("issue,r,17,0,9,0,0\n" ⇒ refused 53) ∷
    ("issue,r,0,0,9,0,0\n" ⇒ refused 53) ∷
    ("issue,r,19,0,9,0,0\n" ⇒ refused 53) ∷
    ("issue,r,21,0,9,0,0\n" ⇒ refused 53) ∷
    ("issue,s,0,0,9,0,0\n" ⇒ refused 53) ∷
    ("issue,s,19,0,9,0,0\n" ⇒ refused 53) ∷
    ("issue,s,20,0,9,0,0\n" ⇒ refused 53) ∷
    ("issue,s,15,0,9,0,0\n" ⇒ refused 53) ∷
    ("issue,s,3,0,9,0,0\n" ⇒ refused 53) ∷
    ("issue,s,16,0,9,0,0\n" ⇒ refused 53) ∷
    ("issue,s,99,0,9,0,0\n" ⇒ refused 10) ∷
    ("issue,r,99,0,9,0,0\n" ⇒ refused 10) ∷
    ("issue,s,18,0,9,0,0\n" ⇒ accepted 1) ∷
    ("issue,r,22,0,9,0,0\n" ⇒ accepted 2) ∷
    (("book,5,0,0,9,0,0,1,1" ∷ "hold,1" ∷ "ax,0" ∷ []) ⇛ refused 53) ∷
    (("book,5,19,0,9,0,0,1,1" ∷ "hold,1" ∷ "ax,0" ∷ []) ⇛ refused 53) ∷
    (("book,5,20,0,9,0,0,1,1" ∷ "hold,1" ∷ "ax,0" ∷ []) ⇛ refused 53) ∷
    (("book,5,15,0,9,0,0,1,1" ∷ "hold,1" ∷ "ax,0" ∷ []) ⇛ refused 53) ∷
    (("book,5,17,0,9,0,0,1,1" ∷ "hold,1" ∷ "ax,0" ∷ []) ⇛ refused 53) ∷
    (("book,5,6,0,9,0,0,1,1" ∷ "hold,1" ∷ "ax,0" ∷ []) ⇛ refused 53) ∷
    (("book,10,0,0,9,0,0,1,1" ∷ "hold,1" ∷ "ax,0" ∷ []) ⇛ refused 53) ∷
    (("book,5,0,0,9,0,0,1,1" ∷ "hold,9" ∷ "ax,0" ∷ []) ⇛ refused 53) ∷
    (("book,5,20,0,9,0,0,2,1" ∷ "hold,1" ∷ "hold,1" ∷ "ax,0" ∷ []) ⇛ refused 53) ∷
    (("book,10,99,0,9,0,0,1,1" ∷ "hold,1" ∷ "ax,0" ∷ []) ⇛ refused 10) ∷
    (("book,10,2,0,9,0,0,1,1" ∷ "hold,1" ∷ "ax,0" ∷ []) ⇛ refused 20) ∷
    (("book,5,18,0,9,0,0,1,1" ∷ "hold,1" ∷ "ax,0" ∷ []) ⇛ accepted 3) ∷ []

-- "`n` is an atom and weighs and is tallied like `a`; `q` as its part", and `q` never stands "in a plain wording,
-- though `n` may". `a` ⊸ `n` and `a` ⊸ `q` weigh 0, with a place for the seat too; of another session, or where the
-- arms under a `q` differ, they are 21. A seat of a holder is shut where it is bare, and open under ⟨1⟩ at its minutes.
-- An `n` that weighed 2, a `q` that weighed nothing or whose part was not looked at would answer otherwise.
abbrev pub named : List Turn
named =
    ("word,a,1,7\n" ⇒ accepted 0) ∷
    ("word,n,1,7,0\n" ⇒ accepted 1) ∷
    ("word,n,1,7,5\n" ⇒ accepted 2) ∷
    ("word,q,1\n" ⇒ accepted 3) ∷
    ("word,l,0,2\n" ⇒ accepted 4) ∷
    ("word,l,0,3\n" ⇒ accepted 5) ∷
    ("word,o\n" ⇒ accepted 6) ∷
    ("word,w,6,1\n" ⇒ accepted 7) ∷
    ("word,q,7\n" ⇒ accepted 8) ∷
    ("word,s,1,2\n" ⇒ accepted 9) ∷
    ("word,n,2,7,5\n" ⇒ accepted 10) ∷
    ("word,l,0,10\n" ⇒ accepted 11) ∷
    ("word,s,2,2\n" ⇒ accepted 12) ∷
    ("word,t,9,10\n" ⇒ accepted 13) ∷
    ("word,s,1,3\n" ⇒ accepted 14) ∷
    ("word,t,0,3\n" ⇒ accepted 15) ∷
    ("word,n,1,8,5\n" ⇒ accepted 16) ∷
    ("word,l,0,16\n" ⇒ accepted 17) ∷
    ("word,q,2\n" ⇒ accepted 18) ∷
    ("word,l,18,0\n" ⇒ accepted 19) ∷
    ("word,n,2,7,65535\n" ⇒ accepted 20) ∷
    ("issue,r,4,0,9,0,0\n" ⇒ accepted 1) ∷
    ("issue,r,5,0,9,0,0\n" ⇒ accepted 2) ∷
    ("issue,r,11,0,9,0,0\n" ⇒ accepted 3) ∷
    ("issue,r,19,0,9,0,0\n" ⇒ accepted 4) ∷
    ("issue,r,2,0,9,0,0\n" ⇒ refused 21) ∷
    ("issue,r,3,0,9,0,0\n" ⇒ refused 21) ∷
    ("issue,r,8,0,9,0,0\n" ⇒ refused 21) ∷
    ("issue,r,17,0,9,0,0\n" ⇒ refused 21) ∷
    ("issue,s,3,0,9,0,0\n" ⇒ refused 20) ∷
    ("issue,s,14,0,9,0,0\n" ⇒ refused 20) ∷
    ("issue,s,15,0,9,0,0\n" ⇒ refused 20) ∷
    ("issue,s,2,0,9,0,0\n" ⇒ accepted 5) ∷
    ("tally,7,5\n" ⇒ ok (0 ∷ 1 ∷ 0 ∷ [])) ∷
    ("issue,s,9,0,9,0,0\n" ⇒ accepted 6) ∷
    ("tally,7,5\n" ⇒ ok (1 ∷ 1 ∷ 0 ∷ [])) ∷
    ("issue,s,10,0,9,0,0\n" ⇒ accepted 7) ∷
    ("tally,7,5\n" ⇒ ok (1 ∷ 1 ∷ 1 ∷ [])) ∷
    ("issue,s,12,0,9,0,0\n" ⇒ accepted 8) ∷
    ("tally,7,5\n" ⇒ ok (1 ∷ 2 ∷ 1 ∷ [])) ∷
    ("issue,s,13,0,9,0,0\n" ⇒ accepted 9) ∷
    ("tally,7,5\n" ⇒ ok (2 ∷ 2 ∷ 2 ∷ [])) ∷
    ("issue,s,16,0,9,0,0\n" ⇒ accepted 10) ∷
    ("tally,7,5\n" ⇒ ok (2 ∷ 2 ∷ 2 ∷ [])) ∷
    ("issue,s,20,0,9,0,0\n" ⇒ accepted 11) ∷
    ("tally,7,5\n" ⇒ ok (2 ∷ 2 ∷ 3 ∷ [])) ∷
    ("tally,7,10\n" ⇒ ok (0 ∷ 4 ∷ 3 ∷ [])) ∷
    ("tally,8,5\n" ⇒ ok (0 ∷ 1 ∷ 0 ∷ [])) ∷
    (("book,5,3,0,9,0,0,1,1" ∷ "hold,5" ∷ "ax,0" ∷ []) ⇛ refused 20) ∷
    (("book,5,14,0,9,0,0,1,1" ∷ "hold,5" ∷ "ax,0" ∷ []) ⇛ refused 20) ∷
    (("book,5,15,0,9,0,0,1,1" ∷ "hold,5" ∷ "ax,0" ∷ []) ⇛ refused 20) ∷
    (("book,5,2,0,9,0,0,1,1" ∷ "hold,5" ∷ "ax,0" ∷ []) ⇛ accepted 12) ∷
    ("tally,7,5\n" ⇒ ok (2 ∷ 2 ∷ 3 ∷ [])) ∷ []

-- `al,L,holder` "uses `q` at one named holder, 1 to 65,535": L in D and a `q`. "Equality at `ax` is
-- that of the formula after the holder is put in": of two numbers, and never between `n` and `a`. A copy may go to
-- another holder. The holder goes along: into the goal of `ll` and of `ul`, into what joins R and what is copied from
-- there, through ⟨K⟩ under an affirming goal. "No step proves a `q`". The part takes one label (41).
abbrev pub everyone : List Turn
everyone =
    ("word,n,9,7,0\n" ⇒ accepted 0) ∷
    ("word,n,9,7,5\n" ⇒ accepted 1) ∷
    ("word,n,9,7,6\n" ⇒ accepted 2) ∷
    ("word,a,9,7\n" ⇒ accepted 3) ∷
    ("word,q,0\n" ⇒ accepted 4) ∷
    ("word,t,1,2\n" ⇒ accepted 5) ∷
    ("word,l,0,3\n" ⇒ accepted 6) ∷
    ("word,q,6\n" ⇒ accepted 7) ∷
    ("word,u,0,3\n" ⇒ accepted 8) ∷
    ("word,q,8\n" ⇒ accepted 9) ∷
    ("word,b,0\n" ⇒ accepted 10) ∷
    ("word,q,10\n" ⇒ accepted 11) ∷
    ("word,s,2,0\n" ⇒ accepted 12) ∷
    ("word,q,12\n" ⇒ accepted 13) ∷
    ("word,s,2,1\n" ⇒ accepted 14) ∷
    ("word,l,4,3\n" ⇒ accepted 15) ∷
    ("issue,r,4,0,9,0,0\n" ⇒ accepted 1) ∷
    ("issue,r,7,0,9,0,0\n" ⇒ accepted 2) ∷
    ("issue,s,1,0,9,0,0\n" ⇒ accepted 3) ∷
    ("issue,r,9,0,9,0,0\n" ⇒ accepted 4) ∷
    ("issue,r,1,0,9,0,0\n" ⇒ accepted 5) ∷
    ("issue,r,11,0,9,0,0\n" ⇒ accepted 6) ∷
    ("issue,r,13,0,9,0,0\n" ⇒ accepted 7) ∷
    ("issue,r,15,0,9,0,0\n" ⇒ accepted 8) ∷
    (("book,5,1,0,9,0,0,1,3" ∷ "hold,1" ∷ "cp,0" ∷ "al,1,0" ∷ "ax,2" ∷ []) ⇛ Told.no 2 0) ∷
    (("book,5,1,0,9,0,0,1,3" ∷ "hold,1" ∷ "cp,0" ∷ "al,1,65536" ∷ "ax,2" ∷ []) ⇛ Told.no 2 0) ∷
    (("book,5,1,0,9,0,0,1,2" ∷ "hold,1" ∷ "al,0,5" ∷ "ax,1" ∷ []) ⇛ Told.no 40 1) ∷
    (("book,5,1,0,9,0,0,1,2" ∷ "hold,3" ∷ "al,0,5" ∷ "ax,1" ∷ []) ⇛ Told.no 40 1) ∷
    (("book,5,1,0,9,0,0,1,2" ∷ "hold,1" ∷ "cp,0" ∷ "ax,1" ∷ []) ⇛ Told.no 40 2) ∷
    (("book,5,1,0,9,0,0,1,3" ∷ "hold,1" ∷ "cp,0" ∷ "al,1,6" ∷ "ax,2" ∷ []) ⇛ Told.no 40 3) ∷
    (("book,5,3,0,9,0,0,1,3" ∷ "hold,1" ∷ "cp,0" ∷ "al,1,5" ∷ "ax,2" ∷ []) ⇛ Told.no 40 3) ∷
    (("book,5,1,0,10,0,0,1,3" ∷ "hold,1" ∷ "cp,0" ∷ "al,1,5" ∷ "ax,2" ∷ []) ⇛ Told.no 40 3) ∷
    (("book,5,1,0,9,0,0,1,3" ∷ "hold,1" ∷ "cp,0" ∷ "al,1,5" ∷ "ax,2" ∷ []) ⇛ accepted 9) ∷
    (("book,5,5,0,9,0,0,1,7" ∷ "hold,1" ∷ "cp,0" ∷ "al,1,5" ∷ "cp,0" ∷ "al,3,6" ∷ "tr,0000000000000004" ∷ "ax,2"
    ∷ "ax,4" ∷ []) ⇛ accepted 10) ∷
    (("book,5,3,0,9,0,0,2,5" ∷ "hold,2" ∷ "hold,3" ∷ "cp,0" ∷ "al,2,6" ∷ "ll,3,0000000000000002,0,9,0,0" ∷ "ax,1"
    ∷ "ax,4" ∷ []) ⇛ Told.no 40 4) ∷
    (("book,5,3,0,9,0,0,2,5" ∷ "hold,2" ∷ "hold,3" ∷ "cp,0" ∷ "al,2,5" ∷ "ll,3,0000000000000002,0,9,0,0" ∷ "ax,1"
    ∷ "ax,4" ∷ []) ⇛ accepted 11) ∷
    (("book,5,3,0,9,0,0,2,6" ∷ "hold,4" ∷ "hold,5" ∷ "cp,0" ∷ "al,2,6" ∷ "ul,3,0,9,0,0" ∷ "cp,1" ∷ "ax,4" ∷ "ax,5"
    ∷ []) ⇛ Told.no 40 5) ∷
    (("book,5,3,0,9,0,0,2,6" ∷ "hold,4" ∷ "hold,5" ∷ "cp,0" ∷ "al,2,5" ∷ "ul,3,0,9,0,0" ∷ "cp,1" ∷ "ax,4" ∷ "ax,5"
    ∷ []) ⇛ accepted 12) ∷
    (("book,5,1,0,9,0,0,1,5" ∷ "hold,6" ∷ "cp,0" ∷ "al,1,6" ∷ "bl,2" ∷ "cp,3" ∷ "ax,4" ∷ []) ⇛ Told.no 40 5) ∷
    (("book,5,1,0,9,0,0,1,5" ∷ "hold,6" ∷ "cp,0" ∷ "al,1,5" ∷ "bl,2" ∷ "cp,3" ∷ "ax,4" ∷ []) ⇛ accepted 13) ∷
    (("book,5,14,0,9,0,0,1,6" ∷ "hold,7" ∷ "cp,0" ∷ "sr" ∷ "al,1,5" ∷ "sl,2" ∷ "af" ∷ "ax,3" ∷ []) ⇛ accepted 14) ∷
    (("book,5,3,0,9,0,0,2,5" ∷ "hold,8" ∷ "hold,1" ∷ "cp,0" ∷ "cp,1" ∷ "ll,2,0000000000000008,0,9,0,0" ∷ "ax,3"
    ∷ "ax,4" ∷ []) ⇛ Told.no 40 4) ∷
    (("book,5,1,0,9,0,0,1,64" ∷ "hold,1" ∷ times 63 "cp,0" ++ ("al,1,5" ∷ [])) ⇛ Told.no 41 64) ∷ []

-- "Equality at `ax` is that of the formula after the holder is put in": of kind, predicate, session and holder, to the
-- last bit. `al` takes "one named holder, 1 to 65,535" and labels 0 to 63 (2), and a holder that no line names; what is
-- under a `q` that binds nothing stays as it is.
abbrev pub equal_holders : List Turn
equal_holders =
    ("word,n,9,7,0\n" ⇒ accepted 0) ∷
    ("word,n,9,7,1\n" ⇒ accepted 1) ∷
    ("word,n,9,7,255\n" ⇒ accepted 2) ∷
    ("word,n,9,7,32767\n" ⇒ accepted 3) ∷
    ("word,n,9,7,65535\n" ⇒ accepted 4) ∷
    ("word,q,0\n" ⇒ accepted 5) ∷
    ("word,a,9,7\n" ⇒ accepted 6) ∷
    ("word,q,6\n" ⇒ accepted 7) ∷
    ("word,n,9,8,1\n" ⇒ accepted 8) ∷
    ("word,n,8,7,1\n" ⇒ accepted 9) ∷
    ("issue,r,5,0,9,0,0\n" ⇒ accepted 1) ∷
    ("issue,r,7,0,9,0,0\n" ⇒ accepted 2) ∷
    ("issue,s,1,0,9,0,0\n" ⇒ accepted 3) ∷
    ("issue,s,2,0,9,0,0\n" ⇒ accepted 4) ∷
    ("issue,s,8,0,9,0,0\n" ⇒ accepted 5) ∷
    ("issue,s,9,0,9,0,0\n" ⇒ accepted 6) ∷
    ("issue,s,6,0,9,0,0\n" ⇒ accepted 7) ∷
    (("book,5,1,0,9,0,0,1,3" ∷ "hold,1" ∷ "cp,0" ∷ "al,64,1" ∷ "ax,2" ∷ []) ⇛ refused 2) ∷
    (("book,5,1,0,9,0,0,1,3" ∷ "hold,1" ∷ "cp,0" ∷ "al,1,0" ∷ "ax,2" ∷ []) ⇛ refused 2) ∷
    (("book,5,1,0,9,0,0,1,3" ∷ "hold,1" ∷ "cp,0" ∷ "al,1,65536" ∷ "ax,2" ∷ []) ⇛ refused 2) ∷
    (("book,5,1,0,9,0,0,1,3" ∷ "hold,1" ∷ "cp,0" ∷ "al,1,2" ∷ "ax,2" ∷ []) ⇛ Told.no 40 3) ∷
    (("book,5,2,0,9,0,0,1,3" ∷ "hold,1" ∷ "cp,0" ∷ "al,1,65535" ∷ "ax,2" ∷ []) ⇛ Told.no 40 3) ∷
    (("book,5,3,0,9,0,0,1,3" ∷ "hold,1" ∷ "cp,0" ∷ "al,1,65535" ∷ "ax,2" ∷ []) ⇛ Told.no 40 3) ∷
    (("book,5,8,0,9,0,0,1,3" ∷ "hold,1" ∷ "cp,0" ∷ "al,1,1" ∷ "ax,2" ∷ []) ⇛ Told.no 40 3) ∷
    (("book,5,9,0,9,0,0,1,3" ∷ "hold,1" ∷ "cp,0" ∷ "al,1,1" ∷ "ax,2" ∷ []) ⇛ Told.no 40 3) ∷
    (("book,5,6,0,9,0,0,1,3" ∷ "hold,1" ∷ "cp,0" ∷ "al,1,1" ∷ "ax,2" ∷ []) ⇛ Told.no 40 3) ∷
    (("book,5,1,0,9,0,0,1,3" ∷ "hold,2" ∷ "cp,0" ∷ "al,1,1" ∷ "ax,2" ∷ []) ⇛ Told.no 40 3) ∷
    (("book,5,1,0,9,0,0,1,3" ∷ "hold,1" ∷ "cp,0" ∷ "al,1,9" ∷ "ax,2" ∷ []) ⇛ Told.no 40 3) ∷
    (("book,5,1,0,9,0,0,1,3" ∷ "hold,1" ∷ "cp,0" ∷ "al,1,1" ∷ "ax,2" ∷ []) ⇛ accepted 8) ∷
    (("book,5,4,0,9,0,0,1,3" ∷ "hold,1" ∷ "cp,0" ∷ "al,1,65535" ∷ "ax,2" ∷ []) ⇛ accepted 9) ∷
    (("book,5,6,0,9,0,0,1,3" ∷ "hold,2" ∷ "cp,0" ∷ "al,1,9" ∷ "ax,2" ∷ []) ⇛ accepted 10) ∷
    (("book,5,1,0,9,0,0,1,1" ∷ "hold,4" ∷ "ax,0" ∷ []) ⇛ Told.no 40 1) ∷
    (("book,5,1,0,9,0,0,1,1" ∷ "hold,5" ∷ "ax,0" ∷ []) ⇛ Told.no 40 1) ∷
    (("book,5,1,0,9,0,0,1,1" ∷ "hold,6" ∷ "ax,0" ∷ []) ⇛ Told.no 40 1) ∷
    (("book,5,1,0,9,0,0,1,1" ∷ "hold,7" ∷ "ax,0" ∷ []) ⇛ Told.no 40 1) ∷
    (("book,5,1,0,9,0,0,1,1" ∷ "hold,3" ∷ "ax,0" ∷ []) ⇛ accepted 11) ∷ []

-- The holder that `al` puts in goes along with the parts: both of `tl`, `w1`, `w2`, both arms of `pl`, `hl`, and B of
-- `ll` and `ul`. It comes in for holder 0 alone: ∀(P(5) ⊗ P(0)) at 6 is P(5) ⊗ P(6). A part that lost it or took the
-- goal's would not close here; at 6 no part closes a goal at 5.
abbrev pub parts_along : List Turn
parts_along =
    ("word,n,9,7,0\n" ⇒ accepted 0) ∷
    ("word,n,8,7,0\n" ⇒ accepted 1) ∷
    ("word,n,9,7,5\n" ⇒ accepted 2) ∷
    ("word,n,8,7,5\n" ⇒ accepted 3) ∷
    ("word,a,9,7\n" ⇒ accepted 4) ∷
    ("word,t,0,1\n" ⇒ accepted 5) ∷
    ("word,w,0,1\n" ⇒ accepted 6) ∷
    ("word,p,0,0\n" ⇒ accepted 7) ∷
    ("word,h,0,0,9,0,0\n" ⇒ accepted 8) ∷
    ("word,l,4,0\n" ⇒ accepted 9) ∷
    ("word,u,4,0\n" ⇒ accepted 10) ∷
    ("word,t,2,0\n" ⇒ accepted 11) ∷
    ("word,t,2,3\n" ⇒ accepted 12) ∷
    ("word,n,9,7,6\n" ⇒ accepted 13) ∷
    ("word,t,2,13\n" ⇒ accepted 14) ∷
    ("word,q,5\n" ⇒ accepted 15) ∷
    ("word,q,6\n" ⇒ accepted 16) ∷
    ("word,q,7\n" ⇒ accepted 17) ∷
    ("word,q,8\n" ⇒ accepted 18) ∷
    ("word,q,9\n" ⇒ accepted 19) ∷
    ("word,q,10\n" ⇒ accepted 20) ∷
    ("word,q,11\n" ⇒ accepted 21) ∷
    ("issue,r,15,0,9,0,0\n" ⇒ accepted 1) ∷
    ("issue,r,16,0,9,0,0\n" ⇒ accepted 2) ∷
    ("issue,r,17,0,9,0,0\n" ⇒ accepted 3) ∷
    ("issue,r,18,0,9,0,0\n" ⇒ accepted 4) ∷
    ("issue,r,19,0,9,0,0\n" ⇒ accepted 5) ∷
    ("issue,r,20,0,9,0,0\n" ⇒ accepted 6) ∷
    ("issue,r,21,0,9,0,0\n" ⇒ accepted 7) ∷
    ("issue,r,4,0,9,0,0\n" ⇒ accepted 8) ∷
    (("book,5,12,0,9,0,0,1,6" ∷ "hold,1" ∷ "cp,0" ∷ "al,1,6" ∷ "tl,2" ∷ "tr,0000000000000008" ∷ "ax,3" ∷ "ax,4"
    ∷ []) ⇛ Told.no 40 5) ∷
    (("book,5,12,0,9,0,0,1,6" ∷ "hold,1" ∷ "cp,0" ∷ "al,1,5" ∷ "tl,2" ∷ "tr,0000000000000008" ∷ "ax,3" ∷ "ax,4"
    ∷ []) ⇛ accepted 9) ∷
    (("book,5,2,0,9,0,0,1,4" ∷ "hold,2" ∷ "cp,0" ∷ "al,1,6" ∷ "w1,2" ∷ "ax,3" ∷ []) ⇛ Told.no 40 4) ∷
    (("book,5,2,0,9,0,0,1,4" ∷ "hold,2" ∷ "cp,0" ∷ "al,1,5" ∷ "w1,2" ∷ "ax,3" ∷ []) ⇛ accepted 10) ∷
    (("book,5,3,0,9,0,0,1,4" ∷ "hold,2" ∷ "cp,0" ∷ "al,1,6" ∷ "w2,2" ∷ "ax,3" ∷ []) ⇛ Told.no 40 4) ∷
    (("book,5,3,0,9,0,0,1,4" ∷ "hold,2" ∷ "cp,0" ∷ "al,1,5" ∷ "w2,2" ∷ "ax,3" ∷ []) ⇛ accepted 11) ∷
    (("book,5,2,0,9,0,0,1,5" ∷ "hold,3" ∷ "cp,0" ∷ "al,1,6" ∷ "pl,2" ∷ "ax,3" ∷ "ax,4" ∷ []) ⇛ Told.no 40 4) ∷
    (("book,5,2,0,9,0,0,1,5" ∷ "hold,3" ∷ "cp,0" ∷ "al,1,5" ∷ "pl,2" ∷ "ax,3" ∷ "ax,4" ∷ []) ⇛ accepted 12) ∷
    (("book,5,2,0,9,0,0,1,4" ∷ "hold,4" ∷ "cp,0" ∷ "al,1,6" ∷ "hl,2" ∷ "ax,3" ∷ []) ⇛ Told.no 40 4) ∷
    (("book,5,2,0,9,0,0,1,4" ∷ "hold,4" ∷ "cp,0" ∷ "al,1,5" ∷ "hl,2" ∷ "ax,3" ∷ []) ⇛ accepted 13) ∷
    (("book,5,2,0,9,0,0,2,6" ∷ "hold,5" ∷ "hold,8" ∷ "cp,0" ∷ "al,2,6" ∷ "ll,3,0000000000000000,0,9,0,0" ∷ "cp,1"
    ∷ "ax,4" ∷ "ax,5" ∷ []) ⇛ Told.no 40 6) ∷
    (("book,5,2,0,9,0,0,2,6" ∷ "hold,5" ∷ "hold,8" ∷ "cp,0" ∷ "al,2,5" ∷ "ll,3,0000000000000000,0,9,0,0" ∷ "cp,1"
    ∷ "ax,4" ∷ "ax,5" ∷ []) ⇛ accepted 14) ∷
    (("book,5,2,0,9,0,0,2,6" ∷ "hold,6" ∷ "hold,8" ∷ "cp,0" ∷ "al,2,6" ∷ "ul,3,0,9,0,0" ∷ "cp,1" ∷ "ax,4" ∷ "ax,5"
    ∷ []) ⇛ Told.no 40 6) ∷
    (("book,5,2,0,9,0,0,2,6" ∷ "hold,6" ∷ "hold,8" ∷ "cp,0" ∷ "al,2,5" ∷ "ul,3,0,9,0,0" ∷ "cp,1" ∷ "ax,4" ∷ "ax,5"
    ∷ []) ⇛ accepted 15) ∷
    (("book,5,14,0,9,0,0,1,6" ∷ "hold,7" ∷ "cp,0" ∷ "al,1,6" ∷ "tl,2" ∷ "tr,0000000000000008" ∷ "ax,3" ∷ "ax,4"
    ∷ []) ⇛ accepted 16) ∷ []

-- It goes along with goals too. Each of serials 1 to 6 is ∀(A ⊸ `a`), so at 5 the first premise of `ll` proves A at 5:
-- `tr`, `wr`, `p1`, `p2`, `br`, `hr`, `sr` and `af` leave it in each part, and a P(5) closes that; at 6 it does not.
-- Then: one line at 5 does not equal itself at 6, and a second premise of `ll` or `ul` keeps the holder of its goal.
abbrev pub goals_along : List Turn
goals_along =
    ("word,n,9,7,0\n" ⇒ accepted 0) ∷
    ("word,n,8,7,0\n" ⇒ accepted 1) ∷
    ("word,n,9,7,5\n" ⇒ accepted 2) ∷
    ("word,n,8,7,5\n" ⇒ accepted 3) ∷
    ("word,a,9,7\n" ⇒ accepted 4) ∷
    ("word,t,0,1\n" ⇒ accepted 5) ∷
    ("word,w,0,1\n" ⇒ accepted 6) ∷
    ("word,p,0,1\n" ⇒ accepted 7) ∷
    ("word,b,0\n" ⇒ accepted 8) ∷
    ("word,h,0,0,9,0,0\n" ⇒ accepted 9) ∷
    ("word,s,2,0\n" ⇒ accepted 10) ∷
    ("word,l,5,4\n" ⇒ accepted 11) ∷
    ("word,l,6,4\n" ⇒ accepted 12) ∷
    ("word,l,7,4\n" ⇒ accepted 13) ∷
    ("word,l,8,4\n" ⇒ accepted 14) ∷
    ("word,l,9,4\n" ⇒ accepted 15) ∷
    ("word,l,10,4\n" ⇒ accepted 16) ∷
    ("word,l,0,4\n" ⇒ accepted 17) ∷
    ("word,l,4,2\n" ⇒ accepted 18) ∷
    ("word,u,4,2\n" ⇒ accepted 19) ∷
    ("word,q,0\n" ⇒ accepted 20) ∷
    ("word,q,11\n" ⇒ accepted 21) ∷
    ("word,q,12\n" ⇒ accepted 22) ∷
    ("word,q,13\n" ⇒ accepted 23) ∷
    ("word,q,14\n" ⇒ accepted 24) ∷
    ("word,q,15\n" ⇒ accepted 25) ∷
    ("word,q,16\n" ⇒ accepted 26) ∷
    ("word,q,17\n" ⇒ accepted 27) ∷
    ("issue,r,21,0,9,0,0\n" ⇒ accepted 1) ∷
    ("issue,r,22,0,9,0,0\n" ⇒ accepted 2) ∷
    ("issue,r,23,0,9,0,0\n" ⇒ accepted 3) ∷
    ("issue,r,24,0,9,0,0\n" ⇒ accepted 4) ∷
    ("issue,r,25,0,9,0,0\n" ⇒ accepted 5) ∷
    ("issue,r,26,0,9,0,0\n" ⇒ accepted 6) ∷
    ("issue,r,2,0,9,0,0\n" ⇒ accepted 7) ∷
    ("issue,r,3,0,9,0,0\n" ⇒ accepted 8) ∷
    ("issue,r,27,0,9,0,0\n" ⇒ accepted 9) ∷
    ("issue,r,18,0,9,0,0\n" ⇒ accepted 10) ∷
    ("issue,r,19,0,9,0,0\n" ⇒ accepted 11) ∷
    ("issue,r,4,0,9,0,0\n" ⇒ accepted 12) ∷
    ("issue,r,20,0,9,0,0\n" ⇒ accepted 13) ∷
    (("book,5,4,0,9,0,0,3,9" ∷ "hold,1" ∷ "hold,7" ∷ "hold,8" ∷ "cp,0" ∷ "al,3,6" ∷ "ll,4,0000000000000000,0,9,0,0"
    ∷ "tr,0000000000000000" ∷ "cp,1" ∷ "ax,5" ∷ "cp,2" ∷ "ax,6" ∷ "ax,7" ∷ []) ⇛ Told.no 40 6) ∷
    (("book,5,4,0,9,0,0,3,9" ∷ "hold,1" ∷ "hold,7" ∷ "hold,8" ∷ "cp,0" ∷ "al,3,5" ∷ "ll,4,0000000000000000,0,9,0,0"
    ∷ "tr,0000000000000000" ∷ "cp,1" ∷ "ax,5" ∷ "cp,2" ∷ "ax,6" ∷ "ax,7" ∷ []) ⇛ accepted 14) ∷
    (("book,5,4,0,9,0,0,3,9" ∷ "hold,2" ∷ "hold,7" ∷ "hold,8" ∷ "cp,0" ∷ "al,3,6" ∷ "ll,4,0000000000000000,0,9,0,0"
    ∷ "wr" ∷ "cp,1" ∷ "ax,5" ∷ "cp,2" ∷ "ax,6" ∷ "ax,7" ∷ []) ⇛ Told.no 40 6) ∷
    (("book,5,4,0,9,0,0,3,9" ∷ "hold,2" ∷ "hold,7" ∷ "hold,8" ∷ "cp,0" ∷ "al,3,5" ∷ "ll,4,0000000000000000,0,9,0,0"
    ∷ "wr" ∷ "cp,1" ∷ "ax,5" ∷ "cp,2" ∷ "ax,6" ∷ "ax,7" ∷ []) ⇛ accepted 15) ∷
    (("book,5,4,0,9,0,0,2,7" ∷ "hold,3" ∷ "hold,7" ∷ "cp,0" ∷ "al,2,6" ∷ "ll,3,0000000000000000,0,9,0,0" ∷ "p1"
    ∷ "cp,1" ∷ "ax,4" ∷ "ax,5" ∷ []) ⇛ Told.no 40 6) ∷
    (("book,5,4,0,9,0,0,2,7" ∷ "hold,3" ∷ "hold,7" ∷ "cp,0" ∷ "al,2,5" ∷ "ll,3,0000000000000000,0,9,0,0" ∷ "p1"
    ∷ "cp,1" ∷ "ax,4" ∷ "ax,5" ∷ []) ⇛ accepted 16) ∷
    (("book,5,4,0,9,0,0,2,7" ∷ "hold,3" ∷ "hold,8" ∷ "cp,0" ∷ "al,2,6" ∷ "ll,3,0000000000000000,0,9,0,0" ∷ "p2"
    ∷ "cp,1" ∷ "ax,4" ∷ "ax,5" ∷ []) ⇛ Told.no 40 6) ∷
    (("book,5,4,0,9,0,0,2,7" ∷ "hold,3" ∷ "hold,8" ∷ "cp,0" ∷ "al,2,5" ∷ "ll,3,0000000000000000,0,9,0,0" ∷ "p2"
    ∷ "cp,1" ∷ "ax,4" ∷ "ax,5" ∷ []) ⇛ accepted 17) ∷
    (("book,5,4,0,9,0,0,2,7" ∷ "hold,4" ∷ "hold,7" ∷ "cp,0" ∷ "al,2,6" ∷ "ll,3,0000000000000000,0,9,0,0" ∷ "br"
    ∷ "cp,1" ∷ "ax,4" ∷ "ax,5" ∷ []) ⇛ Told.no 40 6) ∷
    (("book,5,4,0,9,0,0,2,7" ∷ "hold,4" ∷ "hold,7" ∷ "cp,0" ∷ "al,2,5" ∷ "ll,3,0000000000000000,0,9,0,0" ∷ "br"
    ∷ "cp,1" ∷ "ax,4" ∷ "ax,5" ∷ []) ⇛ accepted 18) ∷
    (("book,5,4,0,9,0,0,2,7" ∷ "hold,5" ∷ "hold,7" ∷ "cp,0" ∷ "al,2,6" ∷ "ll,3,0000000000000000,0,9,0,0" ∷ "hr"
    ∷ "cp,1" ∷ "ax,4" ∷ "ax,5" ∷ []) ⇛ Told.no 40 6) ∷
    (("book,5,4,0,9,0,0,2,7" ∷ "hold,5" ∷ "hold,7" ∷ "cp,0" ∷ "al,2,5" ∷ "ll,3,0000000000000000,0,9,0,0" ∷ "hr"
    ∷ "cp,1" ∷ "ax,4" ∷ "ax,5" ∷ []) ⇛ accepted 19) ∷
    (("book,5,4,0,9,0,0,2,8" ∷ "hold,6" ∷ "hold,7" ∷ "cp,0" ∷ "al,2,6" ∷ "ll,3,0000000000000000,0,9,0,0" ∷ "sr" ∷ "af"
    ∷ "cp,1" ∷ "ax,4" ∷ "ax,5" ∷ []) ⇛ Told.no 40 7) ∷
    (("book,5,4,0,9,0,0,2,8" ∷ "hold,6" ∷ "hold,7" ∷ "cp,0" ∷ "al,2,5" ∷ "ll,3,0000000000000000,0,9,0,0" ∷ "sr" ∷ "af"
    ∷ "cp,1" ∷ "ax,4" ∷ "ax,5" ∷ []) ⇛ accepted 20) ∷
    (("book,5,4,0,9,0,0,2,7" ∷ "hold,9" ∷ "hold,13" ∷ "cp,0" ∷ "al,2,5" ∷ "cp,1" ∷ "al,4,6"
    ∷ "ll,3,0000000000000020,0,9,0,0" ∷ "ax,5" ∷ "ax,6" ∷ []) ⇛ Told.no 40 6) ∷
    (("book,5,4,0,9,0,0,2,7" ∷ "hold,9" ∷ "hold,13" ∷ "cp,0" ∷ "al,2,5" ∷ "cp,1" ∷ "al,4,5"
    ∷ "ll,3,0000000000000020,0,9,0,0" ∷ "ax,5" ∷ "ax,6" ∷ []) ⇛ accepted 21) ∷
    (("book,5,4,0,9,0,0,3,9" ∷ "hold,9" ∷ "hold,10" ∷ "hold,12" ∷ "cp,0" ∷ "al,3,6" ∷ "ll,4,0000000000000000,0,9,0,0"
    ∷ "cp,1" ∷ "ll,5,0000000000000000,0,9,0,0" ∷ "cp,2" ∷ "ax,6" ∷ "ax,7" ∷ "ax,8" ∷ []) ⇛ Told.no 40 8) ∷
    (("book,5,4,0,9,0,0,3,9" ∷ "hold,9" ∷ "hold,10" ∷ "hold,12" ∷ "cp,0" ∷ "al,3,5" ∷ "ll,4,0000000000000000,0,9,0,0"
    ∷ "cp,1" ∷ "ll,5,0000000000000000,0,9,0,0" ∷ "cp,2" ∷ "ax,6" ∷ "ax,7" ∷ "ax,8" ∷ []) ⇛ accepted 22) ∷
    (("book,5,4,0,9,0,0,3,9" ∷ "hold,9" ∷ "hold,11" ∷ "hold,12" ∷ "cp,0" ∷ "al,3,6" ∷ "ll,4,0000000000000000,0,9,0,0"
    ∷ "cp,1" ∷ "ul,5,0,9,0,0" ∷ "cp,2" ∷ "ax,6" ∷ "ax,7" ∷ "ax,8" ∷ []) ⇛ Told.no 40 8) ∷
    (("book,5,4,0,9,0,0,3,9" ∷ "hold,9" ∷ "hold,11" ∷ "hold,12" ∷ "cp,0" ∷ "al,3,5" ∷ "ll,4,0000000000000000,0,9,0,0"
    ∷ "cp,1" ∷ "ul,5,0,9,0,0" ∷ "cp,2" ∷ "ax,6" ∷ "ax,7" ∷ "ax,8" ∷ []) ⇛ accepted 23) ∷ []

-- "A new step `al,L,holder` uses `q`" and nothing else: of the connectives of ConnectiveCases.antt, serials 1 to 12,
-- every one is refused, where the goal affirms too.
abbrev pub other_than_every : List Turn
other_than_every =
    connectives
    ++ refused_left "al,1,5" ("hold,1" ∷ "hold,3" ∷ "hold,4" ∷ "hold,5" ∷ "hold,6" ∷ "hold,7" ∷ "hold,8" ∷ "hold,9"
    ∷ "hold,10" ∷ "hold,11" ∷ "hold,12" ∷ [])
    ++ refused_left_affirmed "al,1,5" ("hold,1" ∷ "hold,3" ∷ "hold,4" ∷ "hold,5" ∷ "hold,6" ∷ "hold,7" ∷ "hold,8"
    ∷ "hold,9" ∷ "hold,10" ∷ "hold,11" ∷ "hold,12" ∷ [])

-- a right step for ∀P(0), which is left of ⊸ in serial 1, breaks its rule; and so does a left step on serial 2, ∀P(0)
unfoldable pub proves_every : List String → List Turn
proves_every [] = []
proves_every (step ∷ steps) =
    (("book,5,2,0,9,0,0,1,3" ∷ "hold,1" ∷ "cp,0" ∷ "ll,1,0000000000000000,0,9,0,0" ∷ step ∷ []) ⇛ Told.no 40 3)
    ∷ proves_every steps

unfoldable pub uses_every : List String → List Turn
uses_every [] = []
uses_every (step ∷ steps) =
    (("book,5,2,0,9,0,0,1,2" ∷ "hold,2" ∷ "cp,0" ∷ step ∷ []) ⇛ Told.no 40 2)
    ∷ (("book,5,4,0,9,0,0,1,3" ∷ "hold,2" ∷ "cp,0" ∷ "sr" ∷ step ∷ []) ⇛ Told.no 40 3) ∷ uses_every steps

-- No left step but `al` uses a `q`, and "no step proves a `q`": every right step is refused, and `ax` on an equal `q`.
-- A step that took `q` for its own connective would pass.
abbrev pub only_every : List Turn
only_every =
    ("word,n,9,7,0\n" ⇒ accepted 0) ∷
    ("word,q,0\n" ⇒ accepted 1) ∷
    ("word,a,9,7\n" ⇒ accepted 2) ∷
    ("word,l,1,2\n" ⇒ accepted 3) ∷
    ("word,s,1,2\n" ⇒ accepted 4) ∷
    ("issue,r,3,0,9,0,0\n" ⇒ accepted 1) ∷
    ("issue,r,1,0,9,0,0\n" ⇒ accepted 2) ∷
    (("book,5,2,0,9,0,0,2,4" ∷ "hold,1" ∷ "hold,2" ∷ "cp,0" ∷ "cp,1" ∷ "ll,2,0000000000000008,0,9,0,0" ∷ "ax,3"
    ∷ []) ⇛ Told.no 40 4) ∷
    (("book,5,2,0,9,0,0,2,5" ∷ "hold,1" ∷ "hold,2" ∷ "cp,0" ∷ "cp,1" ∷ "ll,2,0000000000000008,0,9,0,0" ∷ "al,3,5"
    ∷ "ax,4" ∷ []) ⇛ Told.no 40 5) ∷ []
    ++ proves_every ("or" ∷ "tr,0000000000000000" ∷ "wr" ∷ "p1" ∷ "p2" ∷ "br" ∷ "hr" ∷ "sr" ∷ "gr" ∷ "af" ∷ [])
    ++ uses_every ("ax,1" ∷ "ol,1" ∷ "tl,1" ∷ "w1,1" ∷ "w2,1" ∷ "pl,1" ∷ "ll,1,0000000000000000,0,9,0,0" ∷
    "ul,1,0,9,0,0"
    ∷ "bl,1" ∷ "hl,1" ∷ "sl,1" ∷ [])

abbrev pub holder_cases : List (List Turn)
holder_cases =
    holder_lines ∷ nested ∷ holder_sizes ∷ loose ∷ named ∷ everyone ∷ equal_holders ∷ parts_along
    ∷ goals_along ∷ other_than_every ∷ only_every ∷ []

abbrev pub HolderCasesPlay : Type 0
HolderCasesPlay = AllAnswered holder_cases

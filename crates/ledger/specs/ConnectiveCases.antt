-- Sessions for what each step asks of the formula it is about and of the goal: a step on another connective than its
-- own, `ax` on what is no atom, a left step on a standing label, the right steps under "K affirms". No weight tells
-- these apart. Document 01's section "Steps" is quoted.
use Rattle.std.specs.Prelude.{List, [], ◌∷◌, ◌++◌}
use Prim.Native.String.{String}
use Rattle.ledger.specs.Calls.{Told}
use Rattle.ledger.specs.Cases.{Turn, ◌⇒◌, ◌⇛◌, accepted, AllAnswered}

-- Every connective, unrestricted. Formula n is held by serial n + 1: 0 and 1 are atoms, 2 to 11 are 1, ⊗, &, ⊕, ⊸, ⊃,
-- !, @, ⟨1⟩, ⊇. Formulas 12 to 22 are n ⊸ atom 1 for n from 2 to 11 and for the atom 0.
abbrev pub connectives : List Turn
connectives =
    ("word,a,9,7\n" ⇒ accepted 0) ∷
    ("word,a,8,7\n" ⇒ accepted 1) ∷
    ("word,o\n" ⇒ accepted 2) ∷
    ("word,t,0,0\n" ⇒ accepted 3) ∷
    ("word,w,0,0\n" ⇒ accepted 4) ∷
    ("word,p,0,0\n" ⇒ accepted 5) ∷
    ("word,l,0,0\n" ⇒ accepted 6) ∷
    ("word,u,0,0\n" ⇒ accepted 7) ∷
    ("word,b,0\n" ⇒ accepted 8) ∷
    ("word,h,0,0,9,0,0\n" ⇒ accepted 9) ∷
    ("word,s,1,0\n" ⇒ accepted 10) ∷
    ("word,g,0,9,0,0,0,9,0,0\n" ⇒ accepted 11) ∷
    ("word,l,2,1\n" ⇒ accepted 12) ∷
    ("word,l,3,1\n" ⇒ accepted 13) ∷
    ("word,l,4,1\n" ⇒ accepted 14) ∷
    ("word,l,5,1\n" ⇒ accepted 15) ∷
    ("word,l,6,1\n" ⇒ accepted 16) ∷
    ("word,l,7,1\n" ⇒ accepted 17) ∷
    ("word,l,8,1\n" ⇒ accepted 18) ∷
    ("word,l,9,1\n" ⇒ accepted 19) ∷
    ("word,l,10,1\n" ⇒ accepted 20) ∷
    ("word,l,11,1\n" ⇒ accepted 21) ∷
    ("word,l,0,1\n" ⇒ accepted 22) ∷
    ("issue,r,0,0,9,0,0\n" ⇒ accepted 1) ∷
    ("issue,r,1,0,9,0,0\n" ⇒ accepted 2) ∷
    ("issue,r,2,0,9,0,0\n" ⇒ accepted 3) ∷
    ("issue,r,3,0,9,0,0\n" ⇒ accepted 4) ∷
    ("issue,r,4,0,9,0,0\n" ⇒ accepted 5) ∷
    ("issue,r,5,0,9,0,0\n" ⇒ accepted 6) ∷
    ("issue,r,6,0,9,0,0\n" ⇒ accepted 7) ∷
    ("issue,r,7,0,9,0,0\n" ⇒ accepted 8) ∷
    ("issue,r,8,0,9,0,0\n" ⇒ accepted 9) ∷
    ("issue,r,9,0,9,0,0\n" ⇒ accepted 10) ∷
    ("issue,r,10,0,9,0,0\n" ⇒ accepted 11) ∷
    ("issue,r,11,0,9,0,0\n" ⇒ accepted 12) ∷
    ("issue,r,12,0,9,0,0\n" ⇒ accepted 13) ∷
    ("issue,r,13,0,9,0,0\n" ⇒ accepted 14) ∷
    ("issue,r,14,0,9,0,0\n" ⇒ accepted 15) ∷
    ("issue,r,15,0,9,0,0\n" ⇒ accepted 16) ∷
    ("issue,r,16,0,9,0,0\n" ⇒ accepted 17) ∷
    ("issue,r,17,0,9,0,0\n" ⇒ accepted 18) ∷
    ("issue,r,18,0,9,0,0\n" ⇒ accepted 19) ∷
    ("issue,r,19,0,9,0,0\n" ⇒ accepted 20) ∷
    ("issue,r,20,0,9,0,0\n" ⇒ accepted 21) ∷
    ("issue,r,21,0,9,0,0\n" ⇒ accepted 22) ∷
    ("issue,r,22,0,9,0,0\n" ⇒ accepted 23) ∷ []

-- a left step at the copy of each of these holds breaks its rule
unfoldable pub refused_left : String → List String → List Turn
refused_left step [] = []
refused_left step (hold ∷ holds) =
    (("book,5,0,0,9,0,0,1,2" ∷ hold ∷ "cp,0" ∷ step ∷ []) ⇛ Told.no 40 2) ∷ refused_left step holds

-- the same where the goal is "K affirms A"
unfoldable pub refused_left_affirmed : String → List String → List Turn
refused_left_affirmed step [] = []
refused_left_affirmed step (hold ∷ holds) =
    (("book,5,10,0,9,0,0,1,3" ∷ hold ∷ "cp,0" ∷ "sr" ∷ step ∷ []) ⇛ Told.no 40 3) ∷ refused_left_affirmed step holds

-- A left step on every other connective: "`tl,L`: both parts" of a ⊗ and of nothing else, and so on. A step that took
-- a second connective for its own would pass.
abbrev pub other_lefts : List Turn
other_lefts =
    connectives
    ++ refused_left "ol,1" ("hold,1" ∷ "hold,4" ∷ "hold,5" ∷ "hold,6" ∷ "hold,7" ∷ "hold,8" ∷ "hold,9" ∷ "hold,10"
    ∷ "hold,11" ∷ "hold,12" ∷ [])
    ++ refused_left "tl,1" ("hold,1" ∷ "hold,3" ∷ "hold,5" ∷ "hold,6" ∷ "hold,7" ∷ "hold,8" ∷ "hold,9" ∷ "hold,10"
    ∷ "hold,11" ∷ "hold,12" ∷ [])
    ++ refused_left "w1,1" ("hold,1" ∷ "hold,3" ∷ "hold,4" ∷ "hold,6" ∷ "hold,7" ∷ "hold,8" ∷ "hold,9" ∷ "hold,10"
    ∷ "hold,11" ∷ "hold,12" ∷ [])
    ++ refused_left "w2,1" ("hold,1" ∷ "hold,3" ∷ "hold,4" ∷ "hold,6" ∷ "hold,7" ∷ "hold,8" ∷ "hold,9" ∷ "hold,10"
    ∷ "hold,11" ∷ "hold,12" ∷ [])
    ++ refused_left "pl,1" ("hold,1" ∷ "hold,3" ∷ "hold,4" ∷ "hold,5" ∷ "hold,7" ∷ "hold,8" ∷ "hold,9" ∷ "hold,10"
    ∷ "hold,11" ∷ "hold,12" ∷ [])
    ++ refused_left "ll,1,0000000000000000,0,9,0,0" ("hold,1" ∷ "hold,3" ∷ "hold,4" ∷ "hold,5" ∷ "hold,6" ∷ "hold,8"
    ∷ "hold,9" ∷ "hold,10" ∷ "hold,11" ∷ "hold,12" ∷ [])
    ++ refused_left "ul,1,0,9,0,0" ("hold,1" ∷ "hold,3" ∷ "hold,4" ∷ "hold,5" ∷ "hold,6" ∷ "hold,7" ∷ "hold,9"
    ∷ "hold,10" ∷ "hold,11" ∷ "hold,12" ∷ [])
    ++ refused_left "bl,1" ("hold,1" ∷ "hold,3" ∷ "hold,4" ∷ "hold,5" ∷ "hold,6" ∷ "hold,7" ∷ "hold,8" ∷ "hold,10"
    ∷ "hold,11" ∷ "hold,12" ∷ [])
    ++ refused_left "hl,1" ("hold,1" ∷ "hold,3" ∷ "hold,4" ∷ "hold,5" ∷ "hold,6" ∷ "hold,7" ∷ "hold,8" ∷ "hold,9"
    ∷ "hold,11" ∷ "hold,12" ∷ [])
    ++ refused_left_affirmed "sl,1"
    ("hold,1" ∷ "hold,3" ∷ "hold,4" ∷ "hold,5" ∷ "hold,6" ∷ "hold,7" ∷ "hold,8" ∷ "hold,9"
    ∷ "hold,10" ∷ "hold,12" ∷ [])

-- a right step for the goal left of ⊸ in each of these holds breaks its rule
unfoldable pub refused_right : String → List String → List Turn
refused_right step [] = []
refused_right step (hold ∷ holds) =
    (("book,5,1,0,9,0,0,1,3" ∷ hold ∷ "cp,0" ∷ "ll,1,0000000000000000,0,9,0,0" ∷ step ∷ []) ⇛ Told.no 40 3)
    ∷ refused_right step holds

-- A right step for every other connective: "`or`: 1, D empty" and not a ⊇, "`br`: !" and not @, and so on. A step that
-- took a second connective for its own would pass.
abbrev pub other_rights : List Turn
other_rights =
    connectives
    ++ refused_right "or" ("hold,14" ∷ "hold,15" ∷ "hold,16" ∷ "hold,17" ∷ "hold,18" ∷ "hold,19" ∷ "hold,20" ∷ "hold,21"
    ∷ "hold,22" ∷ "hold,23" ∷ [])
    ++ refused_right "tr,0000000000000000" ("hold,13" ∷ "hold,15" ∷ "hold,16" ∷ "hold,17" ∷ "hold,18" ∷ "hold,19"
    ∷ "hold,20" ∷ "hold,21" ∷ "hold,22" ∷ "hold,23" ∷ [])
    ++ refused_right "wr" ("hold,13" ∷ "hold,14" ∷ "hold,16" ∷ "hold,17" ∷ "hold,18" ∷ "hold,19" ∷ "hold,20" ∷ "hold,21"
    ∷ "hold,22" ∷ "hold,23" ∷ [])
    ++ refused_right "p1" ("hold,13" ∷ "hold,14" ∷ "hold,15" ∷ "hold,17" ∷ "hold,18" ∷ "hold,19" ∷ "hold,20" ∷ "hold,21"
    ∷ "hold,22" ∷ "hold,23" ∷ [])
    ++ refused_right "p2" ("hold,13" ∷ "hold,14" ∷ "hold,15" ∷ "hold,17" ∷ "hold,18" ∷ "hold,19" ∷ "hold,20" ∷ "hold,21"
    ∷ "hold,22" ∷ "hold,23" ∷ [])
    ++ refused_right "br" ("hold,13" ∷ "hold,14" ∷ "hold,15" ∷ "hold,16" ∷ "hold,17" ∷ "hold,18" ∷ "hold,20" ∷ "hold,21"
    ∷ "hold,22" ∷ "hold,23" ∷ [])
    ++ refused_right "hr" ("hold,13" ∷ "hold,14" ∷ "hold,15" ∷ "hold,16" ∷ "hold,17" ∷ "hold,18" ∷ "hold,19" ∷ "hold,21"
    ∷ "hold,22" ∷ "hold,23" ∷ [])
    ++ refused_right "sr" ("hold,13" ∷ "hold,14" ∷ "hold,15" ∷ "hold,16" ∷ "hold,17" ∷ "hold,18" ∷ "hold,19" ∷ "hold,20"
    ∷ "hold,22" ∷ "hold,23" ∷ [])
    ++ refused_right "gr" ("hold,13" ∷ "hold,14" ∷ "hold,15" ∷ "hold,16" ∷ "hold,17" ∷ "hold,18" ∷ "hold,19" ∷ "hold,20"
    ∷ "hold,21" ∷ "hold,23" ∷ [])

-- each is a formula's hold, and the hold of that formula ⊸ atom 1: `ax` does not close it
unfoldable pub refused_axiom : List (String × String) → List Turn
refused_axiom [] = []
refused_axiom (x ∷ xs) =
    (("book,5,1,0,9,0,0,2,4" ∷ x.0 ∷ x.1 ∷ "cp,0" ∷ "cp,1" ∷ "ll,3,0000000000000004,0,9,0,0" ∷ "ax,2" ∷ [])
    ⇛ Told.no 40 4) ∷ refused_axiom xs

-- `ax`: "D holds just L, an atom equal to the goal": no other formula closes by it, though D holds just L and L equals
-- the goal; and of atoms the one with the goal's predicate and session. An `ax` for any equal formula would pass.
abbrev pub only_atoms : List Turn
only_atoms =
    connectives
    ++ refused_axiom (("hold,3", "hold,13") ∷ ("hold,4", "hold,14") ∷ ("hold,5", "hold,15") ∷ ("hold,6", "hold,16")
    ∷ ("hold,7", "hold,17") ∷ ("hold,8", "hold,18") ∷ ("hold,9", "hold,19") ∷ ("hold,10", "hold,20")
    ∷ ("hold,11", "hold,21") ∷ ("hold,12", "hold,22") ∷ [])
    ++ ("word,a,9,8\n" ⇒ accepted 23) ∷
    ("issue,s,23,0,9,0,0\n" ⇒ accepted 24) ∷
    (("book,5,0,0,9,0,0,1,1" ∷ "hold,24" ∷ "ax,0" ∷ []) ⇛ Told.no 40 1) ∷
    (("book,5,0,0,9,0,0,1,2" ∷ "hold,2" ∷ "cp,0" ∷ "ax,1" ∷ []) ⇛ Told.no 40 2) ∷
    (("book,5,0,0,9,0,0,1,2" ∷ "hold,1" ∷ "cp,0" ∷ "ax,1" ∷ []) ⇛ accepted 25) ∷ []

-- each is a hold and a left step at its own label, which is in R: the step breaks its rule
unfoldable pub refused_standing : List (String × String) → List Turn
refused_standing [] = []
refused_standing (x ∷ xs) = (("book,5,0,0,9,0,0,1,1" ∷ x.0 ∷ x.1 ∷ []) ⇛ Told.no 40 1) ∷ refused_standing xs

-- "L is in D save at `cp`.": a standing label is copied, and no left step uses it itself. A step that took L from R too
-- would pass.
abbrev pub only_singles : List Turn
only_singles =
    connectives
    ++ refused_standing (("hold,3", "ol,0") ∷ ("hold,4", "tl,0") ∷ ("hold,5", "w1,0") ∷ ("hold,5", "w2,0")
    ∷ ("hold,6", "pl,0") ∷ ("hold,7", "ll,0,0000000000000000,0,9,0,0") ∷ ("hold,8", "ul,0,0,9,0,0")
    ∷ ("hold,9", "bl,0") ∷ ("hold,10", "hl,0") ∷ [])
    ++ (("book,5,10,0,9,0,0,1,2" ∷ "hold,11" ∷ "sr" ∷ "sl,0" ∷ []) ⇛ Told.no 40 2) ∷ []

-- each is a hold of ⟨1⟩A ⊸ an atom, and the right step for A: after `sr` it breaks its rule
unfoldable pub refused_affirmed : List (String × String) → List Turn
refused_affirmed [] = []
refused_affirmed (x ∷ xs) =
    (("book,5,0,0,9,0,0,1,4" ∷ x.0 ∷ "cp,0" ∷ "ll,1,0000000000000000,0,9,0,0" ∷ "sr" ∷ x.1 ∷ []) ⇛ Told.no 40 4)
    ∷ refused_affirmed xs

-- "The right steps `tr`, `or`, `wr`, `p1`, `p2`, `br`, `hr`, `sr`, `gr` and `ax` need a goal without affirms": each on
-- its own connective is refused under ⟨1⟩, and right once `af` has come before it.
abbrev pub without_affirms : List Turn
without_affirms =
    ("word,a,9,7\n" ⇒ accepted 0) ∷
    ("word,o\n" ⇒ accepted 1) ∷
    ("word,t,1,1\n" ⇒ accepted 2) ∷
    ("word,w,1,1\n" ⇒ accepted 3) ∷
    ("word,p,1,1\n" ⇒ accepted 4) ∷
    ("word,b,1\n" ⇒ accepted 5) ∷
    ("word,h,1,0,9,0,0\n" ⇒ accepted 6) ∷
    ("word,s,1,1\n" ⇒ accepted 7) ∷
    ("word,g,0,9,0,0,0,9,0,0\n" ⇒ accepted 8) ∷
    ("word,s,1,2\n" ⇒ accepted 9) ∷
    ("word,s,1,3\n" ⇒ accepted 10) ∷
    ("word,s,1,4\n" ⇒ accepted 11) ∷
    ("word,s,1,5\n" ⇒ accepted 12) ∷
    ("word,s,1,6\n" ⇒ accepted 13) ∷
    ("word,s,1,7\n" ⇒ accepted 14) ∷
    ("word,s,1,8\n" ⇒ accepted 15) ∷
    ("word,l,7,0\n" ⇒ accepted 16) ∷
    ("word,l,9,0\n" ⇒ accepted 17) ∷
    ("word,l,10,0\n" ⇒ accepted 18) ∷
    ("word,l,11,0\n" ⇒ accepted 19) ∷
    ("word,l,12,0\n" ⇒ accepted 20) ∷
    ("word,l,13,0\n" ⇒ accepted 21) ∷
    ("word,l,14,0\n" ⇒ accepted 22) ∷
    ("word,l,15,0\n" ⇒ accepted 23) ∷
    ("word,s,1,0\n" ⇒ accepted 24) ∷
    ("issue,r,16,0,9,0,0\n" ⇒ accepted 1) ∷
    ("issue,r,17,0,9,0,0\n" ⇒ accepted 2) ∷
    ("issue,r,18,0,9,0,0\n" ⇒ accepted 3) ∷
    ("issue,r,19,0,9,0,0\n" ⇒ accepted 4) ∷
    ("issue,r,20,0,9,0,0\n" ⇒ accepted 5) ∷
    ("issue,r,21,0,9,0,0\n" ⇒ accepted 6) ∷
    ("issue,r,22,0,9,0,0\n" ⇒ accepted 7) ∷
    ("issue,r,23,0,9,0,0\n" ⇒ accepted 8) ∷
    ("issue,s,0,0,9,0,0\n" ⇒ accepted 9) ∷
    refused_affirmed (("hold,1", "or") ∷ ("hold,2", "tr,0000000000000000") ∷ ("hold,3", "wr") ∷ ("hold,4", "p1")
    ∷ ("hold,4", "p2") ∷ ("hold,5", "br") ∷ ("hold,6", "hr") ∷ ("hold,7", "sr") ∷ ("hold,8", "gr") ∷ [])
    ++ (("book,5,24,0,9,0,0,1,2" ∷ "hold,9" ∷ "sr" ∷ "ax,0" ∷ []) ⇛ Told.no 40 2) ∷
    -- after `af`, in the same order
    (("book,5,0,0,9,0,0,1,6" ∷ "hold,1" ∷ "cp,0" ∷ "ll,1,0000000000000000,0,9,0,0" ∷ "sr" ∷ "af" ∷ "or" ∷ "ax,2"
    ∷ []) ⇛ accepted 10) ∷
    (("book,5,0,0,9,0,0,1,8" ∷ "hold,2" ∷ "cp,0" ∷ "ll,1,0000000000000000,0,9,0,0" ∷ "sr" ∷ "af"
    ∷ "tr,0000000000000000" ∷ "or" ∷ "or" ∷ "ax,2" ∷ []) ⇛ accepted 11) ∷
    (("book,5,0,0,9,0,0,1,8" ∷ "hold,3" ∷ "cp,0" ∷ "ll,1,0000000000000000,0,9,0,0" ∷ "sr" ∷ "af" ∷ "wr" ∷ "or" ∷ "or"
    ∷ "ax,2" ∷ []) ⇛ accepted 12) ∷
    (("book,5,0,0,9,0,0,1,7" ∷ "hold,4" ∷ "cp,0" ∷ "ll,1,0000000000000000,0,9,0,0" ∷ "sr" ∷ "af" ∷ "p1" ∷ "or" ∷ "ax,2"
    ∷ []) ⇛ accepted 13) ∷
    (("book,5,0,0,9,0,0,1,7" ∷ "hold,4" ∷ "cp,0" ∷ "ll,1,0000000000000000,0,9,0,0" ∷ "sr" ∷ "af" ∷ "p2" ∷ "or" ∷ "ax,2"
    ∷ []) ⇛ accepted 14) ∷
    (("book,5,0,0,9,0,0,1,7" ∷ "hold,5" ∷ "cp,0" ∷ "ll,1,0000000000000000,0,9,0,0" ∷ "sr" ∷ "af" ∷ "br" ∷ "or" ∷ "ax,2"
    ∷ []) ⇛ accepted 15) ∷
    (("book,5,0,0,9,0,0,1,7" ∷ "hold,6" ∷ "cp,0" ∷ "ll,1,0000000000000000,0,9,0,0" ∷ "sr" ∷ "af" ∷ "hr" ∷ "or" ∷ "ax,2"
    ∷ []) ⇛ accepted 16) ∷
    (("book,5,0,0,9,0,0,1,8" ∷ "hold,7" ∷ "cp,0" ∷ "ll,1,0000000000000000,0,9,0,0" ∷ "sr" ∷ "af" ∷ "sr" ∷ "af" ∷ "or"
    ∷ "ax,2" ∷ []) ⇛ accepted 17) ∷
    (("book,5,0,0,9,0,0,1,6" ∷ "hold,8" ∷ "cp,0" ∷ "ll,1,0000000000000000,0,9,0,0" ∷ "sr" ∷ "af" ∷ "gr" ∷ "ax,2"
    ∷ []) ⇛ accepted 18) ∷
    (("book,5,24,0,9,0,0,1,3" ∷ "hold,9" ∷ "sr" ∷ "af" ∷ "ax,0" ∷ []) ⇛ accepted 19) ∷ []

-- The others need no "goal without affirms": `cp` and every left step come right after `sr` and are right. "K, I and
-- windows stay unless named": each premise still has the goal "K affirms A at I", which `af` or `sl` then asks for, but
-- A of `ll` and `ul`, "A at J", is without it.
abbrev pub under_affirms : List Turn
under_affirms =
    ("word,a,9,7\n" ⇒ accepted 0) ∷
    ("word,a,8,7\n" ⇒ accepted 1) ∷
    ("word,o\n" ⇒ accepted 2) ∷
    ("word,t,0,2\n" ⇒ accepted 3) ∷
    ("word,w,0,1\n" ⇒ accepted 4) ∷
    ("word,p,0,0\n" ⇒ accepted 5) ∷
    ("word,b,0\n" ⇒ accepted 6) ∷
    ("word,h,0,0,9,0,0\n" ⇒ accepted 7) ∷
    ("word,s,1,0\n" ⇒ accepted 8) ∷
    ("word,s,1,1\n" ⇒ accepted 9) ∷
    ("word,l,1,8\n" ⇒ accepted 10) ∷
    ("word,u,2,8\n" ⇒ accepted 11) ∷
    ("issue,r,0,0,9,0,0\n" ⇒ accepted 1) ∷
    ("issue,r,3,0,9,0,0\n" ⇒ accepted 2) ∷
    ("issue,r,4,0,9,0,0\n" ⇒ accepted 3) ∷
    ("issue,r,5,0,9,0,0\n" ⇒ accepted 4) ∷
    ("issue,r,6,0,9,0,0\n" ⇒ accepted 5) ∷
    ("issue,r,7,0,9,0,0\n" ⇒ accepted 6) ∷
    ("issue,r,10,0,9,0,0\n" ⇒ accepted 7) ∷
    ("issue,r,11,0,9,0,0\n" ⇒ accepted 8) ∷
    ("issue,s,1,0,9,0,0\n" ⇒ accepted 9) ∷
    (("book,5,8,0,9,0,0,1,4" ∷ "hold,1" ∷ "sr" ∷ "cp,0" ∷ "af" ∷ "ax,1" ∷ []) ⇛ accepted 10) ∷
    (("book,5,8,0,9,0,0,1,6" ∷ "hold,2" ∷ "sr" ∷ "cp,0" ∷ "tl,1" ∷ "ol,3" ∷ "af" ∷ "ax,2" ∷ []) ⇛ accepted 11) ∷
    (("book,5,8,0,9,0,0,1,5" ∷ "hold,3" ∷ "sr" ∷ "cp,0" ∷ "w1,1" ∷ "af" ∷ "ax,2" ∷ []) ⇛ accepted 12) ∷
    (("book,5,9,0,9,0,0,1,5" ∷ "hold,3" ∷ "sr" ∷ "cp,0" ∷ "w2,1" ∷ "af" ∷ "ax,2" ∷ []) ⇛ accepted 13) ∷
    (("book,5,8,0,9,0,0,1,7" ∷ "hold,4" ∷ "sr" ∷ "cp,0" ∷ "pl,1" ∷ "af" ∷ "ax,2" ∷ "af" ∷ "ax,3" ∷ []) ⇛ accepted 14) ∷
    (("book,5,8,0,9,0,0,1,6" ∷ "hold,5" ∷ "sr" ∷ "cp,0" ∷ "bl,1" ∷ "cp,2" ∷ "af" ∷ "ax,3" ∷ []) ⇛ accepted 15) ∷
    (("book,5,8,0,9,0,0,1,5" ∷ "hold,6" ∷ "sr" ∷ "cp,0" ∷ "hl,1" ∷ "af" ∷ "ax,2" ∷ []) ⇛ accepted 16) ∷
    (("book,5,8,0,9,0,0,2,7" ∷ "hold,7" ∷ "hold,9" ∷ "sr" ∷ "cp,0" ∷ "ll,2,0000000000000002,0,9,0,0" ∷ "ax,1" ∷ "sl,3"
    ∷ "af" ∷ "ax,4" ∷ []) ⇛ accepted 17) ∷
    (("book,5,8,0,9,0,0,1,7" ∷ "hold,8" ∷ "sr" ∷ "cp,0" ∷ "ul,1,0,9,0,0" ∷ "or" ∷ "sl,2" ∷ "af" ∷ "ax,3"
    ∷ []) ⇛ accepted 18) ∷ []

abbrev pub connective_cases : List (List Turn)
connective_cases = other_lefts ∷ other_rights ∷ only_atoms ∷ only_singles ∷ without_affirms ∷ under_affirms ∷ []

abbrev pub ConnectiveCasesPlay : Type 0
ConnectiveCasesPlay = AllAnswered connective_cases

-- Sessions for document 01's section "Wordings and weights": how many formulas there are, which lines are equal, the
-- size of every letter, what is plain and what is balanced.
use Rattle.std.specs.Prelude.{List, [], ◌∷◌, ◌++◌, ℕ, zero, suc}
use Rattle.request.specs.Text.{bytes}
use Rattle.request.specs.Write.{digits}
use Rattle.ledger.specs.Cases.{Turn, ◌⇒◌, accepted, refused, AllAnswered}

-- so many atoms of session 7, predicates from k on, where formula k comes next
unfoldable pub atoms_from : ℕ → ℕ → List Turn
atoms_from zero k = []
atoms_from (suc n) k =
    record { text = bytes "word,a," ++ digits k ++ bytes ",7\n"; reply = accepted k } ∷ atoms_from n (suc k)

-- "The till numbers them from 0 and holds at most 200": formula 199 is taken and the next is 14. With 14 tried earlier
-- the last three lines would get it too, which are 10, 12 and 13.
abbrev pub full_table : List Turn
full_table =
    atoms_from 194 0 ++
    ("word,t,0,0\n" ⇒ accepted 194) ∷
    ("word,t,194,194\n" ⇒ accepted 195) ∷
    ("word,t,195,195\n" ⇒ accepted 196) ∷
    ("word,t,196,196\n" ⇒ accepted 197) ∷
    ("word,t,197,197\n" ⇒ accepted 198) ∷
    ("word,o\n" ⇒ accepted 199) ∷
    ("word,b,0\n" ⇒ refused 14) ∷
    ("word,b,200\n" ⇒ refused 10) ∷
    ("word,t,198,198\n" ⇒ refused 12) ∷
    ("word,a,0,7\n" ⇒ refused 13) ∷ []

-- "no two lines equal": a line that differs from one that is there in its letter or in any one field is another line.
-- One that is there is 13, whether it came first, last or between. With a field left out of the comparison one of the
-- lines from 1 to 26 would be 13.
abbrev pub equal_lines : List Turn
equal_lines =
    ("word,a,9,7\n" ⇒ accepted 0) ∷
    ("word,a,8,7\n" ⇒ accepted 1) ∷
    ("word,a,9,8\n" ⇒ accepted 2) ∷
    ("word,t,0,1\n" ⇒ accepted 3) ∷
    ("word,t,2,1\n" ⇒ accepted 4) ∷
    ("word,t,0,2\n" ⇒ accepted 5) ∷
    ("word,w,0,1\n" ⇒ accepted 6) ∷
    ("word,s,1,0\n" ⇒ accepted 7) ∷
    ("word,s,2,0\n" ⇒ accepted 8) ∷
    ("word,s,1,1\n" ⇒ accepted 9) ∷
    ("word,b,0\n" ⇒ accepted 10) ∷
    ("word,b,1\n" ⇒ accepted 11) ∷
    ("word,h,0,1,9,4,5\n" ⇒ accepted 12) ∷
    ("word,h,1,1,9,4,5\n" ⇒ accepted 13) ∷
    ("word,h,0,2,9,4,5\n" ⇒ accepted 14) ∷
    ("word,h,0,1,8,4,5\n" ⇒ accepted 15) ∷
    ("word,h,0,1,9,3,5\n" ⇒ accepted 16) ∷
    ("word,h,0,1,9,4,6\n" ⇒ accepted 17) ∷
    ("word,g,1,9,4,5,1,9,4,5\n" ⇒ accepted 18) ∷
    ("word,g,2,9,4,5,1,9,4,5\n" ⇒ accepted 19) ∷
    ("word,g,1,8,4,5,1,9,4,5\n" ⇒ accepted 20) ∷
    ("word,g,1,9,3,5,1,9,4,5\n" ⇒ accepted 21) ∷
    ("word,g,1,9,4,6,1,9,4,5\n" ⇒ accepted 22) ∷
    ("word,g,1,9,4,5,2,9,4,5\n" ⇒ accepted 23) ∷
    ("word,g,1,9,4,5,1,8,4,5\n" ⇒ accepted 24) ∷
    ("word,g,1,9,4,5,1,9,3,5\n" ⇒ accepted 25) ∷
    ("word,g,1,9,4,5,1,9,4,6\n" ⇒ accepted 26) ∷
    ("word,a,9,7\n" ⇒ refused 13) ∷
    ("word,t,0,1\n" ⇒ refused 13) ∷
    ("word,s,1,0\n" ⇒ refused 13) ∷
    ("word,b,0\n" ⇒ refused 13) ∷
    ("word,h,0,1,9,4,5\n" ⇒ refused 13) ∷
    ("word,g,1,9,4,5,1,9,4,5\n" ⇒ refused 13) ∷
    ("word,g,1,9,4,5,1,9,4,6\n" ⇒ refused 13) ∷ []

-- "Size: 1 plus the sizes of the parts, a part used twice counted twice; at most 64", for every letter: formula 4 has
-- size 31, 5 has 63, 10 has 62. A letter that counted nothing, or two, would be answered otherwise at the limit.
abbrev pub sizes : List Turn
sizes =
    ("word,a,9,7\n" ⇒ accepted 0) ∷
    ("word,t,0,0\n" ⇒ accepted 1) ∷
    ("word,t,1,1\n" ⇒ accepted 2) ∷
    ("word,t,2,2\n" ⇒ accepted 3) ∷
    ("word,t,3,3\n" ⇒ accepted 4) ∷
    ("word,t,4,4\n" ⇒ accepted 5) ∷
    ("word,s,1,0\n" ⇒ accepted 6) ∷
    ("word,t,1,6\n" ⇒ accepted 7) ∷
    ("word,t,2,7\n" ⇒ accepted 8) ∷
    ("word,t,3,8\n" ⇒ accepted 9) ∷
    ("word,t,4,9\n" ⇒ accepted 10) ∷
    -- `a`, `o`, `g` beside 62, and beside 63
    ("word,o\n" ⇒ accepted 11) ∷
    ("word,g,0,9,0,0,0,9,0,0\n" ⇒ accepted 12) ∷
    ("word,t,10,0\n" ⇒ accepted 13) ∷
    ("word,t,5,0\n" ⇒ refused 12) ∷
    ("word,t,10,11\n" ⇒ accepted 14) ∷
    ("word,t,5,11\n" ⇒ refused 12) ∷
    ("word,t,10,12\n" ⇒ accepted 15) ∷
    ("word,t,5,12\n" ⇒ refused 12) ∷
    -- `s`, `b`, `h` upon 63, and upon what that makes
    ("word,s,1,5\n" ⇒ accepted 16) ∷
    ("word,s,1,16\n" ⇒ refused 12) ∷
    ("word,b,5\n" ⇒ accepted 17) ∷
    ("word,b,17\n" ⇒ refused 12) ∷
    ("word,h,5,0,9,0,0\n" ⇒ accepted 18) ∷
    ("word,h,18,0,9,0,0\n" ⇒ refused 12) ∷
    -- `w`, `p`, `l`, `u` of 31 and 31, and ⟨1⟩ upon that once and twice
    ("word,w,4,4\n" ⇒ accepted 19) ∷
    ("word,s,1,19\n" ⇒ accepted 20) ∷
    ("word,s,1,20\n" ⇒ refused 12) ∷
    ("word,p,4,4\n" ⇒ accepted 21) ∷
    ("word,s,1,21\n" ⇒ accepted 22) ∷
    ("word,s,1,22\n" ⇒ refused 12) ∷
    ("word,l,4,4\n" ⇒ accepted 23) ∷
    ("word,s,1,23\n" ⇒ accepted 24) ∷
    ("word,s,1,24\n" ⇒ refused 12) ∷
    ("word,u,4,4\n" ⇒ accepted 25) ∷
    ("word,s,1,25\n" ⇒ accepted 26) ∷
    ("word,s,1,26\n" ⇒ refused 12) ∷ []

-- "Plain: only `a`, `t`, `s`.": every other letter is 20, alone and as a part, and would be issued if it were plain.
-- "what stands under ! or left of ⊃ weighs 0", and nothing is said of what stands right of ⊃: seat ⊸ (1 ⊃ seat) is
-- balanced.
abbrev pub plains : List Turn
plains =
    ("word,a,1,7\n" ⇒ accepted 0) ∷
    ("word,o\n" ⇒ accepted 1) ∷
    ("word,t,0,0\n" ⇒ accepted 2) ∷
    ("word,s,1,2\n" ⇒ accepted 3) ∷
    ("word,w,0,0\n" ⇒ accepted 4) ∷
    ("word,p,0,0\n" ⇒ accepted 5) ∷
    ("word,l,0,0\n" ⇒ accepted 6) ∷
    ("word,u,1,0\n" ⇒ accepted 7) ∷
    ("word,b,0\n" ⇒ accepted 8) ∷
    ("word,h,0,0,9,0,0\n" ⇒ accepted 9) ∷
    ("word,g,0,9,0,0,0,9,0,0\n" ⇒ accepted 10) ∷
    ("word,t,9,0\n" ⇒ accepted 11) ∷
    ("word,t,0,9\n" ⇒ accepted 12) ∷
    ("word,s,1,9\n" ⇒ accepted 13) ∷
    ("word,l,0,7\n" ⇒ accepted 14) ∷
    ("issue,s,0,0,9,0,0\n" ⇒ accepted 1) ∷
    ("issue,s,2,0,9,0,0\n" ⇒ accepted 2) ∷
    ("issue,s,3,0,9,0,0\n" ⇒ accepted 3) ∷
    ("issue,s,1,0,9,0,0\n" ⇒ refused 20) ∷
    ("issue,s,4,0,9,0,0\n" ⇒ refused 20) ∷
    ("issue,s,5,0,9,0,0\n" ⇒ refused 20) ∷
    ("issue,s,6,0,9,0,0\n" ⇒ refused 20) ∷
    ("issue,s,7,0,9,0,0\n" ⇒ refused 20) ∷
    ("issue,s,8,0,9,0,0\n" ⇒ refused 20) ∷
    ("issue,s,9,0,9,0,0\n" ⇒ refused 20) ∷
    ("issue,s,10,0,9,0,0\n" ⇒ refused 20) ∷
    ("issue,s,11,0,9,0,0\n" ⇒ refused 20) ∷
    ("issue,s,12,0,9,0,0\n" ⇒ refused 20) ∷
    ("issue,s,13,0,9,0,0\n" ⇒ refused 20) ∷
    ("issue,r,14,0,9,0,0\n" ⇒ accepted 4) ∷
    ("issue,r,7,0,9,0,0\n" ⇒ refused 21) ∷
    ("issue,r,8,0,9,0,0\n" ⇒ refused 21) ∷ []

abbrev pub formula_cases : List (List Turn)
formula_cases = full_table ∷ equal_lines ∷ sizes ∷ plains ∷ []

abbrev pub FormulaCasesPlay : Type 0
FormulaCasesPlay = AllAnswered formula_cases

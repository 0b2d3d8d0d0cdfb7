-- Fields joined by commas and lines ended by byte 10: taken apart they are what they were, and put together again too.
use mathlib.Core.Path.{◌≡◌, refl, ap, ◌∙◌}
use mathlib.Core.List.{List, [], ◌∷◌, ◌++◌}
use mathlib.Core.Option.{some}
use mathlib.Core.Bool.{Bool, true, false}
use Prim.Native.Nat.{ℕ, suc, ◌+◌, ◌≤◌}
use native.Mathlib.Omega.{arith}
use lib.Dec.{eqb}
use lib.ListN.{length, length-append}
use borrow.Author.Tests.{ne_eqb, eqb-true}
use Rattle.logic.specs.Multiset.{Every}
use Rattle.request.specs.Text.{and_then, push, fields, push_line, lines}
use Rattle.request.specs.Write.{joined, ended_lines}
use Rattle.request.proofs.Gives.{Gives, nothing, just, gives_then, gives_so, gives_if}
use Rattle.request.proofs.Digits.{Plain, every_append}

-- the bytes of texts, each with one that ends it
abbrev pub size : List (List ℕ) → ℕ
size [] = 0
size (t ∷ ts) = suc (length t) + size ts

-- Fields: their bytes are from 48 on, a comma is 44

fields_other : (x : ℕ) (xs : List ℕ) → 48 ≤ x → fields (x ∷ xs) ≡ push x (fields xs)
unfolding fields
fields_other x xs h = rw (ne_eqb x 44 (λ e. omega arith), fields)

fields_last : (f : List ℕ) → Plain 48 f → fields f ≡ f ∷ []
unfolding fields push
fields_last [] h = refl
fields_last (x ∷ f) h = fields_other x f h.0 ∙ rw (fields_last f h.1, push)

fields_more : (f r : List ℕ) → Plain 48 f → fields (f ++ (44 ∷ r)) ≡ f ∷ fields r
unfolding fields push
fields_more [] r h = refl
fields_more (x ∷ f) r h = fields_other x (f ++ (44 ∷ r)) h.0 ∙ rw (fields_more f r h.1, push)

pub fields_joined : (f : List ℕ) (fs : List (List ℕ)) → Every (Plain 48) (f ∷ fs) → fields (joined (f ∷ fs)) ≡ f ∷ fs
unfolding joined
fields_joined f [] h = fields_last f h.0
fields_joined f (g ∷ gs) h =
    fields_more f (joined (g ∷ gs)) h.0 ∙ ap (λ (l : List (List ℕ)). f ∷ l) (fields_joined g gs h.1)

abbrev Several : List (List ℕ) → Type 0
Several [] = ⊥
Several (t ∷ ts) = Unit {0}

push_several : (x : ℕ) (ts : List (List ℕ)) → Several (push x ts)
unfolding push
push_several x [] = tt
push_several x (t ∷ ts) = tt

fields_several : (l : List ℕ) → Several (fields l)
unfolding fields
fields_several [] = tt
fields_several (x ∷ xs) = go (eqb x 44)
  where
    go : (b : Bool) → Several (elim b as (λ z. List (List ℕ)) [ true ↦ [] ∷ fields xs | false ↦ push x (fields xs) ])
    go true = tt
    go false = push_several x (fields xs)

joined_push : (x : ℕ) (ts : List (List ℕ)) → joined (push x ts) ≡ x ∷ joined ts
unfolding joined push
joined_push x [] = refl
joined_push x (t ∷ []) = refl
joined_push x (t ∷ u ∷ us) = refl

joined_empty : (ts : List (List ℕ)) → Several ts → joined ([] ∷ ts) ≡ 44 ∷ joined ts
unfolding joined
joined_empty [] h = absurd h
joined_empty (t ∷ ts) h = refl

pub joined_fields : (l : List ℕ) → joined (fields l) ≡ l
unfolding fields joined
joined_fields [] = refl
joined_fields (x ∷ xs) = go (eqb x 44) refl (joined_fields xs)
  where
    go : (b : Bool) → eqb x 44 ≡ b → joined (fields xs) ≡ xs
        → joined (elim b as (λ z. List (List ℕ)) [ true ↦ [] ∷ fields xs | false ↦ push x (fields xs) ]) ≡ x ∷ xs
    go true e ih = joined_empty (fields xs) (fields_several xs) ∙ rw (ih, eqb-true x 44 e)
    go false e ih = joined_push x (fields xs) ∙ ap (λ (t : List ℕ). x ∷ t) ih

plain_down : (t : List ℕ) → Plain 48 t → Plain 44 t
plain_down [] h = tt
plain_down (x ∷ t) h = (omega (arith, h.0), plain_down t h.1)

pub joined_plain : (fs : List (List ℕ)) → Every (Plain 48) fs → Plain 44 (joined fs)
unfolding joined
joined_plain [] h = tt
joined_plain (f ∷ []) h = plain_down f h.0
joined_plain (f ∷ g ∷ gs) h =
    every_append _ f (44 ∷ joined (g ∷ gs)) (plain_down f h.0) (omega arith, joined_plain (g ∷ gs) h.1)

pub joined_size : (f : List ℕ) (fs : List (List ℕ)) → suc (length (joined (f ∷ fs))) ≡ size (f ∷ fs)
unfolding joined
joined_size f [] = omega arith
joined_size f (g ∷ gs) = omega (arith, length-append f (44 ∷ joined (g ∷ gs)), joined_size g gs)

-- Lines: their bytes are from 44 on

lines_more : (l r : List ℕ) (ls : List (List ℕ)) → Plain 44 l → lines r ≡ some ls
    → lines (l ++ (10 ∷ r)) ≡ some (l ∷ ls)
unfolding lines and_then push_line
lines_more [] r ls h e = rw (e, lines, and_then)
lines_more (x ∷ l) r ls h e =
    rw (lines_more l r ls h.1 e, ne_eqb x 10 (λ q. omega (arith, h.0)), lines, and_then, push_line)

pub lines_ended : (ls : List (List ℕ)) → Every (Plain 44) ls → lines (ended_lines ls) ≡ some ls
unfolding ended_lines lines
lines_ended [] h = refl
lines_ended (l ∷ ls) h = lines_more l (ended_lines ls) ls h.0 (lines_ended ls h.1)

ended_push : (x : ℕ) (ls : List (List ℕ)) → Gives (λ ms. ended_lines ms ≡ x ∷ ended_lines ls) (push_line x ls)
unfolding push_line ended_lines
ended_push x [] = nothing
ended_push x (l ∷ ls) = just refl

pub ended_lines_holds : (b : List ℕ) → Gives (λ ls. ended_lines ls ≡ b) (lines b)
unfolding lines ended_lines
ended_lines_holds [] = just refl
ended_lines_holds (x ∷ xs) =
    gives_then (ended_lines_holds xs) (λ ls e.
    gives_if (eqb x 10) (λ t. just (rw (e, eqb-true x 10 t)))
    (λ t. gives_so (ended_push x ls) (λ ms q. q ∙ ap (λ (l : List ℕ). x ∷ l) e)))

pub ended_size : (ls : List (List ℕ)) → length (ended_lines ls) ≡ size ls
unfolding ended_lines
ended_size [] = refl
ended_size (l ∷ ls) = omega (arith, length-append l (10 ∷ ended_lines ls), ended_size ls)

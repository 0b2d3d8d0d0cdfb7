-- Lists up to order, by insertion; what every member of a list has; sums.
use Rattle.std.specs.Prelude.{◌≡◌, ℕ, ◌+◌}
use mathlib.Core.List.{List, [], ◌∷◌, Memᴰ}

-- Ins x ys zs: zs is ys with x put in at some place
pub data Ins {A : Type 0} (x : A) : List A → List A → Type 0 where
  here : {y : A} {xs : List A} → x ≡ y → Ins x xs (y ∷ xs)
  there : {y : A} {ys zs : List A} → Ins x ys zs → Ins x (y ∷ ys) (y ∷ zs)

-- Perm xs ys: the same multiset
pub data Perm {A : Type 0} : List A → List A → Type 0 where
  none : Perm [] []
  more : {x : A} {xs ys zs : List A} → Ins x ys zs → Perm xs ys → Perm (x ∷ xs) zs

-- every member of the one is a member of the other
abbrev pub Within : {A : Type 0} → List A → List A → Type 0
Within {A} xs ys = (x : A) → Memᴰ x xs → Memᴰ x ys

-- every member has P
abbrev pub Every : {A : Type 0} → (A → Type 0) → List A → Type 0
Every P [] = Unit {0}
Every P (x ∷ xs) = P x × Every P xs

unfoldable pub sum : {A : Type 0} → (A → ℕ) → List A → ℕ
sum f [] = 0
sum f (x ∷ xs) = f x + sum f xs

-- Laws of permutations that lists of a set's labels need: appended lists, one element in front, none.
use mathlib.Core.Path.{◌≡◌, refl, ap, subst, ◌∙◌}
use mathlib.Core.List.{List, [], ◌∷◌, ◌++◌, Memᴰ}
use Rattle.logic.specs.Multiset.{Ins, here, there, Perm, none, more, Within}
use Rattle.logic.proofs.Multisets.{perm_refl, perm_sym}

module _ {A : Type 0} where
  pub perm_of : {xs ys : List A} → xs ≡ ys → Perm xs ys
  perm_of {xs} e = subst (Perm xs) e (perm_refl xs)

  -- the same element in front of both
  pub on : {x : A} {xs ys : List A} → Perm xs ys → Perm (x ∷ xs) (x ∷ ys)
  on m = more (here refl) m

  -- the same list before both
  pub before : (zs : List A) {xs ys : List A} → Perm xs ys → Perm (zs ++ xs) (zs ++ ys)
  before [] m = m
  before (z ∷ zs) m = on (before zs m)

  pub perm_nil : {xs : List A} → Perm [] xs → xs ≡ []
  perm_nil none = refl

  -- x in the middle of one, in front of the other
  pub perm_middle : (xs ys : List A) {zs : List A} {x : A} → Perm (xs ++ ys) zs → Perm (xs ++ (x ∷ ys)) (x ∷ zs)
  perm_middle [] ys m = on m
  perm_middle (y ∷ xs) ys (more i m) = more (there i) (perm_middle xs ys m)

  pub front : {x : A} {xs ys zs : List A} → Ins x ys zs → Perm ys xs → Perm zs (x ∷ xs)
  front i m = perm_sym (more i (perm_sym m))

  abbrev Inhabited : List A → Type 0
  Inhabited [] = ⊥
  Inhabited (x ∷ xs) = Unit {0}

  pub inhabited : {x : A} {ys zs : List A} → Ins x ys zs → Inhabited zs
  inhabited (here e) = tt
  inhabited (there i) = tt

  -- an element of appended lists is one of the first or of the second
  pub data Side (x : A) (xs ys zs : List A) : Type 0 where
    left : (ws : List A) → Ins x ws xs → zs ≡ ws ++ ys → Side x xs ys zs
    right : (ws : List A) → Ins x ws ys → zs ≡ xs ++ ws → Side x xs ys zs

  beyond : {x : A} (y : A) {xs ys zs : List A} → Side x xs ys zs → Side x (y ∷ xs) ys (y ∷ zs)
  beyond y (left ws i e) = left (y ∷ ws) (there i) (ap (y ∷◌) e)
  beyond y (right ws i e) = right ws i (ap (y ∷◌) e)

  pub side : (xs ys : List A) {x : A} {zs : List A} → Ins x zs (xs ++ ys) → Side x xs ys zs
  side [] ys {zs = zs} i = right zs i refl
  side (y ∷ xs) ys (here e) = left xs (here e) refl
  side (y ∷ xs) ys (there i) = beyond y (side xs ys i)

  -- Membership

  ins_in : {h x : A} {ys zs : List A} → Ins x ys zs → Memᴰ h ys → Memᴰ h zs
  ins_in (here e) m = Memᴰ.tail m
  ins_in (there i) (Memᴰ.head e) = Memᴰ.head e
  ins_in (there i) (Memᴰ.tail m) = Memᴰ.tail (ins_in i m)

  ins_new : {h x : A} {ys zs : List A} → h ≡ x → Ins x ys zs → Memᴰ h zs
  ins_new q (here e) = Memᴰ.head (q ∙ e)
  ins_new q (there i) = Memᴰ.tail (ins_new q i)

  pub perm_in : {xs ys : List A} → Perm xs ys → Within xs ys
  perm_in none h m = elim m [ ]
  perm_in (more i m) h (Memᴰ.head e) = ins_new e i
  perm_in (more i m) h (Memᴰ.tail n) = ins_in i (perm_in m h n)

  pub within_cons : {x : A} {xs ys : List A} → Within xs ys → Within (x ∷ xs) (x ∷ ys)
  within_cons s h (Memᴰ.head e) = Memᴰ.head e
  within_cons s h (Memᴰ.tail m) = Memᴰ.tail (s h m)

  under : {x z : A} {ys zs : List A} → Perm (x ∷ ys) zs → Perm (x ∷ z ∷ ys) (z ∷ zs)
  under (more i m) = more (there i) (on m)

  -- a member stands in front of some order of the list
  pub in_front : {h : A} (zs : List A) → Memᴰ h zs → (ys : List A) × Perm (h ∷ ys) zs
  in_front [] m = elim m [ ]
  in_front (z ∷ zs) (Memᴰ.head e) = (zs, more (here e) (perm_refl zs))
  in_front (z ∷ zs) (Memᴰ.tail m) =
      let w = in_front zs m in
      (z ∷ w.0, under w.1)

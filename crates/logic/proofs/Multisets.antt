-- Laws of permutations by insertion, and what they keep: sums and what every member has.
use mathlib.Core.Path.{◌≡◌, refl, sym, ap, subst}
use mathlib.Core.List.{List, [], ◌∷◌, ◌++◌, Memᴰ}
use Prim.Native.Nat.{ℕ, suc, ◌+◌}
use native.Mathlib.Omega.{arith}
use lib.ListN.{length}
use Rattle.logic.specs.Multiset.{Ins, here, there, Perm, none, more, Every, sum}

module _ {A : Type 0} where
  pub perm_refl : (l : List A) → Perm l l
  perm_refl [] = none
  perm_refl (x ∷ l) = more (here refl) (perm_refl l)

  -- two insertions change places
  pub ins_swap : {a b : A} {us vs ws : List A} → Ins a us vs → Ins b vs ws → (ts : List A) × Ins a ts ws × Ins b us ts
  ins_swap {b = b} {us = us} i (here {y = y} e) = (y ∷ us, there i, here e)
  ins_swap (here {xs = xs} e) (there {ys = ys} {zs = zs} k) = (zs, here e, k)
  ins_swap {us = _} (there {y = y} {ys = ys} i) (there k) =
      let w = ins_swap {us = ys} i k in (y ∷ w.0, there w.1, there w.2)

  -- what is put into a permuted list can be found in the permutation
  pub ins_perm : {x : A} {ys zs ws : List A} → Ins x ys zs → Perm zs ws → (vs : List A) × Ins x vs ws × Perm ys vs
  ins_perm {x} {ws = ws} (here e) (more {ys = vs} i m) = (vs, subst (λ (a : A). Ins a vs ws) (sym e) i, m)
  ins_perm (there j) (more i m) =
      let w = ins_perm j m in
      let v = ins_swap w.1 i in
      (v.0, v.1, more v.2 w.2)

  pub perm_trans : {xs ys zs : List A} → Perm xs ys → Perm ys zs → Perm xs zs
  perm_trans none n = n
  perm_trans (more i m) n = let w = ins_perm i n in more w.1 (perm_trans m w.2)

  ins_front : {x : A} {ys zs xs : List A} → Ins x ys zs → Perm ys xs → Perm zs (x ∷ xs)
  ins_front (here e) m = more (here (sym e)) m
  ins_front (there i) (more j m) = more (there j) (ins_front i m)

  pub perm_sym : {xs ys : List A} → Perm xs ys → Perm ys xs
  perm_sym none = none
  perm_sym (more i m) = ins_front i (perm_sym m)

  pub ins_length : {x : A} {xs ys : List A} → Ins x xs ys → length ys ≡ suc (length xs)
  ins_length (here p) = refl
  ins_length (there i) = ap suc (ins_length i)

  module _ (f : A → ℕ) where
    pub ins_sum : {x : A} {xs ys : List A} → Ins x xs ys → sum f ys ≡ f x + sum f xs
    unfolding sum
    ins_sum (here p) = omega (arith, ap f p)
    ins_sum (there i) = omega (arith, ins_sum i)

    pub perm_sum : {xs ys : List A} → Perm xs ys → sum f xs ≡ sum f ys
    unfolding sum
    perm_sum none = refl
    perm_sum (more i m) = omega (arith, ins_sum i, perm_sum m)

    pub append_sum : (xs ys : List A) → sum f (xs ++ ys) ≡ sum f xs + sum f ys
    unfolding sum
    append_sum [] ys = omega arith
    append_sum (x ∷ xs) ys = omega (arith, append_sum xs ys)

    pub snoc_sum : (xs : List A) (x : A) → sum f (xs ++ (x ∷ [])) ≡ sum f xs + f x
    unfolding sum
    snoc_sum xs x = omega (arith, append_sum xs (x ∷ []))

  module _ (P : A → Type 0) where
    -- sums of what is equal
    pub same_sum : (f g : A → ℕ) (xs : List A) → ((x : A) → P x → f x ≡ g x) → Every P xs → sum f xs ≡ sum g xs
    unfolding sum
    same_sum f g [] e h = refl
    same_sum f g (x ∷ xs) e h = omega (arith, e x h.0, same_sum f g xs e h.1)

    pub every_out : {x : A} {xs ys : List A} → Ins x xs ys → Every P ys → P x × Every P xs
    every_out (here e) h = (subst P (sym e) h.0, h.1)
    every_out (there i) h = let w = every_out i h.1 in (w.0, (h.0, w.1))

    pub every_snoc : (xs : List A) (x : A) → Every P xs → P x → Every P (xs ++ (x ∷ []))
    every_snoc [] x h p = (p, tt)
    every_snoc (y ∷ xs) x h p = (h.0, every_snoc xs x h.1 p)

    pub ins_every : {x : A} {xs ys : List A} → Ins x xs ys → P x → Every P xs → Every P ys
    ins_every (here p) x a = (subst P p x, a)
    ins_every (there i) x a = (a.0, ins_every i x a.1)

    pub perm_every : {xs ys : List A} → Perm xs ys → Every P xs → Every P ys
    perm_every none a = a
    perm_every (more i m) a = ins_every i a.0 (perm_every m a.1)

    pub every_left : (xs ys : List A) → Every P (xs ++ ys) → Every P xs
    every_left [] ys a = tt
    every_left (x ∷ xs) ys a = (a.0, every_left xs ys a.1)

    pub every_right : (xs ys : List A) → Every P (xs ++ ys) → Every P ys
    every_right [] ys a = a
    every_right (x ∷ xs) ys a = every_right xs ys a.1

    pub every_member : {x : A} {xs : List A} → Memᴰ x xs → Every P xs → P x
    every_member (Memᴰ.head e) a = subst P (sym e) a.0
    every_member (Memᴰ.tail m) a = every_member m a.1

  pub every_map : {P Q : A → Type 0} → ((x : A) → P x → Q x) → (xs : List A) → Every P xs → Every Q xs
  every_map f [] a = tt
  every_map f (x ∷ xs) a = (f x a.0, every_map f xs a.1)

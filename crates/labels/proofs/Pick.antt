-- What a set of labels stands for, as a list: one label, a share and the rest, a new label; and conversely the labels
-- and shares that parts of the list come from.
use mathlib.Core.Path.{◌≡◌, refl, sym, ap, ap₂, subst, ◌∙◌}
use mathlib.Core.List.{List, [], ◌∷◌, ◌++◌}
use Prim.Native.Nat.{ℕ, zero, suc, ◌+◌, ◌-◌, ◌*◌, ◌/◌, ◌%◌, ◌^◌, ◌≤◌, ◌<◌, min}
use native.Mathlib.Omega.{arith}
use native.Mathlib.Nat.{pow-suc}
use lib.Bits.{bit_and, and_step, and_le_l, and_zero_l}
use lib.Pow.{shr-shr}
use borrow.Author.Tests.{eqb-true, eq-eqb}
use Rattle.logic.specs.Multiset.{here, there, Perm, none, more}
use Rattle.logic.proofs.Multisets.{perm_sym}
use Rattle.labels.specs.Labels.{insert, without, remove, ◌∋◌, ◌⊑◌, later, prepend, pick}
use Rattle.labels.proofs.Sets.{subset_le, member_subset, subset_member, insert_member, remove_insert}
use Rattle.labels.proofs.Permutations.{on, perm_nil, perm_middle, front, inhabited, Side, left, right, side}

-- Halves: the lowest label, and the others

without_half : (d s : ℕ) → without d s / 2 ≡ without (d / 2) (s / 2)
without_half d s = omega (arith, and_step d s, and_le_l (d / 2) (s / 2))

without_low : (d s : ℕ) → without d s % 2 ≡ d % 2 - min (d % 2) (s % 2)
without_low d s = omega (arith, and_step d s, and_le_l (d / 2) (s / 2))

subset_half : (s d : ℕ) → s ⊑ d → (s % 2 ≤ d % 2) × (s / 2 ⊑ d / 2)
subset_half s d h =
    let e = eqb-true (bit_and s d) s h in
    (omega (arith, and_step s d), eq-eqb (bit_and (s / 2) (d / 2)) (s / 2) (omega (arith, and_step s d)))

member_half : (d k : ℕ) → d / 2 ∋ k → d ∋ suc k
member_half d k h =
    let e : 1 + k ≡ suc k = omega arith in
    eq-eqb _ _ (ap (λ (x : ℕ). x % 2) (sym (shr-shr d 1 k ∙ ap (λ (x : ℕ). d / 2 ^ x) e)) ∙ eqb-true _ _ h)

module _ {A : Type 0} where
  -- No label, and one

  pub pick_empty : (f : ℕ → A) (n : ℕ) → pick f n 0 ≡ []
  pick_empty f zero = refl
  pick_empty f (suc n) = pick_empty (later f) n

  pub pick_only : (f : ℕ → A) (n k : ℕ) → k < n → pick f n (2 ^ k) ≡ f k ∷ []
  pick_only f zero k h = absurd (omega arith)
  pick_only f (suc n) zero h = ap (f 0 ∷◌) (pick_empty (later f) n)
  pick_only f (suc n) (suc k) h =
      let a : 2 ^ suc k % 2 ≡ 0 = omega arith in
      let b : 2 ^ suc k / 2 ≡ 2 ^ k = omega arith in
      rw (a, b) (pick_only (later f) n k (omega arith))

  -- a set with nothing in its list is empty
  low_nil : (b : ℕ) (x : A) (l : List A) → prepend b x l ≡ [] → (b ≡ 0) × (l ≡ [])
  low_nil zero x l e = (refl, e)
  low_nil (suc b) x l e = let z : ◌≡◌ {A = ℕ} 1 0 = cc in absurd (omega arith)

  pub pick_nil : (f : ℕ → A) (n d : ℕ) → d < 2 ^ n → pick f n d ≡ [] → d ≡ 0
  pick_nil f zero d h e = omega arith
  pick_nil f (suc n) d h e =
      let r = low_nil (d % 2) (f 0) (pick (later f) n (d / 2)) e in
      omega (arith, r.0, pick_nil (later f) n (d / 2) (omega (arith, pow-suc 2 n)) r.1)

  -- two functions that agree on the labels give one list
  pub pick_agree : (f g : ℕ → A) (n d : ℕ) → ((k : ℕ) → d ∋ k → f k ≡ g k) → pick f n d ≡ pick g n d
  pick_agree f g zero d h = refl
  pick_agree f g (suc n) d h =
      go (d % 2) refl (pick_agree (later f) (later g) n (d / 2) (λ k m. h (suc k) (member_half d k m)))
    where
      go : (b : ℕ) → d % 2 ≡ b → {l m : List A} → l ≡ m → prepend b (f 0) l ≡ prepend b (g 0) m
      go zero e q = q
      go (suc b) e q = ap₂ ◌∷◌ (h 0 (eq-eqb (d / 2 ^ 0 % 2) 1 (omega arith))) q

  -- A share and the rest

  split_low : (x : A) (a b c : ℕ) → a + b ≡ c → c < 2 → (p q : List A) {r : List A} → Perm (p ++ q) r
      → Perm (prepend a x p ++ prepend b x q) (prepend c x r)
  split_low x zero zero zero e l p q m = m
  split_low x zero zero (suc c) e l p q m = absurd (omega arith)
  split_low x zero (suc b) zero e l p q m = absurd (omega arith)
  split_low x zero (suc b) (suc c) e l p q m = perm_middle p q m
  split_low x (suc a) zero zero e l p q m = absurd (omega arith)
  split_low x (suc a) zero (suc c) e l p q m = on m
  split_low x (suc a) (suc b) c e l p q m = absurd (omega arith)

  pub pick_share : (f : ℕ → A) (n s d : ℕ) → s ⊑ d → Perm (pick f n s ++ pick f n (without d s)) (pick f n d)
  pick_share f zero s d h = none
  pick_share f (suc n) s d h =
      let k = subset_half s d h in
      let e : without d s % 2 ≡ d % 2 - s % 2 = omega (arith, without_low d s, k.0) in
      rw (without_half d s, e)
      (split_low (f 0) (s % 2) (d % 2 - s % 2) (d % 2) (omega (arith, k.0)) (omega arith) (pick (later f) n (s / 2))
      (pick (later f) n (without (d / 2) (s / 2))) (pick_share (later f) n (s / 2) (d / 2) k.1))

  pub pick_remove : (f : ℕ → A) (n d k : ℕ) → k < n → d ∋ k → Perm (f k ∷ pick f n (remove d k)) (pick f n d)
  pick_remove f n d k l m = rw (pick_only f n k l) at (pick_share f n (2 ^ k) d (member_subset d k m))

  pub pick_insert : (f : ℕ → A) (n d k : ℕ) → k < n → d < 2 ^ k → Perm (f k ∷ pick f n d) (pick f n (insert d k))
  pick_insert f n d k l h = rw (remove_insert d k h) at (pick_remove f n (insert d k) k l (insert_member d k h))

  -- The converses

  -- a share for the first of two lists
  abbrev pub Share : (ℕ → A) → ℕ → ℕ → List A → List A → Type 0
  Share f n d D E = (s : ℕ) × (s ⊑ d) × Perm D (pick f n s) × Perm E (pick f n (without d s))

  doubled : (f : ℕ → A) (n d b c s : ℕ) (D E : List A) → b + c ≡ d % 2 → s ⊑ d / 2
      → Perm D (prepend b (f 0) (pick (later f) n s))
      → Perm E (prepend c (f 0) (pick (later f) n (without (d / 2) s)))
      → Share f (suc n) d D E
  doubled f n d b c s D E e h p q =
      let t = s * 2 + b in
      let low : t % 2 ≡ b = omega arith in
      let half : t / 2 ≡ s = omega arith in
      let inner = eqb-true (bit_and s (d / 2)) s h in
      let step : bit_and t d ≡ bit_and s (d / 2) * 2 + min b (d % 2) =
      and_step t d ∙ ap₂ (λ (x y : ℕ). bit_and x (d / 2) * 2 + min y (d % 2)) half low in
      let low' : without d t % 2 ≡ c = omega (arith, without_low d t) in
      let half' : without d t / 2 ≡ without (d / 2) s = without_half d t ∙ ap (without (d / 2)) half in
      (t, eq-eqb (bit_and t d) t (omega arith), rw (low, half) p, rw (low', half') q)

  choose_go : (f : ℕ → A) (n d : ℕ) (D E : List A) (b : ℕ) → d % 2 ≡ b
      → ((P Q : List A) → Perm (P ++ Q) (pick (later f) n (d / 2)) → Share (later f) n (d / 2) P Q)
      → Perm (prepend b (f 0) (pick (later f) n (d / 2))) (D ++ E) → Share f (suc n) d D E
  choose_go f n d D E zero e ih m =
      let r = ih D E (perm_sym m) in
      doubled f n d 0 0 r.0 D E (omega arith) r.1 r.2 r.3
  choose_go f n d D E (suc b) e ih (more {ys = ys} i m) = go (side D E i)
    where
      go : Side (f 0) D E ys → Share f (suc n) d D E
      go (left P j q) =
          let r = ih P E (perm_sym (subst (Perm _) q m)) in
          doubled f n d 1 0 r.0 D E (omega arith) r.1 (front j r.2) r.3
      go (right Q j q) =
          let r = ih D Q (perm_sym (subst (Perm _) q m)) in
          doubled f n d 0 1 r.0 D E (omega arith) r.1 r.2 (front j r.3)

  nothing_in : (D E : List A) → Perm (D ++ E) [] → Perm D [] × Perm E []
  nothing_in [] E m = (none, m)
  nothing_in (x ∷ D) E (more i m) = absurd (inhabited i)

  pub choose : (f : ℕ → A) (n d : ℕ) (D E : List A) → Perm (D ++ E) (pick f n d) → Share f n d D E
  choose f zero d D E m =
      let r = nothing_in D E m in
      (0, eq-eqb (bit_and 0 d) 0 (and_zero_l d), r.0, r.1)
  choose f (suc n) d D E m =
      choose_go f n d D E (d % 2) refl (choose (later f) n (d / 2)) (perm_sym m)

  -- the label of a list of one
  abbrev Only : (ℕ → A) → ℕ → ℕ → A → Type 0
  Only f n s h = (k : ℕ) × (k < n) × (f k ≡ h) × (s ≡ 2 ^ k)

  only_go : (f : ℕ → A) (n s : ℕ) (h : A) (b : ℕ) → s % 2 ≡ b → s / 2 < 2 ^ n
      → (Perm (h ∷ []) (pick (later f) n (s / 2)) → Only (later f) n (s / 2) h)
      → Perm (h ∷ []) (prepend b (f 0) (pick (later f) n (s / 2))) → Only f (suc n) s h
  only_go f n s h zero e lim ih m =
      let r = ih m in
      (suc r.0, omega (arith, r.1), r.2, omega (arith, r.3))
  only_go f n s h (suc b) e lim ih (more (here q) m) =
      let z = pick_nil (later f) n (s / 2) lim (perm_nil m) in
      (0, omega arith, sym q, omega (arith, z))
  only_go f n s h (suc b) e lim ih (more (there i) m) =
      let z : ◌≡◌ {A = ℕ} 0 1 = cc (perm_nil m) in
      absurd (omega arith)

  only : (f : ℕ → A) (n s : ℕ) (h : A) → s < 2 ^ n → Perm (h ∷ []) (pick f n s) → Only f n s h
  only f zero s h lim (more i m) = absurd (inhabited i)
  only f (suc n) s h lim m =
      let lim' : s / 2 < 2 ^ n = omega (arith, pow-suc 2 n) in
      only_go f n s h (s % 2) refl lim' (only (later f) n (s / 2) h lim') m

  -- the label of what stands in front, and the rest of the set
  abbrev pub Found : (ℕ → A) → ℕ → ℕ → A → List A → Type 0
  Found f n d h D = (k : ℕ) × (k < n) × (d ∋ k) × (f k ≡ h) × Perm D (pick f n (remove d k))

  pub find : (f : ℕ → A) (n d : ℕ) {h : A} {D : List A} → d < 2 ^ n → Perm (h ∷ D) (pick f n d) → Found f n d h D
  find f n d {h} {D} lim m =
      let r = choose f n d (h ∷ []) D m in
      let w = only f n r.0 h (omega (arith, subset_le r.0 d r.1)) r.2 in (
        w.0,
        w.1,
        subset_member d w.0 (subst (λ (s : ℕ). s ⊑ d) w.3 r.1),
        w.2,
        subst (λ (s : ℕ). Perm D (pick f n (without d s))) w.3 r.3,
      )

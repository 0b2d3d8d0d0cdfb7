-- A line joins the set of a group: which sets have which lines after it. All else in the store stays.
use mathlib.Core.Path.{◌≡◌, refl, sym, ap, subst, ◌∙◌}
use mathlib.Core.List.{List}
use mathlib.Core.Bool.{false, true≢false}
use Prim.Native.Nat.{ℕ, zero, suc, ◌+◌, ◌*◌, ◌-◌, ◌/◌, ◌%◌, ◌^◌, ◌≤◌, ◌<◌, max}
use native.Mathlib.Omega.{arith}
use native.Mathlib.Nat.{pow-suc}
use native.Mathlib.Decide.{dec_lt, ℕ_discrete}
use lib.Bits.{bit_or, or_step, or_shr}
use lib.Pow.{pow-lt, pow-add, shl-shr, high}
use lib.ListN.{length, get_or, set, length-set}
use lib.Seq.{get_or-set_same, get_or-set_other}
use lib.Dec.{eqb}
use borrow.Author.Tests.{eqb-true, eq-eqb}
use Rattle.ledger.specs.Checks.{max_formulas}
use Rattle.labels.specs.Labels.{member, insert, ◌∋◌}
use Rattle.labels.proofs.Sets.{only_member}
use Rattle.store_cells.specs.Layout.{cells, group_base, groups, set_lines, set_width, group_place, credential_base}
use Rattle.store_cells.specs.Layout.{cell, group_at, filled_at, put_mark}

-- Bits

digit_or : (a b k : ℕ) → bit_or a b / 2 ^ k % 2 ≡ max (a / 2 ^ k % 2) (b / 2 ^ k % 2)
digit_or a b k = omega (arith, or_shr a b k, or_step (a / 2 ^ k) (b / 2 ^ k))

-- of 2 ^ k every other bit is 0
digit_other : (k j : ℕ) → (j ≡ k → ⊥) → 2 ^ k / 2 ^ j % 2 ≡ 0
digit_other k j h = go (dec_lt j k)
  where
    go : Dec (j < k) → 2 ^ k / 2 ^ j % 2 ≡ 0
    go (yes l) =
        let d = k - j - 1 in
        let e : suc d + j ≡ k = omega arith in
        let p : 2 ^ k / 2 ^ j ≡ 2 ^ suc d = ap (λ (n : ℕ). 2 ^ n / 2 ^ j) (sym e)
        ∙ ap (λ (n : ℕ). n / 2 ^ j) (pow-add 2 (suc d) j) ∙ shl-shr (2 ^ suc d) j in
        omega (arith, p, pow-suc 2 d)
    go (no l) =
        let q : 2 ^ k < 2 ^ j = pow-lt (omega arith) in
        let p : 2 ^ k / 2 ^ j ≡ 0 = ap (λ (n : ℕ). n / 2 ^ j) (omega arith) ∙ high 0 j q in
        omega (arith, p)

insert_here : (d k : ℕ) → insert d k ∋ k
insert_here d k =
    let e : 2 ^ k / 2 ^ k % 2 ≡ 1 = eqb-true _ 1 (only_member (2 ^ k) k refl) in
    eq-eqb (insert d k / 2 ^ k % 2) 1 (omega (arith, digit_or d (2 ^ k) k, e))

insert_other : (d k j : ℕ) → (j ≡ k → ⊥) → member (insert d k) j ≡ member d j
insert_other d k j h =
    let e : insert d k / 2 ^ j % 2 ≡ d / 2 ^ j % 2 = omega (arith, digit_or d (2 ^ k) j, digit_other k j h) in
    ap (λ (n : ℕ). eqb n 1) e

-- Line n joins the set of group g.
module _ (m : List ℕ) (g n : ℕ) (h : g < groups) (q : n < max_formulas) where
  abbrev w : ℕ
  w = n / set_lines

  abbrev mid : List ℕ
  mid = set m (group_place g w) (insert (group_at m g w) (n % set_lines))

  pub mark_long : length (put_mark m g n) ≡ length m
  unfolding put_mark
  mark_long = length-set mid (group_place g set_width) _ ∙ length-set m (group_place g w) _

  -- another place
  elsewhere : (k : ℕ) → (k ≡ group_place g w → ⊥) → (k ≡ group_place g set_width → ⊥)
      → get_or (put_mark m g n) k 0 ≡ get_or m k 0
  unfolding put_mark
  elsewhere k a b =
      get_or-set_other mid (group_place g set_width) k _ 0 b ∙ get_or-set_other m (group_place g w) k _ 0 a

  pub mark_below : (k : ℕ) → k < group_base → get_or (put_mark m g n) k 0 ≡ get_or m k 0
  mark_below k l = elsewhere k (omega arith) (omega arith)

  pub mark_above : (k : ℕ) → credential_base ≤ k → get_or (put_mark m g n) k 0 ≡ get_or m k 0
  mark_above k l = elsewhere k (omega arith) (omega arith)

  -- the number that has the line, and the one that has this number
  line_joins : length m ≡ cells → group_at (put_mark m g n) g w ≡ insert (group_at m g w) (n % set_lines)
  unfolding put_mark group_at cell
  line_joins e =
      get_or-set_other mid (group_place g set_width) (group_place g w) _ 0 (omega arith)
      ∙ get_or-set_same m (group_place g w) _ 0 (omega arith)

  number_joins : length m ≡ cells → filled_at (put_mark m g n) g ≡ insert (filled_at m g) w
  unfolding put_mark group_at cell
  number_joins e =
      get_or-set_same mid (group_place g set_width) _ 0 (omega (
        arith,
        length-set m (group_place g w) (insert (group_at m g w)
            (n % set_lines)),
      ))

  -- the other numbers
  numbers_stay : (f v : ℕ) → f < groups → v < set_width → (f ≡ g → v ≡ w → ⊥)
      → group_at (put_mark m g n) f v ≡ group_at m f v
  unfolding group_at cell
  numbers_stay f v a b d = elsewhere (group_place f v) (λ e. d (omega arith) (omega arith)) (omega arith)

  filled_stays : (f : ℕ) → f < groups → (f ≡ g → ⊥) → filled_at (put_mark m g n) f ≡ filled_at m f
  unfolding group_at cell
  filled_stays f a d = elsewhere (group_place f set_width) (omega arith) (omega arith)

  module _ (e : length m ≡ cells) where
    pub mark_here : group_at (put_mark m g n) g w ∋ n % set_lines
    mark_here = subst (λ (d : ℕ). d ∋ n % set_lines) (sym (line_joins e)) (insert_here (group_at m g w) (n % set_lines))

    -- every other line stays
    pub mark_other : (f v j : ℕ) → f < groups → v < set_width → j < set_lines → (v * set_lines + j ≡ n → ⊥)
        → member (group_at (put_mark m g n) f v) j ≡ member (group_at m f v) j
    mark_other f v j a b c d = go (ℕ_discrete f g) (ℕ_discrete v w)
      where
        go : Dec (f ≡ g) → Dec (v ≡ w) → member (group_at (put_mark m g n) f v) j ≡ member (group_at m f v) j
        go (yes x) (yes y) =
            rw (x, y) (ap (λ (z : ℕ). member z j) (line_joins e)
            ∙ insert_other (group_at m g w) (n % set_lines) j (omega arith))
        go (yes x) (no y) = ap (λ (z : ℕ). member z j) (numbers_stay f v a b (λ _ k. y k))
        go (no x) y = ap (λ (z : ℕ). member z j) (numbers_stay f v a b (λ k _. x k))

    -- the line stays in the sets that it is in
    pub mark_stays : (f : ℕ) → f < groups → group_at m f w ∋ n % set_lines
        → group_at (put_mark m g n) f w ∋ n % set_lines
    mark_stays f a b = go (ℕ_discrete f g)
      where
        go : Dec (f ≡ g) → group_at (put_mark m g n) f w ∋ n % set_lines
        go (yes x) = subst (λ (z : ℕ). group_at (put_mark m g n) z w ∋ n % set_lines) (sym x) mark_here
        go (no x) =
            subst (λ (z : ℕ). z ∋ n % set_lines) (sym (numbers_stay f w a (omega arith) (λ k _. x k))) b

    -- which numbers are not 0
    pub mark_filled : (f v : ℕ) → f < groups → filled_at (put_mark m g n) f ∋ v → (v ≡ w → ⊥) → filled_at m f ∋ v
    mark_filled f v a b d = go (ℕ_discrete f g)
      where
        go : Dec (f ≡ g) → filled_at m f ∋ v
        go (yes x) =
            sym (insert_other (filled_at m f) w v d) ∙ ap (λ (z : ℕ). member (insert (filled_at m z) w) v) x
            ∙ ap (λ (z : ℕ). member z v) (sym (number_joins e))
            ∙ ap (λ (z : ℕ). member (filled_at (put_mark m g n) z) v) (sym x) ∙ b
        go (no x) = ap (λ (z : ℕ). member z v) (sym (filled_stays f a x)) ∙ b

    pub mark_empty : (f v : ℕ) → f < groups → v < set_width → member (filled_at (put_mark m g n) f) v ≡ false
        → (member (filled_at m f) v ≡ false) × (group_at (put_mark m g n) f v ≡ group_at m f v)
    mark_empty f v a b c = go (ℕ_discrete f g) (ℕ_discrete v w)
      where
        go : Dec (f ≡ g) → Dec (v ≡ w)
            → (member (filled_at m f) v ≡ false) × (group_at (put_mark m g n) f v ≡ group_at m f v)
        go (yes x) (yes y) =
            absurd (true≢false (sym (insert_here (filled_at m g) w) ∙ ap (λ (z : ℕ). member z w) (sym (number_joins e))
            ∙ (rw (x, y) at c)))
        go (yes x) (no y) = (
          sym (insert_other (filled_at m f) w v y) ∙ ap (λ (z : ℕ). member (insert (filled_at m z) w) v) x
              ∙ ap (λ (z : ℕ). member z v) (sym (number_joins e)) ∙ (rw x at c),
          numbers_stay f v a b (λ _ k. y k),
        )
        go (no x) y = (
          ap (λ (z : ℕ). member z v) (sym (filled_stays f a x)) ∙ c,
          numbers_stay f v a b (λ k _. x k),
        )

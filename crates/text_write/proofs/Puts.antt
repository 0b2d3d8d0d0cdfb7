-- Texts written one after another.
use mathlib.Core.Path.{◌≡◌, refl, sym, ap, ◌∙◌}
use mathlib.Core.List.{List, [], ◌∷◌, ◌++◌, append_assoc, append-nil}
use Prim.Native.Nat.{ℕ, zero, suc, ◌+◌, ◌-◌, ◌/◌, ◌%◌, ◌^◌, ◌≤◌, ◌<◌}
use native.Mathlib.Numerals.{add-one}
use native.Mathlib.Omega.{arith}
use mir.Syntax.{w64}
use mir.Val.{Fits}
use lib.ListN.{length, take, drop, set, length-append, length-drop, length-set, drop_of_length-le}
use lib.Seq.{take-append_seam, drop-append_seam, drop-drop, length-take-le, take_all}
use borrow.Rule.Slice.PartMut.{put_mid}
use Rattle.request.specs.Write.{digits, joined}
use Rattle.request.proofs.Digits.{digits_one}
use Rattle.text_write.specs.Put.{Put, Measured, put_two, ended}
use Rattle.text_write.proofs.Numbers.{two, digits_some, digits_two, digits_hundred}
use Rattle.text_write.proofs.Numbers.{one_digit, two_digits, more_digits}

pub wrote_as : {o x y o₁ : List ℕ} {i : ℕ} → x ≡ y → Put o x o₁ i → Put o y o₁ i
wrote_as {o} {o₁ = o₁} {i = i} e w = rw e at w

pub room_as : {x y : List ℕ} {n : ℕ} → x ≡ y → length x ≤ n → length y ≤ n
room_as {n = n} e h = rw e at h

-- One byte after another

pub wrote_byte : (o : List ℕ) (x : ℕ) → 1 ≤ length o → Put o (x ∷ []) (set o 0 x) 1
wrote_byte [] x h = absurd (omega arith)
wrote_byte (y ∷ o) x h = record { wrote = refl; long = refl; stays = refl }

-- a text copied to the front
pub wrote_front : {o x y : List ℕ} → y ≡ x → length x ≤ length o → Put o x (y ++ drop (length x) o) (length x)
wrote_front {o} {x} {y} e h = record {
  wrote = refl;
  long = omega (arith, length-append y (drop (length x) o), length-drop (length x) o, ap length e);
  stays = ap (λ (l : List ℕ). l ++ drop (length x) o) e;
}

set_seam : (x o : List ℕ) (b : ℕ) → 1 ≤ length o → set (x ++ o) (length x) b ≡ x ++ (b ∷ drop 1 o)
set_seam [] [] b h = absurd (omega arith)
set_seam [] (y ∷ o) b h = refl
set_seam (a ∷ x) o b h = ap (λ (l : List ℕ). a ∷ l) (set_seam x o b h)

pub wrote_more : {o x o₁ : List ℕ} {i : ℕ} (b : ℕ) → length x + 1 ≤ length o → Put o x o₁ i
    → Put o (x ++ (b ∷ [])) (set o₁ i b) (i + 1)
wrote_more {o} {x} {o₁} {i} b room v = record {
  wrote = omega (arith, v.wrote, length-append x (b ∷ []));
  long = length-set o₁ i b ∙ v.long;
  stays =
      ap (λ (l : List ℕ). set l i b) v.stays
      ∙ ap (λ (k : ℕ). set (x ++ drop (length x) o) k b) v.wrote
      ∙ set_seam x (drop (length x) o) b (omega (arith, length-drop (length x) o))
      ∙ ap (λ (l : List ℕ). x ++ (b ∷ l)) (drop-drop 1 (length x) o)
      ∙ sym (append_assoc x (b ∷ []) (drop (length x + 1) o))
      ∙ ap (λ (k : ℕ). (x ++ (b ∷ [])) ++ drop k o) (sym (length-append x (b ∷ [])));
}

-- A text, then another into the rest, which is lent as a part that starts in the middle

wrote_then : {o x o₁ y p : List ℕ} {i j : ℕ} → i ≤ length o → Put o x o₁ i → Put (drop i o₁) y p j
    → Put o (x ++ y) (take i o₁ ++ p) (i + j)
wrote_then {o} {x} {o₁} {y} {p} {i} {j} fits v w = record {
  wrote = omega (arith, v.wrote, w.wrote, length-append x y);
  long =
      length-append (take i o₁) p
      ∙ omega (arith, w.long, v.long, length-take-le i o₁ (omega (arith, v.long)), length-drop i o₁, fits);
  stays =
      ap (λ (l : List ℕ). take i l ++ p) v.stays
      ∙ ap (λ (k : ℕ). take k (x ++ drop (length x) o) ++ p) v.wrote
      ∙ ap (λ (l : List ℕ). l ++ p) (take-append_seam x (drop (length x) o))
      ∙ ap (λ (l : List ℕ). x ++ l) (w.stays
      ∙ ap (λ (l : List ℕ). y ++ drop (length y) (drop i l)) v.stays
      ∙ ap (λ (k : ℕ). y ++ drop (length y) (drop k (x ++ drop (length x) o))) v.wrote
      ∙ ap (λ (l : List ℕ). y ++ drop (length y) l) (drop-append_seam x (drop (length x) o))
      ∙ ap (λ (l : List ℕ). y ++ l) (drop-drop (length y) (length x) o))
      ∙ sym (append_assoc x y (drop (length x + length y) o))
      ∙ ap (λ (k : ℕ). (x ++ y) ++ drop k o) (sym (length-append x y));
}

-- a text in two parts, and room for it
pub record Parts (o t x y : List ℕ) : Type 0 where
  pub joins : x ++ y ≡ t
  pub fits : length t ≤ length o

both_fit : {o t x y : List ℕ} → Parts o t x y → length x + length y ≤ length o
both_fit {x = x} {y = y} h = omega (arith, h.fits, ap length h.joins, length-append x y)

pub first_room : {o t x y : List ℕ} → Parts o t x y → length x ≤ length o
first_room h = omega (arith, both_fit h)

module _ {o t x y o₁ : List ℕ} {i : ℕ} (h : Parts o t x y) (v : Put o x o₁ i) where
  -- the rest begins in the buffer, and has room
  pub part_start : i ≤ length o₁
  part_start = omega (arith, both_fit h, v.wrote, v.long)

  pub part_room : length y ≤ length (take (length o₁ - i) (drop i o₁))
  part_room =
      let len = length-drop i o₁ in
      let e = ap length (take_all (length o₁ - i) (drop i o₁) (omega arith)) in
      omega (arith, e, both_fit h, v.wrote, v.long)

  module _ {p : List ℕ} {j : ℕ} (w : Put (take (length o₁ - i) (drop i o₁)) y p j) where
    pub wrote_parts : Put o t (put_mid i (length o₁ - i) o₁ p) (i + j)
    wrote_parts =
        let len = length-drop i o₁ in
        let whole : take (length o₁ - i) (drop i o₁) ≡ drop i o₁ =
        take_all (length o₁ - i) (drop i o₁) (omega arith) in
        let none : drop (length o₁ - i) (drop i o₁) ≡ [] =
        drop_of_length-le (drop i o₁) {i = length o₁ - i} (omega arith) in
        let at : Put (drop i o₁) y p j = rw whole at w in
        let e : take i o₁ ++ p ≡ put_mid i (length o₁ - i) o₁ p =
        ap (λ (l : List ℕ). take i o₁ ++ l) (sym (append-nil p) ∙ ap (λ (l : List ℕ). p ++ l) (sym none)) in
        wrote_as h.joins (rw e at (wrote_then (omega (arith, both_fit h, v.wrote)) v at))

    -- a buffer's length fits, so the sum does
    pub sum_fits : length o < 2 ^ 64 → Fits w64 (i + j)
    sum_fits k = record { fits = omega (arith, k, both_fit h, v.wrote, w.wrote) }

-- Digits, the last ones first

two_dropped : (o : List ℕ) (at x y : ℕ) → at + 2 ≤ length o
    → drop at (set (set o at x) (suc at) y) ≡ x ∷ y ∷ drop (suc (suc at)) o
two_dropped [] at x y h = absurd (omega arith)
two_dropped (a ∷ []) at x y h = absurd (omega arith)
two_dropped (a ∷ b ∷ o) zero x y h = refl
two_dropped (a ∷ b ∷ o) (suc at) x y h = two_dropped (b ∷ o) at x y (omega arith)

two_put : (o : List ℕ) (at n : ℕ) → at + 2 ≤ length o → drop at (put_two o at n) ≡ two n ++ drop (at + 2) o
two_put o at n h =
    let e : suc (suc at) ≡ at + 2 = omega arith in
    ap (λ (k : ℕ). drop at (set (set o at (48 + n / 10)) k (48 + n % 10))) (add-one at)
    ∙ two_dropped o at (48 + n / 10) (48 + n % 10) h ∙ ap (λ (k : ℕ). two n ++ drop k o) e

-- v is what is left of n to write before `at`
pub record Writing (o : List ℕ) (n : ℕ) (o₁ : List ℕ) (at v : ℕ) : Type 0 where
  pub left : at ≡ length (digits v)
  pub room : at ≤ length o
  pub long : length o₁ ≡ length o
  pub stays : digits v ++ drop at o₁ ≡ digits n ++ drop (length (digits n)) o

pub writing_all : {o : List ℕ} {n k : ℕ} → length (digits n) ≤ length o → Measured (digits n) 10 k → Writing o n o k n
writing_all {o} {n} h m = record {
  left = m.exact;
  room = omega (arith, m.exact);
  long = refl;
  stays = ap (λ (i : ℕ). digits n ++ drop i o) m.exact;
}

pub writing_on : {o : List ℕ} {n : ℕ} {o₁ : List ℕ} {at v : ℕ} → 2 < at → Writing o n o₁ at v
    → Writing o n (put_two o₁ (at - 2) (v % 100)) (at - 2) (v / 100)
writing_on {o} {n} {o₁} {at} {v} h w =
    let high = digits_hundred v (more_digits v (omega (arith, w.left))) in
    let e : at - 2 + 2 ≡ at = omega arith in
    record {
      left = omega (arith, w.left, ap length high, length-append (digits (v / 100)) (two (v % 100)));
      room = omega (arith, w.room);
      long = length-set (set o₁ (at - 2) _) (at - 2 + 1) _ ∙ length-set o₁ (at - 2) _ ∙ w.long;
      stays =
          ap (λ (l : List ℕ). digits (v / 100) ++ l)
          (two_put o₁ (at - 2) (v % 100) (omega (arith, w.room, w.long))
          ∙ ap (λ (k : ℕ). two (v % 100) ++ drop k o₁) e)
          ∙ sym (append_assoc (digits (v / 100)) (two (v % 100)) (drop at o₁))
          ∙ ap (λ (l : List ℕ). l ++ drop at o₁) (sym high) ∙ w.stays;
    }

-- the last two, or the last one
pub writing_two : {o : List ℕ} {n : ℕ} {o₁ : List ℕ} {at v k : ℕ} → at ≡ 2 → Measured (digits n) 10 k
    → Writing o n o₁ at v → Put o (digits n) (put_two o₁ 0 v) k
writing_two {o} {n} {o₁} {at} {v} q m w =
    let b = two_digits v (omega (arith, w.left)) in
    record {
      wrote = m.exact;
      long = length-set (set o₁ 0 _) 1 _ ∙ length-set o₁ 0 _ ∙ w.long;
      stays =
          two_put o₁ 0 v (omega (arith, w.room, w.long))
          ∙ ap (λ (l : List ℕ). l ++ drop 2 o₁) (sym (digits_two v b.0 b.1))
          ∙ ap (λ (i : ℕ). digits v ++ drop i o₁) (sym q) ∙ w.stays;
    }

pub writing_one : {o : List ℕ} {n : ℕ} {o₁ : List ℕ} {at v k : ℕ} → at ≤ 1 → Measured (digits n) 10 k
    → Writing o n o₁ at v → Put o (digits n) (set o₁ 0 (48 + v)) k
writing_one {o} {n} {o₁} {at} {v} h m w =
    let q : at ≡ 1 = omega (arith, w.left, digits_some v) in
    record {
      wrote = m.exact;
      long = length-set o₁ 0 _ ∙ w.long;
      stays =
          (wrote_byte o₁ (48 + v) (omega (arith, w.room, w.long))).stays
          ∙ ap (λ (l : List ℕ). l ++ drop 1 o₁) (sym (digits_one v (one_digit v (omega (arith, w.left)))))
          ∙ ap (λ (i : ℕ). digits v ++ drop i o₁) (sym q) ∙ w.stays;
    }

-- Fields

-- there is one
abbrev pub Some : List (List ℕ) → Type 0
Some [] = ⊥
Some (x ∷ xs) = Unit

-- fields before others: a comma stands between
ended_then : (xs ys : List (List ℕ)) (s : ℕ) → Some xs → Some ys → ended 44 xs ++ ended s ys ≡ ended s (xs ++ ys)
unfolding ended joined
ended_then [] ys s a b = absurd a
ended_then (x ∷ xs) [] s a b = absurd b
ended_then (x ∷ []) (y ∷ ys) s a b =
    append_assoc x (44 ∷ []) (joined (y ∷ ys) ++ (s ∷ [])) ∙ sym (append_assoc x (44 ∷ joined (y ∷ ys)) (s ∷ []))
ended_then (x ∷ z ∷ zs) (y ∷ ys) s a b =
    ap (λ (l : List ℕ). l ++ (joined (y ∷ ys) ++ (s ∷ []))) (append_assoc x (44 ∷ joined (z ∷ zs)) (44 ∷ []))
    ∙ append_assoc x (44 ∷ (joined (z ∷ zs) ++ (44 ∷ []))) (joined (y ∷ ys) ++ (s ∷ []))
    ∙ ap (λ (l : List ℕ). x ++ (44 ∷ l)) (ended_then (z ∷ zs) (y ∷ ys) s tt tt)
    ∙ sym (append_assoc x (44 ∷ joined ((z ∷ zs) ++ (y ∷ ys))) (s ∷ []))

pub ended_length : (xs ys : List (List ℕ)) (s : ℕ) → Some xs → Some ys
    → length (ended s (xs ++ ys)) ≡ length (ended 44 xs) + length (ended s ys)
ended_length xs ys s a b = ap length (sym (ended_then xs ys s a b)) ∙ length-append (ended 44 xs) (ended s ys)

-- room for fields and others after them
abbrev pub Fields : List ℕ → ℕ → List (List ℕ) → List (List ℕ) → Type 0
Fields o s xs ys = Parts o (ended s (xs ++ ys)) (ended 44 xs) (ended s ys)

pub in_fields : (xs ys : List (List ℕ)) (s : ℕ) → Some xs → Some ys → {o : List ℕ}
    → length (ended s (xs ++ ys)) ≤ length o → Fields o s xs ys
in_fields xs ys s a b h = record { joins = ended_then xs ys s a b; fits = h }

-- room for a field and the byte that ends it
pub in_ended : (x : List ℕ) (s : ℕ) {o : List ℕ} → length (ended s (x ∷ [])) ≤ length o
    → Parts o (ended s (x ∷ [])) x (s ∷ [])
unfolding ended joined
in_ended x s h = record { joins = refl; fits = h }

-- Lengths: the fields', and a byte for each
abbrev size : List (List ℕ) → ℕ
size [] = 0
size (f ∷ fs) = length f + 1 + size fs

ended_one : (x : List ℕ) (s : ℕ) → length (ended s (x ∷ [])) ≡ length x + 1
unfolding ended joined
ended_one x s = length-append x (s ∷ [])

pub ended_size : (x : List ℕ) (xs : List (List ℕ)) (s : ℕ) → length (ended s (x ∷ xs)) ≡ size (x ∷ xs)
ended_size x [] s = omega (arith, ended_one x s)
ended_size x (z ∷ zs) s =
    omega (arith, ended_length (x ∷ []) (z ∷ zs) s tt tt, ended_one x 44, ended_size z zs s)

-- Empty lines in bytes, and the search for the first.
use mathlib.Core.Path.{◌≡◌, refl, sym, ap, ◌∙◌}
use mathlib.Core.List.{List, [], ◌∷◌, ◌++◌}
use mathlib.Core.Bool.{Bool, true, false, ◌&&◌, ◌||◌, or-true, or-false, or_assoc}
use Prim.Native.Nat.{ℕ, suc, ◌+◌, ◌-◌, ◌≤◌, ◌<◌}
use native.Mathlib.Numerals.{add-one}
use native.Mathlib.Omega.{arith}
use lib.Dec.{eqb, ltb}
use lib.ListN.{length, take, drop, get_or}
use lib.Seq.{take_all, take-suc, take-add, drop-cons}
use borrow.Author.Tests.{eqb-true, lt-ltb}
use Rattle.logic.proofs.Tests.{left_true, right_true}
use Rattle.stream_sheets.specs.Sheets.{empty_line, line_begins}
use Rattle.stream_sheets.specs.Ends.{EndsAt, BothTen}

both_false : {a b : Bool} → a ≡ false → b ≡ false → (a || b) ≡ false
both_false {a} {b} e f = rw (e, f)

-- Bytes after bytes

empty_append : (f : Bool) (b c : List ℕ) → empty_line f (b ++ c) ≡ (empty_line f b || empty_line (line_begins f b) c)
unfolding empty_line line_begins
empty_append f [] c = refl
empty_append f (y ∷ b) c =
    ap (λ (z : Bool). (f && eqb y 10) || z) (empty_append (eqb y 10) b c)
    ∙ sym (or_assoc (f && eqb y 10) (empty_line (eqb y 10) b) (empty_line (line_begins (eqb y 10) b) c))

pub begins_snoc : (f : Bool) (b : List ℕ) (x : ℕ) → line_begins f (b ++ (x ∷ [])) ≡ eqb x 10
unfolding line_begins
begins_snoc f [] x = refl
begins_snoc f (y ∷ b) x = begins_snoc (eqb y 10) b x

empty_last : (f : Bool) (b : List ℕ) (x : ℕ)
    → empty_line f (b ++ (x ∷ [])) ≡ (empty_line f b || (line_begins f b && eqb x 10))
unfolding empty_line
empty_last f b x =
    empty_append f b (x ∷ []) ∙ ap (λ (z : Bool). empty_line f b || z) (or-false (line_begins f b && eqb x 10))

pub empty_snoc : (f : Bool) (b : List ℕ) (x : ℕ) → empty_line f b ≡ false → (line_begins f b && eqb x 10) ≡ false
    → empty_line f (b ++ (x ∷ [])) ≡ false
empty_snoc f b x h e = empty_last f b x ∙ both_false h e

-- The first bytes of x

begins_at : (f : Bool) (x : List ℕ) (i : ℕ) → 0 < i → i ≤ length x
    → line_begins f (take i x) ≡ eqb (get_or x (i - 1) 0) 10
begins_at f x i p h =
    let e : i ≡ suc (i - 1) = omega arith in
    ap (λ (n : ℕ). line_begins f (take n x)) e
    ∙ ap (line_begins f) (take-suc x (i - 1) 0 (omega arith))
    ∙ begins_snoc f (take (i - 1) x) (get_or x (i - 1) 0)

-- a byte more
empty_next : (f : Bool) (x : List ℕ) (i : ℕ) → 0 < i → i < length x
    → empty_line f (take (i + 1) x)
    ≡ (empty_line f (take i x) || (eqb (get_or x (i - 1) 0) 10 && eqb (get_or x i 0) 10))
empty_next f x i p h =
    ap (empty_line f) (rw add-one (take-suc x i 0 h))
    ∙ empty_last f (take i x) (get_or x i 0)
    ∙ ap (λ (z : Bool). empty_line f (take i x) || (z && eqb (get_or x i 0) 10)) (begins_at f x i p (omega arith))

-- the first byte
pub empty_first : (x : List ℕ) → 0 < length x → empty_line false (take (0 + 1) x) ≡ false
unfolding empty_line
empty_first [] h = absurd (omega arith)
empty_first (y ∷ x) h = refl

-- where it is no empty line, what comes before it makes no difference
pub any_before : (f : Bool) (x : List ℕ) (i : ℕ) → 0 < length x → (f && eqb (get_or x 0 0) 10) ≡ false
    → empty_line false (take (i + 1) x) ≡ false → empty_line f (take (i + 1) x) ≡ false
unfolding empty_line
any_before f [] i h e n = absurd (omega arith)
any_before f (y ∷ x) i h e n = rw add-one (both_false e (rw add-one at n))

-- Counting the empty lines

few : {r : ℕ} (b : Bool) → (r ≡ elim b [ true ↦ 1 | false ↦ 0 ]) → r ≤ 1
few true e = omega arith
few false e = omega arith

one_more_holds : (n r : ℕ) (b : Bool) → (r ≡ elim b [ true ↦ 1 | false ↦ 0 ]) → ltb 0 (n + r) ≡ (ltb 0 n || b)
one_more_holds n r true e = lt-ltb 0 (n + r) (omega arith) ∙ sym (or-true (ltb 0 n))
one_more_holds n r false e = ap (ltb 0) (let h : n + r ≡ n = omega arith in h) ∙ sym (or-false (ltb 0 n))

pub ten_few : (x y r : ℕ) → BothTen x y r → r ≤ 1
ten_few x y r e = few (eqb x 10 && eqb y 10) e

pub counted : (f : Bool) (x : List ℕ) (i n r : ℕ) → 0 < i → i < length x → ltb 0 n ≡ empty_line f (take i x)
    → BothTen (get_or x (i - 1) 0) (get_or x i 0) r → ltb 0 (n + r) ≡ empty_line f (take (i + 1) x)
counted f x i n r p h e b =
    one_more_holds n r (eqb (get_or x (i - 1) 0) 10 && eqb (get_or x i 0) 10) b
    ∙ ap (λ (z : Bool). z || (eqb (get_or x (i - 1) 0) 10 && eqb (get_or x i 0) 10)) e ∙ sym (empty_next f x i p h)

-- Going on by n bytes

pub skip_on : (x : List ℕ) (i n : ℕ) → i < length x → empty_line false (take (i + 1) x) ≡ false
    → empty_line false (take (n + 1) (drop i x)) ≡ false → empty_line false (take (i + n + 1) x) ≡ false
unfolding empty_line
skip_on x i n h e b =
    let d : drop i x ≡ get_or x i 0 ∷ drop (i + 1) x = rw add-one (drop-cons x i 0 h) in
    let c : empty_line (eqb (get_or x i 0) 10) (take n (drop (i + 1) x)) ≡ false = rw (add-one, d) at b in
    let s : i + n + 1 ≡ i + 1 + n = omega arith in
    let q : i + 1 - 1 ≡ i = omega arith in
    let begun : line_begins false (take (i + 1) x) ≡ eqb (get_or x i 0) 10 =
    begins_at false x (i + 1) (omega arith) (omega arith) ∙ ap (λ (j : ℕ). eqb (get_or x j 0) 10) q in
    ap (λ (k : ℕ). empty_line false (take k x)) s
    ∙ ap (empty_line false) (take-add (i + 1) n x)
    ∙ empty_append false (take (i + 1) x) (take n (drop (i + 1) x))
    ∙ both_false e (ap (λ (z : Bool). empty_line z (take n (drop (i + 1) x))) begun ∙ c)

-- The first empty line

module _ (x : List ℕ) (f : Bool) where
  pub end_first : 0 < length x → (f && eqb (get_or x 0 0) 10) ≡ true → EndsAt x f 0
  unfolding empty_line line_begins
  end_first h e = record {
    inside = h;
    ten = eqb-true _ _ (right_true f _ e);
    lines = left_true f _ e;
    none = refl;
  }

  pub end_at : (i : ℕ) → 0 < i → i < length x → empty_line f (take i x) ≡ false
      → (eqb (get_or x (i - 1) 0) 10 && eqb (get_or x i 0) 10) ≡ true → EndsAt x f i
  end_at i p h n e = record {
    inside = h;
    ten = eqb-true _ _ (right_true (eqb (get_or x (i - 1) 0) 10) _ e);
    lines = begins_at f x i p (omega arith) ∙ left_true (eqb (get_or x (i - 1) 0) 10) _ e;
    none = n;
  }

  pub end_on : (i : ℕ) → 0 < i → i < length x → empty_line f (take i x) ≡ false
      → (eqb (get_or x (i - 1) 0) 10 && eqb (get_or x i 0) 10) ≡ false → empty_line f (take (i + 1) x) ≡ false
  end_on i p h n e = empty_next f x i p h ∙ both_false n e

-- the last byte, whatever comes before the bytes
pub line_after : (x : List ℕ) (f : Bool) → 0 < length x → eqb (get_or x (length x - 1) 0) 10 ≡ line_begins f x
line_after x f h =
    sym (ap (line_begins f) (sym (take_all (length x) x (omega arith))) ∙ begins_at f x (length x) h (omega arith))

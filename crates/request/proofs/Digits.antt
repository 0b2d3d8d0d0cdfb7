-- Numbers in digits: what is written is read again, what is read is what is written, and how long it is.
use mathlib.Core.Path.{◌≡◌, refl, sym, ap, subst, ◌∙◌}
use mathlib.Core.List.{List, [], ◌∷◌, ◌++◌, append_assoc, append-nil}
use mathlib.Core.Option.{Option, none, some}
use mathlib.Core.Bool.{Bool, true, false, ◌&&◌}
use Prim.Native.Nat.{ℕ, zero, suc, ◌+◌, ◌*◌, ◌-◌, ◌/◌, ◌%◌, ◌^◌, ◌≤◌, ◌<◌}
use native.Mathlib.Omega.{arith}
use native.Mathlib.Nat.{pow-suc}
use lib.Dec.{eqb, leb, ltb}
use lib.ListN.{length, length-append}
use borrow.Author.Tests.{lt-ltb, le-ltb, ltb-true, ltb-false, lt-leb, eq-eqb, ne_eqb, eqb-true, eqb-false}
use Rattle.logic.specs.Multiset.{Every}
use Rattle.logic.proofs.Tests.{and_decides, le_decides}
use Rattle.request.specs.Range.{Range}
use Rattle.request.specs.Text.{and_then, reads, decimal_digit, hex_digit, decimal, number_in, label_set_in}
use Rattle.request.specs.Text.{hex_first, hex_last, hex_shift}
use Rattle.request.specs.Write.{written, digits, hex_byte, hex_written, hex_digits}
use Rattle.request.specs.InRange.{◌in_range◌, LabelSet}
use Rattle.request.specs.Statements.{Wider}
use Rattle.request.proofs.Gives.{Gives, nothing, just, given, gives_then, gives_so, gives_if}

-- all bytes from lo on
abbrev pub Plain : ℕ → List ℕ → Type 0
Plain lo t = Every (λ x. lo ≤ x) t

pub every_append : {A : Type 0} (P : A → Type 0) (xs ys : List A) → Every P xs → Every P ys → Every P (xs ++ ys)
every_append P [] ys h k = k
every_append P (x ∷ xs) ys h k = (h.0, every_append P xs ys h.1 k)

-- a byte moves from one text to the next
moved : {s : List ℕ} {c x : ℕ} (t u : List ℕ) → s ≡ t ++ (c ∷ []) → c ≡ x → s ++ u ≡ t ++ (x ∷ u)
moved {x} t u e q = rw (e, q) (append_assoc t (x ∷ []) u)

-- Digits of a base

-- a byte for each digit of the base, and no other byte
record Digit (digit : ℕ → Option ℕ) (base : ℕ) (byte : ℕ → ℕ) : Type 0 where
  back : (d : ℕ) → d < base → digit (byte d) ≡ some d
  only : (x : ℕ) → Gives (λ d. (d < base) × (byte d ≡ x)) (digit x)
  plain : (d : ℕ) → 48 ≤ byte d

gives_between : {A : Type 0} {P : A → Type 0} (a b x : ℕ) {y z : Option A} → (a ≤ x → x ≤ b → Gives P y)
    → Gives P z → Gives P (elim (leb a x && leb x b) as (λ t. Option A) [ true ↦ y | false ↦ z ])
gives_between a b x f g =
    gives_if (leb a x && leb x b) (λ e. let h = (and_decides (le_decides a x) (le_decides x b)).0 e in f h.0 h.1)
    (λ e. g)

is_between : (a b x : ℕ) → a ≤ x → x ≤ b → (leb a x && leb x b) ≡ true
is_between a b x h k = (and_decides (le_decides a x) (le_decides x b)).1 (h, k)

not_between : (a b x : ℕ) → b < x → (leb a x && leb x b) ≡ false
not_between a b x h = go (leb a x) (leb x b) (lt-leb x b h)
  where
    go : (p q : Bool) → q ≡ false → (p && q) ≡ false
    go true q e = e
    go false q e = refl

-- what a test that passes leaves, and one that fails
if_true : {A : Type 0} {b : Bool} {x : A} (y : A) → b ≡ true → elim b as (λ z. A) [ true ↦ x | false ↦ y ] ≡ x
if_true y e = rw e

if_false : {A : Type 0} {b : Bool} (x : A) {y : A} → b ≡ false → elim b as (λ z. A) [ true ↦ x | false ↦ y ] ≡ y
if_false x e = rw e

decimal_digit_holds : Digit decimal_digit 10 (48 +◌)
unfolding decimal_digit
decimal_digit_holds = record {
  back = λ d h. if_true _ (is_between _ _ (48 + d) (omega arith) (omega arith)) ∙ ap some (omega arith);
  only = λ x. gives_between 48 57 x (λ h k. just (omega arith)) nothing;
  plain = λ d. omega arith;
}

hex_low : (d : ℕ) → d < 10 → hex_byte d ≡ 48 + d
unfolding hex_byte
hex_low d h = rw (lt-ltb d 10 h, hex_byte)

hex_high : (d : ℕ) → 10 ≤ d → hex_byte d ≡ hex_shift + d
unfolding hex_byte
hex_high d h = rw (le-ltb d 10 h, hex_byte)

-- a number has one digit, or more
by_ten : (P : ℕ → Type 0) (n : ℕ) → (n < 10 → P n) → (10 ≤ n → P n) → P n
by_ten P n low high = go (ltb n 10) refl
  where
    go : (b : Bool) → ltb n 10 ≡ b → P n
    go true e = low (ltb-true n 10 e)
    go false e = high (ltb-false n 10 e)

hex_digit_holds : Digit hex_digit 16 hex_byte
unfolding hex_digit
hex_digit_holds = record {
  back = λ d h. by_ten (λ d. hex_digit (hex_byte d) ≡ some d) d
      (λ l. ap hex_digit (hex_low d l)
      ∙ if_true _ (is_between _ _ (48 + d) (omega arith) (omega arith)) ∙ ap some (omega arith))
      (λ l. ap hex_digit (hex_high d l) ∙ if_false _ (not_between _ _ (hex_shift + d) (omega arith))
      ∙ if_true _ (is_between _ _ (hex_shift + d) (omega arith) (omega arith)) ∙ ap some (omega arith));
  only = λ x. gives_between 48 57 x
      (λ h k. just (omega arith, hex_low (x - 48) (omega arith) ∙ omega arith))
      (gives_between hex_first hex_last x
      (λ h k. just (omega arith, hex_high (x - hex_shift) (omega arith) ∙ omega arith)) nothing);
  plain = λ d. by_ten (λ d. 48 ≤ hex_byte d) d (λ l. omega (arith, hex_low d l)) (λ l. omega (arith, hex_high d l));
}

-- Reading, in any base

module _ (digit : ℕ → Option ℕ) (base : ℕ) where
  reads_append : (v : ℕ) (xs ys : List ℕ)
      → reads digit base v (xs ++ ys) ≡ and_then (reads digit base v xs) (λ u. reads digit base u ys)
  unfolding reads and_then
  reads_append v [] ys = refl
  reads_append v (x ∷ xs) ys = go (digit x) (λ d. reads_append (v * base + d) xs ys)
    where
      go : (o : Option ℕ)
          → ((d : ℕ) → reads digit base (v * base + d) (xs ++ ys)
          ≡ and_then (reads digit base (v * base + d) xs) (λ u. reads digit base u ys))
          → and_then o (λ d. reads digit base (v * base + d) (xs ++ ys))
          ≡ and_then (and_then o (λ d. reads digit base (v * base + d) xs)) (λ u. reads digit base u ys)
      go none ih = refl
      go (some d) ih = ih d

  reads_one : (v c d : ℕ) → digit c ≡ some d → reads digit base v (c ∷ []) ≡ some (v * base + d)
  unfolding reads and_then
  reads_one v c d e = rw (e, reads, and_then)

  -- one digit more
  reads_more : (xs : List ℕ) (v c d : ℕ) → reads digit base 0 xs ≡ some v → digit c ≡ some d
      → reads digit base 0 (xs ++ (c ∷ [])) ≡ some (v * base + d)
  unfolding and_then
  reads_more xs v c d e h = reads_append 0 xs (c ∷ []) ∙ rw (e, and_then) (reads_one v c d h)

-- Decimal

written_low : (k n : ℕ) → n < 10 → written k n ≡ (48 + n) ∷ []
unfolding written
written_low zero n h = refl
written_low (suc k) n h = rw (lt-ltb n 10 h, written)

written_high : (k n : ℕ) → 10 ≤ n → written (suc k) n ≡ written k (n / 10) ++ ((48 + n % 10) ∷ [])
unfolding written
written_high k n h = rw (le-ltb n 10 h, written)

written_more : (k v d : ℕ) → 1 ≤ v → d < 10 → written (suc k) (v * 10 + d) ≡ written k v ++ ((48 + d) ∷ [])
written_more k v d h l =
    let q : (v * 10 + d) / 10 ≡ v = omega arith in
    let r : (v * 10 + d) % 10 ≡ d = omega arith in
    written_high k (v * 10 + d) (omega arith) ∙ rw (q, r)

-- more digits than are needed make no difference
written_enough : (j k n : ℕ) → n ≤ j → n ≤ k → written j n ≡ written k n
written_enough zero k n h i = written_low 0 n (omega arith) ∙ sym (written_low k n (omega arith))
written_enough (suc j) zero n h i = written_low (suc j) n (omega arith) ∙ sym (written_low 0 n (omega arith))
written_enough (suc j) (suc k) n h i =
    by_ten (λ n. written (suc j) n ≡ written (suc k) n) n (λ l. written_low (suc j) n l ∙ sym (written_low (suc k) n l))
    (λ l. written_high j n l
    ∙ ap (λ (t : List ℕ). t ++ ((48 + n % 10) ∷ [])) (written_enough j k (n / 10) (omega arith) (omega arith))
    ∙ sym (written_high k n l))

-- the two laws of decimal digits
pub digits_one : (d : ℕ) → d < 10 → digits d ≡ (48 + d) ∷ []
unfolding digits
digits_one d h = written_low d d h

pub digits_more : (v d : ℕ) → 1 ≤ v → d < 10 → digits (v * 10 + d) ≡ digits v ++ ((48 + d) ∷ [])
unfolding digits
digits_more v d h l =
    written_enough (v * 10 + d) (suc (v * 10 + d)) (v * 10 + d) (omega arith) (omega arith)
    ∙ written_more (v * 10 + d) v d h l
    ∙ ap (λ (t : List ℕ). t ++ ((48 + d) ∷ [])) (written_enough (v * 10 + d) v v (omega arith) (omega arith))

-- the last digit, and the others; they need room for one byte more than those of the tenth
pub digits_high : (n : ℕ) → 10 ≤ n → digits n ≡ digits (n / 10) ++ ((48 + n % 10) ∷ [])
digits_high n h =
    let e : n ≡ n / 10 * 10 + n % 10 = omega arith in
    ap digits e ∙ digits_more (n / 10) (n % 10) (omega arith) (omega arith)

pub digits_room : (n : ℕ) → 10 ≤ n → length (digits n) ≡ length (digits (n / 10)) + 1
digits_room n h = ap length (digits_high n h) ∙ length-append (digits (n / 10)) _

-- every number is a digit, or has one digit after those of a smaller one
by_digits : (P : ℕ → Type 0) → ((d : ℕ) → d < 10 → P d)
    → ((v d : ℕ) → 1 ≤ v → d < 10 → P v → P (v * 10 + d)) → (n : ℕ) → P n
by_digits P one more n = go n n (omega arith)
  where
    go : (k n : ℕ) → n ≤ k → P n
    go zero n h = one n (omega arith)
    go (suc k) n h = by_ten P n (one n) (λ l.
        let e : n / 10 * 10 + n % 10 ≡ n = omega arith in
        subst P e (more (n / 10) (n % 10) (omega arith) (omega arith) (go k (n / 10) (omega arith))))

-- every number is read from its digits: the first is no zero, unless it is the only one

reads_digits : (n : ℕ) → reads decimal_digit 10 0 (digits n) ≡ some n
reads_digits = by_digits (λ n. reads decimal_digit 10 0 (digits n) ≡ some n)
    (λ d l. let e : 0 * 10 + d ≡ d = omega arith in
    rw (digits_one d l) (reads_one decimal_digit 10 0 (48 + d) d (decimal_digit_holds.back d l) ∙ ap some e))
    (λ v d h l ih. rw (digits_more v d h l)
    (reads_more decimal_digit 10 (digits v) v (48 + d) d ih (decimal_digit_holds.back d l)))

abbrev First : List ℕ → Type 0
First [] = ⊥
First (x ∷ xs) = 48 < x

first_append : (xs ys : List ℕ) → First xs → First (xs ++ ys)
first_append [] ys f = absurd f
first_append (x ∷ xs) ys f = f

first_digit : (n : ℕ) → 1 ≤ n → First (digits n)
first_digit = by_digits (λ n. 1 ≤ n → First (digits n))
    (λ d l h. rw (digits_one d l) (omega arith))
    (λ v d h l ih i. rw (digits_more v d h l) (first_append (digits v) ((48 + d) ∷ []) (ih h)))

decimal_first : (t : List ℕ) → First t → decimal t ≡ reads decimal_digit 10 0 t
unfolding decimal
decimal_first [] f = absurd f
decimal_first (x ∷ []) f = refl
decimal_first (x ∷ y ∷ ys) f = if_false _ (ne_eqb x _ (λ e. omega arith))

pub decimal_digits : (n : ℕ) → decimal (digits n) ≡ some n
unfolding decimal digits written reads decimal_digit and_then
decimal_digits zero = refl
decimal_digits (suc n) = decimal_first (digits (suc n)) (first_digit (suc n) (omega arith)) ∙ reads_digits (suc n)

-- what is read are the digits

digits_after : (xs : List ℕ) (v : ℕ) → 1 ≤ v → Gives (λ n. digits n ≡ digits v ++ xs) (reads decimal_digit 10 v xs)
unfolding reads
digits_after [] v h = just (sym (append-nil (digits v)))
digits_after (x ∷ xs) v h =
    gives_then (decimal_digit_holds.only x) (λ d p.
    gives_so (digits_after xs (v * 10 + d) (omega arith))
    (λ n e. e ∙ moved (digits v) xs (digits_more v d h p.0) p.1))

digits_byte : (d x : ℕ) → (d < 10) × (48 + d ≡ x) → digits (0 * 10 + d) ≡ x ∷ []
digits_byte d x p =
    let e : 0 * 10 + d ≡ d = omega arith in
    rw (e, digits_one d p.0, p.1)

pub decimal_only : (t : List ℕ) → Gives (λ n. digits n ≡ t) (decimal t)
unfolding decimal reads
decimal_only [] = nothing
decimal_only (x ∷ []) = gives_then (decimal_digit_holds.only x) (λ d p. just (digits_byte d x p))
decimal_only (x ∷ y ∷ ys) =
    gives_if (eqb x 48) (λ e. nothing) (λ f. gives_then (decimal_digit_holds.only x) (λ d p.
    gives_so (digits_after (y ∷ ys) (0 * 10 + d) (omega (arith, eqb-false x 48 f))) (λ n q.
    q ∙ ap (λ (t : List ℕ). t ++ (y ∷ ys)) (digits_byte d x p))))

-- how many, and that they are digits

pub digits_length : (n k : ℕ) → n < 10 ^ suc k → length (digits n) ≤ suc k
digits_length = by_digits (λ n. (k : ℕ) → n < 10 ^ suc k → length (digits n) ≤ suc k)
    (λ d l k h. rw (digits_one d l) (omega arith)) more
  where
    more : (v d : ℕ) → 1 ≤ v → d < 10 → ((k : ℕ) → v < 10 ^ suc k → length (digits v) ≤ suc k)
        → (k : ℕ) → v * 10 + d < 10 ^ suc k → length (digits (v * 10 + d)) ≤ suc k
    more v d i l ih zero h = absurd (omega arith)
    more v d i l ih (suc k) h =
        rw (digits_more v d i l)
        (omega (arith, length-append (digits v) ((48 + d) ∷ []), ih k (omega (arith, pow-suc 10 (suc k)))))

pub digits_plain : (n : ℕ) → Plain 48 (digits n)
digits_plain = by_digits (λ n. Plain 48 (digits n))
    (λ d l. rw (digits_one d l) (omega arith, tt))
    (λ v d h l ih. rw (digits_more v d h l) (every_append _ (digits v) ((48 + d) ∷ []) ih (omega arith, tt)))

-- A number of a range

pub number_back : (r : Range) (n : ℕ) → n in_range r → number_in r (digits n) ≡ some n
unfolding number_in and_then
number_back r n h = rw (decimal_digits n, is_between r.first r.last n h.least h.most, number_in, and_then)

pub number_only : (r : Range) (t : List ℕ) → Gives (λ n. (n in_range r) × (digits n ≡ t)) (number_in r t)
unfolding number_in
number_only r t =
    gives_then (decimal_only t) (λ n e.
    gives_between r.first r.last n (λ h k. just (record { least = h; most = k }, e)) nothing)

pub number_wider : Wider
number_wider r s l m t n e =
    let q = given (number_only r t) e in
    subst (λ (u : List ℕ). number_in s u ≡ some n) q.1
    (number_back s n (record { least = omega (arith, q.0.least); most = omega (arith, q.0.most) }))

-- A set of labels: hexadecimal, of fixed length

record Hex (k s : ℕ) : Type 0 where
  size : length (hex_written k s) ≡ k
  plain : Plain 48 (hex_written k s)
  back : reads hex_digit 16 0 (hex_written k s) ≡ some s

hex_back : (k s : ℕ) → s < 16 ^ k → Hex k s
unfolding hex_written reads
hex_back zero s h = record { size = refl; plain = tt; back = let e : 0 ≡ s = omega arith in ap some e }
hex_back (suc k) s h =
    let ih = hex_back k (s / 16) (omega (arith, pow-suc 16 k)) in
    let t = hex_written k (s / 16) in
    let d = s % 16 in
    let l : d < 16 = omega arith in
    let q : s / 16 * 16 + d ≡ s = omega arith in
    record {
      size = omega (arith, ih.size, length-append t (hex_byte d ∷ []));
      plain = every_append _ t (hex_byte d ∷ []) ih.plain (hex_digit_holds.plain d, tt);
      back = reads_more hex_digit 16 t (s / 16) (hex_byte d) d ih.back (hex_digit_holds.back d l) ∙ ap some q;
    }

hex_more : (k v d : ℕ) → d < 16 → hex_written (suc k) (v * 16 + d) ≡ hex_written k v ++ (hex_byte d ∷ [])
unfolding hex_written
hex_more k v d l =
    let q : (v * 16 + d) / 16 ≡ v = omega arith in
    let r : (v * 16 + d) % 16 ≡ d = omega arith in
    rw (q, r)

hex_after : (m : ℕ) (xs : List ℕ) (k v : ℕ) → k + length xs ≡ m → v < 16 ^ k
    → Gives (λ s. (s < 16 ^ m) × (hex_written m s ≡ hex_written k v ++ xs)) (reads hex_digit 16 v xs)
unfolding reads
hex_after m [] k v e h =
    let i : m ≡ k = omega arith in
    just (
      subst (λ (j : ℕ). v < 16 ^ j) (sym i) h,
      ap (λ (j : ℕ). hex_written j v) i
          ∙ sym (append-nil (hex_written k v)),
    )
hex_after m (x ∷ xs) k v e h =
    gives_then (hex_digit_holds.only x) (λ d p.
    gives_so (hex_after m xs (suc k) (v * 16 + d) (omega arith) (omega (arith, pow-suc 16 k, p.0)))
    (λ s q. (q.0, q.1 ∙ moved (hex_written k v) xs (hex_more k v d p.0) p.1)))

pub set_back : (s : ℕ) → LabelSet s → label_set_in (hex_digits s) ≡ some s
unfolding label_set_in hex_digits
set_back s h =
    let w = hex_back 16 s h in
    rw (eq-eqb (length (hex_written 16 s)) 16 w.size, w.back, label_set_in)

pub set_only : (t : List ℕ) → Gives (λ s. LabelSet s × (hex_digits s ≡ t)) (label_set_in t)
unfolding label_set_in hex_digits hex_written
set_only t =
    gives_if (eqb (length t) 16)
    (λ e. hex_after 16 t 0 0 (omega (arith, eqb-true (length t) 16 e)) (omega arith))
    (λ e. nothing)

pub set_length : (s : ℕ) → LabelSet s → length (hex_digits s) ≡ 16
unfolding hex_digits
set_length s h = (hex_back 16 s h).size

pub set_plain : (s : ℕ) → LabelSet s → Plain 48 (hex_digits s)
unfolding hex_digits
set_plain s h = (hex_back 16 s h).plain

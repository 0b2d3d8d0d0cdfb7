-- A set of labels, a digit at a time.
use mathlib.Core.Path.{◌≡◌, refl, ◌∙◌}
use mathlib.Core.List.{List, [], ◌∷◌}
use mathlib.Core.Option.{none, some}
use Prim.Native.Nat.{ℕ, ◌+◌, ◌*◌, ◌-◌, ◌^◌, ◌≤◌, ◌<◌}
use native.Mathlib.Omega.{arith}
use native.Mathlib.Nat.{pow-suc, pow-le-pow_right}
use native.Mathlib.Numerals.{add-one}
use lib.Dec.{eqb}
use lib.ListN.{length}
use borrow.Author.Tests.{ne_eqb, eqb-true, eqb-false, le-leb, lt-leb}
use Rattle.request.specs.Text.{and_then, reads, hex_first, hex_last, hex_shift, hex_digit, label_set_in}
use Rattle.read_fields.specs.Field.{DigitRead, Stop, field_to, set_in}
use Rattle.read_fields.proofs.Then.{by_test}
use Rattle.read_fields.proofs.FieldBytes.{field_stop, field_on, field_no, field_same, field_short, digit_inside}

-- Digits

pub hex_number : (v x : ℕ) → 48 ≤ x → x ≤ 57 → DigitRead v x (v * 16 + (x - 48))
unfolding hex_digit
hex_number v x h k = record {
  digit = x - 48;
  is = rw (le-leb 48 x h, le-leb x 57 k, hex_digit);
  below = omega arith;
  value = refl;
}

pub hex_letter : (v x : ℕ) → hex_first ≤ x → x ≤ hex_last → DigitRead v x (v * 16 + (x - hex_shift))
unfolding hex_digit
hex_letter v x h k = record {
  digit = x - hex_shift;
  is = rw (
    le-leb 48 x (omega arith),
    lt-leb x 57 (omega arith),
    le-leb hex_first x h,
    le-leb x hex_last k,
    hex_digit,
  );
  below = omega arith;
  value = refl;
}

pub hex_below : (x : ℕ) → x < 48 → hex_digit x ≡ none
unfolding hex_digit
hex_below x h = rw (lt-leb 48 x h, lt-leb hex_first x (omega arith), hex_digit)

pub hex_between : (x : ℕ) → 57 < x → x < hex_first → hex_digit x ≡ none
unfolding hex_digit
hex_between x h k = rw (le-leb 48 x (omega arith), lt-leb x 57 h, lt-leb hex_first x k, hex_digit)

pub hex_above : (x : ℕ) → hex_last < x → hex_digit x ≡ none
unfolding hex_digit
hex_above x h =
    rw (
      le-leb 48 x (omega arith),
      lt-leb x 57 (omega arith),
      le-leb hex_first x (omega arith),
      lt-leb x hex_last h,
      hex_digit,
    )

pub ruleset other_bytes = (hex_below, hex_between, hex_above)

-- Texts

set_begins : (t : List ℕ) → label_set_in t ≡ set_in 0 0 t
unfolding label_set_in set_in
set_begins t =
    let q : 0 + length t ≡ length t = omega arith in
    rw q (by_test (eqb (length t) 16) (λ e. rw (e, label_set_in)) (λ e. rw (e, label_set_in)))

set_on : (x d : ℕ) → hex_digit x ≡ some d → (k v : ℕ) (t : List ℕ) → set_in k v (x ∷ t) ≡ set_in (k + 1) (v * 16 + d) t
unfolding set_in reads and_then
set_on x d e k v t =
    let q : k + length (x ∷ t) ≡ k + 1 + length t = omega arith in
    rw (q, reads, e, and_then)

set_no : (x : ℕ) → hex_digit x ≡ none → (k v : ℕ) (t : List ℕ) → set_in k v (x ∷ t) ≡ none
unfolding set_in reads and_then
set_no x e k v t = by_test (eqb (k + length (x ∷ t)) 16) (λ z. rw (z, reads, e, and_then)) (λ z. rw z)

set_short : (k v : ℕ) → k < 16 → set_in k v [] ≡ none
unfolding set_in
set_short k v h = rw (ne_eqb (k + 0) 16 (λ e. omega arith))

set_long : (v x : ℕ) (t : List ℕ) → set_in 16 v (x ∷ t) ≡ none
unfolding set_in
set_long v x t = rw (ne_eqb (16 + length (x ∷ t)) 16 (λ e. omega arith))

-- A field, a byte at a time

module _ (stop : ℕ) where
  pub labels_short : (s : List ℕ) → length s < 17 → field_to stop label_set_in s ≡ none
  unfolding label_set_in
  labels_short s h =
      field_short stop s (λ t l. rw (label_set_in, ne_eqb (length t) 16 (λ e. omega (arith, l, e))))

  pub set_start : (b : List ℕ) → field_to stop label_set_in b ≡ field_to stop (set_in 0 0) b
  set_start b = field_same stop set_begins b

  pub hex_no : Stop stop → (k v : ℕ) → k < 16 → (x : ℕ) (xs : List ℕ) → hex_digit x ≡ none
      → field_to stop (set_in k v) (x ∷ xs) ≡ none
  unfolding and_then
  hex_no h k v l x xs e =
      by_test (eqb x stop)
      (λ z. field_stop stop (set_in k v) x xs h (eqb-true x stop z) ∙ rw (set_short k v l, and_then))
      (λ z. field_no stop (set_in k v) x xs (eqb-false x stop z) (set_no x e k v))

  pub hex_on : (k v x d : ℕ) (xs : List ℕ) → hex_digit x ≡ some d
      → field_to stop (set_in k v) (x ∷ xs) ≡ field_to stop (set_in (k + 1) (v * 16 + d)) xs
  unfolding hex_digit
  hex_on k v x d xs e = field_on stop (set_in k v) x xs (digit_inside hex_digit refl refl x d e) (set_on x d e k v)

  pub set_stop : Stop stop → (v x : ℕ) (xs : List ℕ) → x ≡ stop → field_to stop (set_in 16 v) (x ∷ xs) ≡ some (v, xs)
  unfolding set_in reads and_then
  set_stop h v x xs e = field_stop stop (set_in 16 v) x xs h e

  pub set_other : (v x : ℕ) (xs : List ℕ) → (x ≡ stop → ⊥) → field_to stop (set_in 16 v) (x ∷ xs) ≡ none
  set_other v x xs n = field_no stop (set_in 16 v) x xs n (set_long v x)

-- The value

pub hex_smaller : (k v d : ℕ) → v < 16 ^ k → d < 16 → v * 16 + d < 16 ^ (k + 1)
hex_smaller k v d h l = rw (add-one, pow-suc) (omega arith)

pub hex_room : (k v : ℕ) → k < 16 → v < 16 ^ k → v < 1152921504606846976
hex_room k v i h =
    let m : 16 ^ k ≤ 16 ^ 15 = pow-le-pow_right (omega arith) {i = k} {j = 15} (omega arith) in
    omega (arith, m)

-- The digits of a number: how many there are, and the last two.
use mathlib.Core.Path.{◌≡◌, refl, ap, ◌∙◌}
use mathlib.Core.List.{List, [], ◌∷◌, ◌++◌, append_assoc}
use Prim.Native.Nat.{ℕ, zero, suc, ◌+◌, ◌*◌, ◌/◌, ◌%◌, ◌^◌, ◌≤◌, ◌<◌}
use native.Mathlib.Omega.{arith}
use native.Mathlib.Decide.{dec_lt}
use native.Mathlib.Nat.{pow-suc}
use lib.ListN.{length}
use Rattle.request.specs.Write.{digits}
use Rattle.request.proofs.Digits.{digits_one, digits_high, digits_room, digits_length}
use Rattle.text_write.specs.Put.{Measured}

ten_power : (k : ℕ) → 1 ≤ 10 ^ k
ten_power zero = omega arith
ten_power (suc k) = omega (arith, pow-suc 10 k, ten_power k)

pub digits_some : (n : ℕ) → 0 < length (digits n)
digits_some n = go (dec_lt n 10)
  where
    go : Dec (n < 10) → 0 < length (digits n)
    go (yes l) = rw (digits_one n l) (omega arith)
    go (no l) = omega (arith, digits_room n (omega arith))

pub digits_least : (k n : ℕ) → 10 ^ k ≤ n → k < length (digits n)
digits_least zero n h = digits_some n
digits_least (suc k) n h =
    let p = pow-suc 10 k in
    let q = digits_least k (n / 10) (omega arith) in
    go (dec_lt n 10) q
  where
    go : Dec (n < 10) → k < length (digits (n / 10)) → suc k < length (digits n)
    go (yes l) q = absurd (omega (arith, pow-suc 10 k, ten_power k))
    go (no l) q = omega (arith, digits_room n (omega arith))

-- as many digits as the power of ten says
pub measured_power : (k n : ℕ) → k < 10 → 10 ^ k ≤ n → n < 10 * 10 ^ k → Measured (digits n) 10 (k + 1)
measured_power k n s l h = record {
  exact = omega (arith, digits_least k n l, digits_length n k (omega (arith, pow-suc 10 k)));
  small = omega arith;
}

pub measured_one : (n : ℕ) → n < 10 → Measured (digits n) 10 1
measured_one n h = record { exact = rw (digits_one n h) refl; small = omega arith }

-- the digits of a number below 100
abbrev pub two : ℕ → List ℕ
two n = (48 + n / 10) ∷ (48 + n % 10) ∷ []

pub digits_two : (n : ℕ) → 10 ≤ n → n < 100 → digits n ≡ two n
digits_two n l h =
    digits_high n l ∙ ap (λ (t : List ℕ). t ++ ((48 + n % 10) ∷ [])) (digits_one (n / 10) (omega arith))

-- the last two of a greater one
pub digits_hundred : (n : ℕ) → 100 ≤ n → digits n ≡ digits (n / 100) ++ two (n % 100)
digits_hundred n h =
    let a : n / 10 / 10 ≡ n / 100 = omega arith in
    let b : n / 10 % 10 ≡ n % 100 / 10 = omega arith in
    let c : n % 10 ≡ n % 100 % 10 = omega arith in
    digits_high n (omega arith)
    ∙ ap (λ (t : List ℕ). t ++ ((48 + n % 10) ∷ [])) (digits_high (n / 10) (omega arith))
    ∙ append_assoc (digits (n / 10 / 10)) _ _ ∙ rw (a, b, c)

-- what the number of digits says of the number
pub one_digit : (n : ℕ) → length (digits n) ≤ 1 → n < 10
one_digit n h = go (dec_lt n 10)
  where
    go : Dec (n < 10) → n < 10
    go (yes l) = l
    go (no l) = absurd (omega (arith, digits_least 1 n (omega arith)))

pub two_digits : (n : ℕ) → length (digits n) ≡ 2 → (10 ≤ n) × (n < 100)
two_digits n h = (low (dec_lt n 10), high (dec_lt n 100))
  where
    low : Dec (n < 10) → 10 ≤ n
    low (yes l) = absurd (omega (arith, (measured_one n l).exact))
    low (no l) = omega arith

    high : Dec (n < 100) → n < 100
    high (yes l) = l
    high (no l) = absurd (omega (arith, digits_least 2 n (omega arith)))

pub more_digits : (n : ℕ) → 2 < length (digits n) → 100 ≤ n
more_digits n h = go (dec_lt n 100)
  where
    go : Dec (n < 100) → 100 ≤ n
    go (yes l) = absurd (omega (arith, digits_length n 1 l))
    go (no l) = omega arith

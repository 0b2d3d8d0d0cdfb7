-- A decimal number, a digit at a time.
use mathlib.Core.Path.{◌≡◌, refl, ap, ◌∙◌}
use mathlib.Core.List.{List, [], ◌∷◌}
use mathlib.Core.Option.{Option, none, some}
use mathlib.Core.Bool.{false, ◌&&◌}
use Prim.Native.Nat.{ℕ, ◌+◌, ◌*◌, ◌-◌, ◌≤◌, ◌<◌}
use native.Mathlib.Omega.{arith}
use lib.Dec.{eqb, leb}
use lib.ListN.{length, get_or, drop}
use borrow.Author.Tests.{eq-eqb, ne_eqb, eqb-true, eqb-false, le-leb, lt-leb}
use Rattle.logic.proofs.Tests.{and_decides, le_decides}
use Rattle.request.specs.Range.{Range}
use Rattle.request.specs.Text.{and_then, reads, decimal_digit, decimal, number_in}
use Rattle.request.proofs.Gives.{Gives, nothing, just, given, gives_then, gives_so, gives_if}
use Rattle.read_fields.specs.Field.{ends, Stop, field_to, more, within, more_in}
use Rattle.read_fields.proofs.Then.{by_test}
use Rattle.read_fields.proofs.Bytes.{here}
use Rattle.read_fields.proofs.FieldBytes.{field_end, field_stop, field_on, field_no, field_short, field_bad}
use Rattle.read_fields.proofs.FieldBytes.{digit_inside}

-- Digits

digit_byte : (x : ℕ) → Gives (λ d. x ≡ 48 + d) (decimal_digit x)
unfolding decimal_digit
digit_byte x =
    gives_if (leb 48 x && leb x 57)
    (λ e. let h = (and_decides (le_decides 48 x) (le_decides x 57)).0 e in just (omega (arith, h.0))) (λ e. nothing)

pub digit_of : (x : ℕ) → 48 ≤ x → x ≤ 57 → decimal_digit x ≡ some (x - 48)
unfolding decimal_digit
digit_of x h k = rw (le-leb 48 x h, le-leb x 57 k, decimal_digit)

pub digit_below : (x : ℕ) → x < 48 → decimal_digit x ≡ none
unfolding decimal_digit
digit_below x h = rw (lt-leb 48 x h, decimal_digit)

pub digit_above : (x : ℕ) → 57 < x → decimal_digit x ≡ none
unfolding decimal_digit
digit_above x h = rw (le-leb 48 x (omega arith), lt-leb x 57 h, decimal_digit)

pub ruleset digit_bytes = (digit_of, digit_below, digit_above)

pub digit_small : (x d : ℕ) → decimal_digit x ≡ some d → d ≤ 9
unfolding decimal_digit
digit_small x d e =
    given {P = λ d. d ≤ 9} (gives_if (leb 48 x && leb x 57)
    (λ e. let h = (and_decides (le_decides 48 x) (le_decides x 57)).0 e in just (omega (arith, h))) (λ e. nothing)) e

digit_on : (x d : ℕ) → decimal_digit x ≡ some d → (v : ℕ) (t : List ℕ)
    → reads decimal_digit 10 v (x ∷ t) ≡ reads decimal_digit 10 (v * 10 + d) t
unfolding reads and_then
digit_on x d e v t = rw (reads, e, and_then)

no_digit : (x : ℕ) → decimal_digit x ≡ none → (v : ℕ) (t : List ℕ) → reads decimal_digit 10 v (x ∷ t) ≡ none
unfolding reads and_then
no_digit x e v t = rw (reads, e, and_then)

more_reads : (v : ℕ) (t : List ℕ) → 1 ≤ v → more v t ≡ reads decimal_digit 10 v t
unfolding more reads
more_reads v [] h = refl
more_reads v (x ∷ t) h = rw (more, ne_eqb v 0 (λ e. omega arith))

-- the first digit
first_digit : (x d : ℕ) → decimal_digit x ≡ some d → (t : List ℕ) → decimal (x ∷ t) ≡ more d t
unfolding decimal more reads
first_digit x d e [] = digit_on x d e 0 [] ∙ ap some (omega arith)
first_digit x d e (y ∷ t) =
    let b = given (digit_byte x) e in
    let q : 0 * 10 + d ≡ d = omega arith in
    by_test (eqb d 0)
    (λ z. rw (eq-eqb x 48 (omega (arith, b, eqb-true d 0 z)), z, decimal, more))
    (λ z. rw (ne_eqb x 48 (λ f. eqb-false d 0 z (omega (arith, b))), z, decimal, more)
    (digit_on x d e 0 (y ∷ t) ∙ rw q))

module _ (r : Range) where
  number_first : (x d : ℕ) → decimal_digit x ≡ some d → (t : List ℕ) → number_in r (x ∷ t) ≡ more_in r d t
  unfolding number_in more_in within
  number_first x d e t = rw (first_digit x d e t)

  number_no : (x : ℕ) → decimal_digit x ≡ none → (t : List ℕ) → number_in r (x ∷ t) ≡ none
  unfolding number_in decimal and_then
  number_no x e [] = rw (no_digit x e 0 [], number_in, decimal, and_then)
  number_no x e (y ∷ t) =
      by_test (eqb x 48) (λ z. rw (z, number_in, decimal, and_then))
      (λ z. rw (z, number_in, decimal, no_digit x e 0 (y ∷ t), and_then))

  more_on : (x d v : ℕ) → decimal_digit x ≡ some d → 1 ≤ v → (t : List ℕ) → more_in r v (x ∷ t)
      ≡ more_in r (v * 10 + d) t
  unfolding more_in
  more_on x d v e h t =
      rw (more_reads v (x ∷ t) h, digit_on x d e v t, more_reads (v * 10 + d) t (omega arith))

  more_no : (x v : ℕ) → decimal_digit x ≡ none → (t : List ℕ) → more_in r v (x ∷ t) ≡ none
  unfolding more_in more and_then
  more_no x v e t =
      by_test (eqb v 0) (λ z. rw (z, more_in, more, and_then)) (λ z. rw (z, no_digit x e v t, more_in, more, and_then))

  zero_more : (x : ℕ) (t : List ℕ) → more_in r 0 (x ∷ t) ≡ none
  unfolding more_in more and_then
  zero_more x t = refl

  -- digits make no number smaller
  reads_larger : (v : ℕ) (t : List ℕ) → Gives (λ n. v ≤ n) (reads decimal_digit 10 v t)
  unfolding reads
  reads_larger v [] = just {a = v} (omega arith)
  reads_larger v (x ∷ t) =
      gives_then (digit_byte x) (λ d p. gives_so (reads_larger (v * 10 + d) t) (λ n q. omega (arith, q)))

  is_within : (n : ℕ) → r.first ≤ n → n ≤ r.last → within r n ≡ some n
  unfolding within
  is_within n h k = rw (le-leb r.first n h, le-leb n r.last k, within)

  too_small : (n : ℕ) → n < r.first → within r n ≡ none
  unfolding within
  too_small n h = rw (lt-leb r.first n h, within)

  too_large : (n : ℕ) → r.last < n → within r n ≡ none
  unfolding within
  too_large n h = rw (lt-leb n r.last h, within) (by_test (leb r.first n) (λ e. rw e) (λ e. rw e))

  large_more : (v : ℕ) → r.last < v → 1 ≤ v → (t : List ℕ) → more_in r v t ≡ none
  unfolding more_in and_then
  large_more v h k t = rw (more_reads v t k) (go (reads_larger v t))
    where
      go : {o : Option ℕ} → Gives (λ n. v ≤ n) o → and_then o (within r) ≡ none
      go nothing = refl
      go (just {a = n} g) = too_large n (omega (arith, g))

-- A field, a byte at a time

digit_is_inside : (x d : ℕ) → decimal_digit x ≡ some d → ends x ≡ false
unfolding decimal_digit
digit_is_inside = digit_inside decimal_digit refl refl

module _ (r : Range) (stop : ℕ) where
  pub number_short : (s : List ℕ) → length s < 2 → field_to stop (number_in r) s ≡ none
  unfolding number_in decimal and_then
  number_short s h = field_short stop s (λ t l. go t (omega (arith, l)))
    where
      go : (t : List ℕ) → length t < 1 → number_in r t ≡ none
      go [] l = refl
      go (x ∷ t) l = absurd (omega arith)

  pub start_no : Stop stop → (x : ℕ) (xs : List ℕ) → decimal_digit x ≡ none → field_to stop (number_in r) (x ∷ xs)
      ≡ none
  unfolding number_in decimal and_then
  start_no h x xs e =
      by_test (eqb x stop) (λ z. field_stop stop (number_in r) x xs h (eqb-true x stop z))
      (λ z. field_no stop (number_in r) x xs (eqb-false x stop z) (number_no r x e))

  pub start_on : (x d : ℕ) (xs : List ℕ) → decimal_digit x ≡ some d
      → field_to stop (number_in r) (x ∷ xs) ≡ field_to stop (more_in r d) xs
  start_on x d xs e = field_on stop (number_in r) x xs (digit_is_inside x d e) (number_first r x d e)

  module _ (v : ℕ) where
    pub more_end : field_to stop (more_in r v) [] ≡ none
    more_end = field_end stop (more_in r v)

    pub step_stop : Stop stop → (x : ℕ) (xs : List ℕ) → x ≡ stop → r.first ≤ v → v ≤ r.last
        → field_to stop (more_in r v) (x ∷ xs) ≡ some (v, xs)
    unfolding more_in more and_then
    step_stop h x xs e l m = field_stop stop (more_in r v) x xs h e ∙ rw (more_in, more, and_then, is_within r v l m)

    pub step_small : Stop stop → (x : ℕ) (xs : List ℕ) → x ≡ stop → v < r.first
        → field_to stop (more_in r v) (x ∷ xs) ≡ none
    unfolding more_in more and_then
    step_small h x xs e l = field_stop stop (more_in r v) x xs h e ∙ rw (more_in, more, and_then, too_small r v l)

    pub step_no : (x : ℕ) (xs : List ℕ) → (x ≡ stop → ⊥) → decimal_digit x ≡ none
        → field_to stop (more_in r v) (x ∷ xs) ≡ none
    step_no x xs n e = field_no stop (more_in r v) x xs n (more_no r x v e)

    pub step_zero : (x : ℕ) (xs : List ℕ) → (x ≡ stop → ⊥) → v ≡ 0 → field_to stop (more_in r v) (x ∷ xs) ≡ none
    step_zero x xs n e = field_no stop (more_in r v) x xs n (λ t. rw e (zero_more r x t))

    pub more_large : r.last < v → 1 ≤ v → (b : List ℕ) → field_to stop (more_in r v) b ≡ none
    more_large l h b = field_bad stop (large_more r v l h) b

    pub step_on : (x d : ℕ) (xs : List ℕ) → decimal_digit x ≡ some d → 1 ≤ v
        → field_to stop (more_in r v) (x ∷ xs) ≡ field_to stop (more_in r (v * 10 + d)) xs
    step_on x d xs e h = field_on stop (more_in r v) x xs (digit_is_inside x d e) (more_on r x d v e h)

-- where a byte follows the first, which is a digit
module _ (r : Range) (stop : ℕ) where
  pub second : (s : List ℕ) (d : ℕ) → 2 ≤ length s → decimal_digit (get_or s 0 0) ≡ some d
      → field_to stop (number_in r) s ≡ field_to stop (more_in r d) (get_or s 1 0 ∷ drop 2 s)
  second s d h e =
      rw (here s 0 (omega arith)) (start_on r stop _ d _ e ∙ rw (here s 1 (omega arith)))

-- Fields of bytes, a byte at a time.
use mathlib.Core.Path.{◌≡◌, refl, sym, ap, ◌∙◌}
use mathlib.Core.List.{List, [], ◌∷◌}
use mathlib.Core.Option.{Option, none, some}
use mathlib.Core.Bool.{Bool, true, false}
use Prim.Native.Nat.{ℕ, ◌<◌}
use native.Mathlib.Omega.{arith}
use lib.Dec.{eqb}
use lib.ListN.{length}
use borrow.Author.Tests.{eq-eqb, ne_eqb, eqb-true}
use Rattle.request.specs.Text.{and_then}
use Rattle.request.proofs.Gives.{Gives, nothing, just, gives_then}
use Rattle.logic.specs.Choice.{pick}
use Rattle.read_fields.specs.Field.{ends, Stop, cut, field_to}
use Rattle.read_fields.proofs.Then.{then_then, then_same, then_none, then_given, by_test}

-- the text of a field is shorter than the bytes
cut_shorter : (b : List ℕ) → Gives (λ p. length p.0 < length b) (cut b)
unfolding cut
cut_shorter [] = nothing
cut_shorter (x ∷ xs) =
    by_test (ends x) (λ e. rw (cut, e) (just {a = ([], x, xs)} (omega arith)))
    (λ e. rw (cut, e) (gives_then (cut_shorter xs) (λ p h. just {a = (x ∷ p.0, p.1, p.2)} (omega (arith, h)))))

module _ {A : Type 0} (stop : ℕ) where
  pub field_end : (read : List ℕ → Option A) → field_to stop read [] ≡ none
  unfolding field_to cut and_then
  field_end read = refl

  pub field_stop : (read : List ℕ → Option A) (x : ℕ) (xs : List ℕ) → Stop stop → x ≡ stop
      → field_to stop read (x ∷ xs) ≡ and_then (read []) (λ a. some (a, xs))
  unfolding field_to cut and_then
  field_stop read x xs h e = rw (e, cut, h, and_then, eq-eqb stop stop refl)

  -- another byte that ends a field
  field_other : (read : List ℕ → Option A) (x : ℕ) (xs : List ℕ) → Stop x → (x ≡ stop → ⊥)
      → field_to stop read (x ∷ xs) ≡ none
  unfolding field_to cut and_then
  field_other read x xs h n = rw (cut, h, and_then, ne_eqb x stop n)

  field_next : (read : List ℕ → Option A) (x : ℕ) (xs : List ℕ) → ends x ≡ false
      → field_to stop read (x ∷ xs) ≡ field_to stop (λ t. read (x ∷ t)) xs
  unfolding field_to cut and_then
  field_next read x xs h = rw (cut, h) (then_then (cut xs) _ _)

  pub field_same : {read say : List ℕ → Option A} → ((t : List ℕ) → read t ≡ say t)
      → (b : List ℕ) → field_to stop read b ≡ field_to stop say b
  unfolding field_to
  field_same h b = then_same (cut b) (λ p. rw (h p.0))

  -- where no text shorter than the bytes reads as anything
  pub field_short : {read : List ℕ → Option A} (b : List ℕ) → ((t : List ℕ) → length t < length b → read t ≡ none)
      → field_to stop read b ≡ none
  unfolding field_to and_then
  field_short b h =
      then_given (cut_shorter b) (λ p l. rw (h p.0 l, and_then) (go (eqb p.1 stop)))
      ∙ then_none (cut b) (λ p. refl)
    where
      go : (b : Bool) → pick {A = Option (A × List ℕ)} b none none ≡ none
      go true = refl
      go false = refl

  pub field_bad : {read : List ℕ → Option A} → ((t : List ℕ) → read t ≡ none)
      → (b : List ℕ) → field_to stop read b ≡ none
  field_bad h b = field_short b (λ t l. h t)

  -- a byte that is no end of a field, which takes the text on
  pub field_on : (read : List ℕ → Option A) {say : List ℕ → Option A} (x : ℕ) (xs : List ℕ) → ends x ≡ false
      → ((t : List ℕ) → read (x ∷ t) ≡ say t) → field_to stop read (x ∷ xs) ≡ field_to stop say xs
  field_on read x xs e h = field_next read x xs e ∙ field_same h xs

  -- a byte that no text can go on with
  pub field_no : (read : List ℕ → Option A) (x : ℕ) (xs : List ℕ) → (x ≡ stop → ⊥)
      → ((t : List ℕ) → read (x ∷ t) ≡ none) → field_to stop read (x ∷ xs) ≡ none
  field_no read x xs n h =
      by_test (ends x) (λ e. field_other read x xs e n) (λ e. field_next read x xs e ∙ field_bad h xs)

-- no digit ends a field
pub digit_inside : (digit : ℕ → Option ℕ) → digit 44 ≡ none → digit 10 ≡ none → (x d : ℕ) → digit x ≡ some d
    → ends x ≡ false
digit_inside digit h k x d e =
    by_test (eqb x 44) (λ p. refused (sym h ∙ ap digit (sym (eqb-true x 44 p)) ∙ e)) (λ p.
    by_test (eqb x 10) (λ q. refused (sym k ∙ ap digit (sym (eqb-true x 10 q)) ∙ e)) (λ q. rw (p, q)))
  where
    refused : none ≡ some d → ends x ≡ false
    refused e = cc

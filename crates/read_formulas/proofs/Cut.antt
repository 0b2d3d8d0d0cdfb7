-- The fields of a line, one at a time.
use mathlib.Core.Path.{◌≡◌, refl, sym, ◌∙◌}
use mathlib.Core.List.{List, [], ◌∷◌}
use mathlib.Core.Option.{Option, none, some}
use mathlib.Core.Bool.{Bool, true, false}
use Prim.Native.Nat.{ℕ}
use lib.Dec.{eqb}
use borrow.Author.Tests.{eqb-true}
use Rattle.request.specs.Text.{and_then, push, fields}
use Rattle.request.specs.Reader.{Reader, return, ◌>>=◌, ended, whole}
use Rattle.request.proofs.Gives.{Gives, nothing, just, gives_then}
use Rattle.logic.specs.Choice.{pick}
use Rattle.read_fields.specs.Field.{ends, Stop, cut}
use Rattle.read_formulas.specs.Line.{split, read_line}
use Rattle.read_fields.proofs.Then.{then_then, then_same, then_none, by_test}

abbrev Cut : Type 0
Cut = List ℕ × ℕ × List ℕ

-- the fields of the first line, and what follows it
abbrev Texts : Type 0
Texts = List (List ℕ) × List ℕ

abbrev listed : List ℕ × List ℕ → Option Texts
listed p = some (fields p.0, p.1)

texts : List ℕ → Option Texts
texts b = and_then (split b) listed

-- a field before others of the line, or the line's last
abbrev before : List ℕ → Texts → Option Texts
before t q = some (t ∷ q.0, q.1)

abbrev taken : Cut → Option Texts
taken p = pick (eqb p.1 44) (and_then (texts p.2) (before p.0)) (some (p.0 ∷ [], p.2))

-- a byte before the first field
abbrev pushed : ℕ → Texts → Option Texts
pushed x q = some (push x q.0, q.1)

texts_on : (x : ℕ) (xs : List ℕ) → eqb x 44 ≡ false → eqb x 10 ≡ false → texts (x ∷ xs) ≡ and_then (texts xs) (pushed x)
unfolding texts split fields and_then
texts_on x xs e f =
    rw (split, f) (then_then (split xs) _ _
    ∙ then_same (split xs) {g = λ p. pushed x (fields p.0, p.1)} (λ p. rw (e, fields))
    ∙ sym (then_then (split xs) _ _))

pushed_taken : (x : ℕ) (p : Cut) → and_then (taken p) (pushed x) ≡ taken (x ∷ p.0, p.1, p.2)
unfolding and_then push
pushed_taken x p = by_test (eqb p.1 44) (λ e. rw e (then_then (texts p.2) _ _)) (λ e. rw e)

texts_cut : (b : List ℕ) → texts b ≡ and_then (cut b) taken
unfolding texts split fields cut and_then
texts_cut [] = refl
texts_cut (x ∷ xs) = by_test (eqb x 44)
    (λ e. rw (eqb-true x 44 e) (then_then (split xs) _ _ ∙ sym (then_then (split xs) _ _)))
    (λ e. by_test (eqb x 10)
    (λ f. rw (eqb-true x 10 f))
    (λ f. texts_on x xs e f ∙ rw (texts_cut xs) (then_then (cut xs) taken (pushed x)
    ∙ then_same (cut xs) (pushed_taken x)
    ∙ sym (rw (cut, e, f) (then_then (cut xs) _ _)))))

-- r goes on with the line after the byte e
unfoldable pub at_stop : {A : Type 0} → ℕ → Reader A → List ℕ → Option (A × List ℕ)
at_stop e r b = pick (eqb e 44) (read_line r b) (and_then (whole r []) (λ a. some (a, b)))

module _ {A : Type 0} where
  -- what r reads from all the fields
  abbrev finish : Reader A → Texts → Option (A × List ℕ)
  finish r q = and_then (whole r q.0) (λ a. some (a, q.1))

  line_texts : (r : Reader A) (b : List ℕ) → read_line r b ≡ and_then (texts b) (finish r)
  unfolding read_line texts and_then
  line_texts r b = sym (then_then (split b) _ _)

  -- a line is its first field, and the rest of the line
  pub line_cut : (r : Reader A) (b : List ℕ)
      → read_line r b ≡ and_then (cut b) (λ p. at_stop p.1 (λ ts. r (p.0 ∷ ts)) p.2)
  unfolding at_stop whole and_then
  line_cut r b =
      line_texts r b ∙ rw (texts_cut b) (then_then (cut b) taken (finish r)
      ∙ then_same (cut b) (λ p. by_test (eqb p.1 44)
      (λ e. rw (e, at_stop) (then_then (texts p.2) _ _ ∙ sym (line_texts _ p.2))) (λ e. rw (e, at_stop))))

  pub line_same : {r s : Reader A} → ((ts : List (List ℕ)) → r ts ≡ s ts) → (b : List ℕ) → read_line r b ≡ read_line s b
  unfolding read_line whole
  line_same h b = then_same (split b) (λ p. rw (h (fields p.0), whole))

  -- a reader that fails whatever the fields
  pub whole_none : (r : Reader A) (ts : List (List ℕ)) → r ts ≡ none → whole r ts ≡ none
  unfolding whole and_then
  whole_none r ts h = rw (whole, h, and_then)

  pub line_none : (r : Reader A) → ((ts : List (List ℕ)) → whole r ts ≡ none) → (b : List ℕ) → read_line r b ≡ none
  unfolding read_line and_then
  line_none r h b = then_none (split b) (λ p. rw (h (fields p.0), and_then))

  pub stop_none : (r : Reader A) → ((ts : List (List ℕ)) → whole r ts ≡ none)
      → (e : ℕ) (b : List ℕ) → at_stop e r b ≡ none
  unfolding at_stop and_then
  stop_none r h e b = by_test (eqb e 44) (λ p. rw (p, at_stop) (line_none r h b)) (λ p. rw (p, at_stop, h [], and_then))

  -- a line has at least one field
  pub line_return : (a : A) (b : List ℕ) → read_line (return a) b ≡ none
  unfolding return ended whole and_then
  line_return a b = line_cut (return a) b ∙ then_none (cut b) (λ p. stop_none _ (λ ts. refl) p.1 p.2)

-- a value made of what was read
pub line_map : {A B : Type 0} (r : Reader A) (f : A → B) (b : List ℕ)
    → read_line (r >>= (λ a. return (f a))) b ≡ and_then (read_line r b) (λ x. some (f x.0, x.1))
unfolding read_line whole ◌>>=◌ return ended and_then
line_map {A} {B} r f b =
    then_same (split b) (λ p. rw (made (fields p.0)) (then_then (whole r (fields p.0)) _ _
    ∙ sym (then_then (whole r (fields p.0)) _ _)))
    ∙ sym (then_then (split b) _ _)
  where
    done : (a : A) (us : List (List ℕ)) → ended (f a) us ≡ and_then (ended a us) (λ a. some (f a))
    done a [] = refl
    done a (u ∷ us) = refl

    made : (ts : List (List ℕ)) → whole (r >>= (λ a. return (f a))) ts ≡ and_then (whole r ts) (λ a. some (f a))
    made ts =
        then_then (r ts) _ _ ∙ then_same (r ts) (λ x. done x.0 x.1) ∙ sym (then_then (r ts) _ _)

-- the byte that ends a field
pub gives_pick : {A : Type 0} {P : A → Type 0} (b : Bool) {x y : Option A}
    → (b ≡ true → Gives P x) → (b ≡ false → Gives P y) → Gives P (pick b x y)
gives_pick true h k = h refl
gives_pick false h k = k refl

pub cut_stop : (b : List ℕ) → Gives (λ p. Stop p.1) (cut b)
unfolding cut
cut_stop [] = nothing
cut_stop (x ∷ xs) = gives_pick (ends x) (λ e. just e) (λ e. gives_then (cut_stop xs) (λ p h. just h))

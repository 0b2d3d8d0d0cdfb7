-- What a line's fields are, by the readers of the definition: a field that others follow, and a last one.
use mathlib.Core.Path.{◌≡◌, refl, sym, ◌∙◌}
use mathlib.Core.List.{List, []}
use mathlib.Core.Option.{Option, none, some}
use mathlib.Core.Bool.{true}
use Prim.Native.Nat.{ℕ}
use lib.Dec.{eqb}
use borrow.Author.Tests.{eqb-true}
use Rattle.logic.specs.declared.Interval.{Interval}
use Rattle.logic.specs.Interval.{span}
use Rattle.request.specs.Range.{Range, minute}
use Rattle.request.specs.Text.{and_then, number_in}
use Rattle.request.specs.Reader.{Reader, return, ◌>>=◌, next, whole, ended}
use Rattle.request.specs.Read.{number, interval}
use Rattle.logic.specs.Choice.{pick}
use Rattle.read_fields.specs.Field.{Stop, cut, field_to}
use Rattle.read_formulas.specs.Line.{read_line, interval_to}
use Rattle.read_fields.proofs.Then.{then_then, then_same, then_given, then_pair, by_test}
use Rattle.read_formulas.proofs.Cut.{at_stop, line_cut, line_same, line_return, whole_none, stop_none, cut_stop}

-- p reads bytewise, up to a byte that ends the last of its fields, what r reads from fields
pub record Shape {A : Type 0} (r : Reader A) (p : ℕ → List ℕ → Option (A × List ℕ)) : Type 1 where
  pub some_field : r [] ≡ none
  pub more : {B : Type 0} (k : A → Reader B) → ((a : A) → k a [] ≡ none) → (b : List ℕ)
      → read_line (r >>= k) b ≡ and_then (p 44 b) (λ x. read_line (k x.0) x.1)
  pub last : {B : Type 0} (f : A → B) (b : List ℕ)
      → read_line (r >>= (λ a. return (f a))) b ≡ and_then (p 10 b) (λ x. some (f x.0, x.1))

-- what was read, and the bytes after it
abbrev kept : {A : Type 0} → List ℕ → A → Option (A × List ℕ)
kept b a = some (a, b)

module _ {A B : Type 0} (read : List ℕ → Option A) (k : A → Reader B) where
  -- the rest of a line after its first field, which reads as o
  abbrev after : Option A → ℕ → List ℕ → Option (B × List ℕ)
  after o e b = at_stop e ((λ ts. and_then o (λ a. some (a, ts))) >>= k) b

  after_none : (e : ℕ) (b : List ℕ) → after none e b ≡ none
  unfolding ◌>>=◌ and_then
  after_none e b = stop_none _ (λ ts. whole_none _ ts refl) e b

  line_next : (b : List ℕ) → read_line (next read >>= k) b ≡ and_then (cut b) (λ p. after (read p.0) p.1 p.2)
  unfolding next ◌>>=◌
  line_next b = line_cut (next read >>= k) b

  -- others follow
  next_more : ((a : A) → k a [] ≡ none) → (b : List ℕ)
      → read_line (next read >>= k) b ≡ and_then (field_to 44 read b) (λ x. read_line (k x.0) x.1)
  unfolding field_to at_stop ◌>>=◌ and_then
  next_more h b =
      line_next b ∙ then_same (cut b) (λ p. go (read p.0) p.1 p.2) ∙ sym (then_then (cut b) _ _)
    where
      go : (o : Option A) (e : ℕ) (b : List ℕ)
          → after o e b
          ≡ and_then (pick (eqb e 44) (and_then o (kept b)) none) (λ x. read_line (k x.0) x.1)
      go none e b = after_none e b ∙ sym (by_test (eqb e 44) (λ q. rw q) (λ q. rw q))
      go (some a) e b = by_test (eqb e 44) (λ q. rw (q, at_stop)) (λ q. rw (q, at_stop, whole_none (k a) [] (h a)))

module _ {A B : Type 0} (read : List ℕ → Option A) (f : A → B) where
  -- none follows
  next_last : (b : List ℕ)
      → read_line (next read >>= (λ a. return (f a))) b ≡ and_then (field_to 10 read b) (λ x. some (f x.0, x.1))
  unfolding field_to at_stop whole ended return ◌>>=◌ and_then
  next_last b =
      line_next read (λ a. return (f a)) b ∙ then_given (cut_stop b) (λ p h. go (read p.0) p.1 p.2 h)
      ∙ sym (then_then (cut b) _ _)
    where
      go : (o : Option A) (e : ℕ) (b : List ℕ) → Stop e
          → after read (λ a. return (f a)) o e b
          ≡ and_then (pick (eqb e 10) (and_then o (kept b)) none) (λ x. some (f x.0, x.1))
      go none e b h = after_none read (λ a. return (f a)) e b ∙ sym (by_test (eqb e 10) (λ q. rw q) (λ q. rw q))
      go (some a) e b h = by_test (eqb e 44)
          (λ q. rw (eqb-true e 44 q, at_stop) (line_return (f a) b))
          (λ q. let z : eqb e 10 ≡ true = rw q at h in rw (q, z, at_stop))

pub next_shape : {A : Type 0} (read : List ℕ → Option A) → Shape (next read) (λ stop. field_to stop read)
unfolding next
next_shape read = record { some_field = refl; more = next_more read; last = next_last read }

pub number_shape : (r : Range) → Shape (number r) (λ stop. field_to stop (number_in r))
unfolding number
number_shape r = next_shape (number_in r)

-- Two fields, one after the other

module _ {A B : Type 0} {r : Reader A} {s : Reader B} {p : ℕ → List ℕ → Option (A × List ℕ)}
    {q : ℕ → List ℕ → Option (B × List ℕ)} (d : Shape r p) (e : Shape s q) where
  -- after both, the line ends
  pub both_last : {C : Type 0} (make : A → B → C) (b : List ℕ)
      → read_line (r >>= (λ a. s >>= (λ b. return (make a b)))) b
      ≡ and_then (p 44 b) (λ x. and_then (q 10 x.1) (λ y. some (make x.0 y.0, y.1)))
  unfolding ◌>>=◌ and_then
  both_last make b =
      d.more _ (λ a. rw (e.some_field, and_then)) b ∙ then_same (p 44 b) (λ x. e.last (make x.0) x.1)

  -- after both, others follow
  pub both_more : {C : Type 0} (k : A → B → Reader C) → ((a : A) (b : B) → k a b [] ≡ none) → (b : List ℕ)
      → read_line (r >>= (λ a. s >>= (λ b. k a b))) b
      ≡ and_then (p 44 b) (λ x. and_then (q 44 x.1) (λ y. read_line (k x.0 y.0) y.1))
  unfolding ◌>>=◌ and_then
  both_more k h b =
      d.more _ (λ a. rw (e.some_field, and_then)) b ∙ then_same (p 44 b) (λ x. e.more (k x.0) (h x.0) x.1)

-- an interval's four fields, in a longer line
grouped : {A : Type 0} (k : Interval → Reader A) (ts : List (List ℕ))
    → (interval >>= k) ts ≡ (number minute >>= (λ i. number minute >>= (λ j.
    number minute >>= (λ p. number minute >>= (λ q. k (span i j p q)))))) ts
unfolding interval ◌>>=◌ return
grouped k ts =
    then_then (number minute ts) _ _ ∙ then_same (number minute ts) (λ x.
    then_then (number minute x.1) _ _ ∙ then_same (number minute x.1) (λ y.
    then_pair (number minute y.1) _ _ _))

interval_then : {A : Type 0} (stop : ℕ) (b : List ℕ) (k : Interval × List ℕ → Option A)
    → and_then (interval_to stop b) k ≡ and_then (field_to 44 (number_in minute) b) (λ x.
    and_then (field_to 44 (number_in minute) x.1) (λ y.
    and_then (field_to 44 (number_in minute) y.1) (λ u.
    and_then (field_to stop (number_in minute) u.1) (λ v. k (span x.0 y.0 u.0 v.0, v.1)))))
unfolding interval_to
interval_then stop b k =
    then_then (field_to 44 (number_in minute) b) _ _ ∙ then_same (field_to 44 (number_in minute) b) (λ x.
    then_then (field_to 44 (number_in minute) x.1) _ _ ∙ then_same (field_to 44 (number_in minute) x.1) (λ y.
    then_pair (field_to 44 (number_in minute) y.1) (λ u. field_to stop (number_in minute) u.1)
    (λ u v. (span x.0 y.0 u.0 v.0, v.1)) k))

-- the first two of the four, whatever the line goes on with
begins : {A : Type 0} (k : ℕ → ℕ → ℕ → Reader A) (b : List ℕ)
    → read_line (number minute >>= (λ i. number minute >>= (λ j. number minute >>= (λ p. k i j p)))) b
    ≡ and_then (field_to 44 (number_in minute) b) (λ x. and_then (field_to 44 (number_in minute) x.1) (λ y.
    read_line (number minute >>= (λ p. k x.0 y.0 p)) y.1))
unfolding number next ◌>>=◌ and_then
begins k b =
    both_more (number_shape minute) (number_shape minute) (λ i j. number minute >>= (λ p. k i j p)) (λ i j. refl) b

pub interval_shape : Shape interval interval_to
unfolding interval number next ◌>>=◌ and_then
interval_shape = record {
  some_field = refl;
  more = λ k h b.
      line_same (grouped k) b
      ∙ begins (λ i j p. number minute >>= (λ q. k (span i j p q))) b
      ∙ then_same (field_to 44 (number_in minute) b) (λ x. then_same (field_to 44 (number_in minute) x.1) (λ y.
      both_more (number_shape minute) (number_shape minute) (λ p q. k (span x.0 y.0 p q)) (λ p q. h _) y.1))
      ∙ sym (interval_then 44 b _);
  last = λ f b.
      line_same (grouped (λ i. return (f i))) b
      ∙ begins (λ i j p. number minute >>= (λ q. return (f (span i j p q)))) b
      ∙ then_same (field_to 44 (number_in minute) b) (λ x. then_same (field_to 44 (number_in minute) x.1) (λ y.
      both_last (number_shape minute) (number_shape minute) (λ p q. f (span x.0 y.0 p q)) y.1))
      ∙ sym (interval_then 10 b _);
}

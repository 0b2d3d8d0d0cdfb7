-- Options: going on with what was read.
use mathlib.Core.Path.{◌≡◌, refl, sym, ap, ◌∙◌}
use mathlib.Core.Option.{Option, none, some}
use mathlib.Core.Bool.{Bool, true, false}
use Rattle.request.specs.Text.{and_then}
use Rattle.request.proofs.Gives.{Gives, nothing, just}

pub then_then : {A B C : Type 0} (o : Option A) (f : A → Option B) (g : B → Option C)
    → and_then (and_then o f) g ≡ and_then o (λ a. and_then (f a) g)
unfolding and_then
then_then none f g = refl
then_then (some a) f g = refl

pub then_same : {A B : Type 0} (o : Option A) {f g : A → Option B} → ((a : A) → f a ≡ g a) → and_then o f ≡ and_then o g
unfolding and_then
then_same none h = refl
then_same (some a) h = h a

pub then_none : {A B : Type 0} (o : Option A) {f : A → Option B} → ((a : A) → f a ≡ none) → and_then o f ≡ none
unfolding and_then
then_none none h = refl
then_none (some a) h = h a

-- a test is true or false
pub by_test : {P : Type 0} (b : Bool) → (b ≡ true → P) → (b ≡ false → P) → P
by_test true f g = f refl
by_test false f g = g refl

pub then_swap : {A B C : Type 0} (o : Option A) (p : Option B) (f : A → B → Option C)
    → and_then o (λ a. and_then p (λ b. f a b)) ≡ and_then p (λ b. and_then o (λ a. f a b))
unfolding and_then
then_swap none none f = refl
then_swap none (some b) f = refl
then_swap (some a) none f = refl
then_swap (some a) (some b) f = refl

-- the same, of what was read
pub then_given : {A B : Type 0} {P : A → Type 0} {o : Option A} {f g : A → Option B}
    → Gives P o → ((a : A) → P a → f a ≡ g a) → and_then o f ≡ and_then o g
unfolding and_then
then_given nothing h = refl
then_given (just {a = a} p) h = h a p

-- what was read in two parts
pub then_pair : {A B C D : Type 0} (o : Option A) (g : A → Option B) (h : A → B → C) (k : C → Option D)
    → and_then (and_then o (λ a. and_then (g a) (λ b. some (h a b)))) k
    ≡ and_then o (λ a. and_then (g a) (λ b. k (h a b)))
unfolding and_then
then_pair o g h k = then_then o _ k ∙ then_same o (λ a. then_then (g a) _ k)

-- what an answer r of the code tells, where it is known to be q
pub seen : {A B : Type 0} (tell : A → B) {r q : A} {o : B} → tell r ≡ o → r ≡ q → o ≡ tell q
seen tell e h = sym e ∙ ap tell h

pub then_some : {A B : Type 0} {o : Option A} {a : A} (k : A → Option B) → o ≡ some a → and_then o k ≡ k a
unfolding and_then
then_some k e = rw (e, and_then)

pub then_no : {A B : Type 0} {o : Option A} (k : A → Option B) → o ≡ none → and_then o k ≡ none
unfolding and_then
then_no k e = rw (e, and_then)

-- What an option gives.
use mathlib.Core.Path.{◌≡◌, refl, subst}
use mathlib.Core.Option.{Option, none, some}
use mathlib.Core.Bool.{Bool, true, false}
use Rattle.request.specs.Text.{and_then}

-- whatever is read, if anything, has P
pub data Gives {A : Type 0} (P : A → Type 0) : Option A → Type 0 where
  nothing : Gives P none
  just : {a : A} → P a → Gives P (some a)

pub given : {A : Type 0} {P : A → Type 0} {o : Option A} {a : A} → Gives P o → o ≡ some a → P a
given {P} h e = out (subst (Gives P) e h)
  where
    out : {A : Type 0} {P : A → Type 0} {a : A} → Gives P (some a) → P a
    out (just h) = h

pub gives_then : {A B : Type 0} {P : A → Type 0} {Q : B → Type 0} {o : Option A} {k : A → Option B}
    → Gives P o → ((a : A) → P a → Gives Q (k a)) → Gives Q (and_then o k)
unfolding and_then
gives_then nothing f = nothing
gives_then (just {a = a} h) f = f a h

pub gives_so : {A : Type 0} {P Q : A → Type 0} {o : Option A} → Gives P o → ((a : A) → P a → Q a) → Gives Q o
gives_so nothing f = nothing
gives_so (just {a = a} h) f = just (f a h)

pub gives_if : {A : Type 0} {P : A → Type 0} (b : Bool) {x y : Option A}
    → (b ≡ true → Gives P x) → (b ≡ false → Gives P y) → Gives P (elim b as (λ z. Option A) [ true ↦ x | false ↦ y ])
gives_if true h k = h refl
gives_if false h k = k refl

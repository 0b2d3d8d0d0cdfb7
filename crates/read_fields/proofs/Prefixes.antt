-- A text that the bytes begin with, a byte at a time.
use mathlib.Core.Path.{◌≡◌, refl, sym, ap, ◌∙◌}
use mathlib.Core.List.{List, [], ◌∷◌}
use mathlib.Core.Option.{Option, none, some}
use mathlib.Core.Bool.{true, false}
use Prim.Native.Nat.{ℕ, ◌<◌}
use native.Mathlib.Omega.{arith}
use lib.Dec.{eqb}
use lib.ListN.{length}
use borrow.Author.Tests.{eq-eqb, ne_eqb}
use Rattle.read_fields.specs.Field.{strip}
use Rattle.read_fields.proofs.Then.{by_test}

pub strip_done : (b : List ℕ) → strip [] b ≡ some b
unfolding strip
strip_done b = refl

pub strip_short : (w b : List ℕ) → length b < length w → strip w b ≡ none
unfolding strip
strip_short [] b l = absurd (omega arith)
strip_short (x ∷ w) [] l = refl
strip_short (x ∷ w) (y ∷ b) l =
    by_test (eqb y x) (λ e. rw (e, strip) (strip_short w b (omega arith))) (λ e. rw (e, strip))

pub strip_on : (x y : ℕ) (w b : List ℕ) → y ≡ x → strip (x ∷ w) (y ∷ b) ≡ strip w b
unfolding strip
strip_on x y w b e = rw (eq-eqb y x e, strip)

pub strip_no : (x y : ℕ) (w b : List ℕ) → (y ≡ x → ⊥) → strip (x ∷ w) (y ∷ b) ≡ none
unfolding strip
strip_no x y w b n = rw (ne_eqb y x n, strip)

-- the same bytes, after a text that they do not begin with
pub strip_still : (w : List ℕ) {b c : List ℕ} {o : Option (List ℕ)} → c ≡ b → strip w c ≡ o → strip w b ≡ o
strip_still w e f = sym (ap (strip w) e) ∙ f

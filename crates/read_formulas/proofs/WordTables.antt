-- Tables of words: the line of a word that the bytes begin with.
use mathlib.Core.Path.{◌≡◌, refl, sym, ap, ◌∙◌}
use mathlib.Core.List.{List, [], ◌∷◌, ◌++◌}
use mathlib.Core.Option.{Option, none, some}
use mathlib.Core.Bool.{Bool, true, false, not, ◌&&◌, ◌||◌, and-eq-true_iff}
use Prim.Native.Nat.{ℕ, ◌*◌, ◌+◌, ◌≤◌, ◌<◌}
use Prim.Native.String.{String}
use mathlib.Core.Logic.{◌⊎◌, ⊎_elim}
use native.Mathlib.Omega.{arith}
use lib.Dec.{eqb}
use lib.ListN.{length, length-append}
use borrow.Author.Tests.{ne_eqb, eqb-true, not-true}
use Rattle.logic.specs.Multiset.{Every}
use Rattle.logic.proofs.Tests.{no_truth}
use Rattle.request.specs.Text.{bytes, same_bytes, and_then}
use Rattle.request.specs.Reader.{Reader, return, named, choose, whole, ended}
use Rattle.request.proofs.Gives.{Gives, just}
use Rattle.request.proofs.Readers.{same_bytes_holds}
use Rattle.logic.specs.Choice.{pick}
use Rattle.read_fields.specs.Field.{ends, Stop, cut, strip}
use Rattle.read_formulas.specs.Line.{read_line, lookup}
use Rattle.read_fields.proofs.Then.{then_then, then_same, then_none, by_test}
use Rattle.read_formulas.proofs.Cut.{at_stop, line_cut, line_none, line_return, whole_none, stop_none}
use Rattle.read_formulas.proofs.Cut.{cut_stop}

abbrev pub Table : Type 0 → Type 0
Table A = List (String × Reader A)

-- no byte of a text ends a field
unfoldable pub inside : List ℕ → Bool
inside [] = true
inside (x ∷ xs) = not (ends x) && inside xs

inside_both : (x : ℕ) (xs : List ℕ) → inside (x ∷ xs) ≡ true → (ends x ≡ false) × (inside xs ≡ true)
unfolding inside
inside_both x xs h = let k = (and-eq-true_iff (not (ends x)) (inside xs)).0 h in (not-true (ends x) k.0, k.1)

apart : (x c : ℕ) → ends x ≡ false → Stop c → x ≡ c → ⊥
apart x c e h q = no_truth (sym e ∙ ap ends q ∙ h)

-- what follows a word and the byte c, by the first field
abbrev rested : List ℕ → ℕ → List ℕ × ℕ × List ℕ → Option (List ℕ)
rested w c p = pick (same_bytes p.0 w && eqb p.1 c) (some p.2) none

strip_cut : (w b : List ℕ) (c : ℕ) → inside w ≡ true → Stop c → strip (w ++ (c ∷ [])) b ≡ and_then (cut b) (rested w c)
unfolding strip cut same_bytes and_then
strip_cut [] [] c i h = refl
strip_cut (x ∷ w) [] c i h = refl
strip_cut [] (y ∷ ys) c i h = by_test (ends y)
    (λ e. rw (cut, e, and_then))
    (λ e. rw (cut, e, ne_eqb y c (apart y c e h)) (sym (then_then (cut ys) _ _ ∙ then_none (cut ys) (λ p. refl))))
strip_cut (x ∷ w) (y ∷ ys) c i h =
    let k = inside_both x w i in
    by_test (ends y)
    (λ e. rw (cut, e, and_then, ne_eqb y x (λ q. apart x y k.0 e (sym q))))
    (λ e. by_test (eqb y x)
    (λ q. rw (cut, e, q) (strip_cut w ys c k.1 h ∙ sym (then_then (cut ys) _ _ ∙ then_same (cut ys) (λ p. rw q))))
    (λ q. rw (cut, e, q) (sym (then_then (cut ys) _ _ ∙ then_none (cut ys) (λ p. rw q)))))

-- Choosing by the bytes

-- what is there, or else
abbrev unless : {A B : Type 0} → Option A → (A → B) → B → B
unless none f b = b
unless (some a) f b = f a

abbrev alone : {A : Type 0} → Reader A → List ℕ → Option (A × List ℕ)
alone r b = and_then (whole r []) (λ a. some (a, b))

abbrev pub then_comma : String → List ℕ
then_comma w = bytes w ++ (44 ∷ [])

abbrev then_end : String → List ℕ
then_end w = bytes w ++ (10 ∷ [])

-- the first word of the table that the bytes begin with, and a byte that ends a field
chosen : {A : Type 0} → Table A → List ℕ → Option (A × List ℕ)
chosen [] b = none
chosen (e ∷ es) b = unless (strip (then_comma e.0) b) (read_line e.1)
    (unless (strip (then_end e.0) b) (alone e.1) (chosen es b))

-- no word of the table has a byte that ends a field
abbrev pub plain : {A : Type 0} → Table A → Bool
plain [] = true
plain (e ∷ es) = inside (bytes e.0) && plain es

stop_ten : (e : ℕ) → Stop e → eqb e 44 ≡ false → eqb e 10 ≡ true
stop_ten e h q = rw q at h

module _ {A : Type 0} (b : List ℕ) where
  chosen_none : (table : Table A) → plain table ≡ true → cut b ≡ none → chosen table b ≡ none
  unfolding chosen and_then
  chosen_none [] h k = refl
  chosen_none (e ∷ es) h k =
      let i = (and-eq-true_iff (inside (bytes e.0)) (plain es)).0 h in
      rw (strip_cut (bytes e.0) b 44 i.0 refl, strip_cut (bytes e.0) b 10 i.0 refl, k, and_then)
      (chosen_none es i.1 k)

  chosen_some : (table : Table A) → plain table ≡ true → (t : List ℕ) (e : ℕ) (c : List ℕ) → Stop e
      → cut b ≡ some (t, e, c) → at_stop e (named table t) c ≡ chosen table b
  unfolding chosen named and_then at_stop
  chosen_some [] h t e c s k = stop_none _ (λ ts. whole_none _ ts refl) e c
  chosen_some (x ∷ es) h t e c s k =
      let i = (and-eq-true_iff (inside (bytes x.0)) (plain es)).0 h in
      rw (strip_cut (bytes x.0) b 44 i.0 refl, strip_cut (bytes x.0) b 10 i.0 refl, k, and_then)
      (by_test (same_bytes t (bytes x.0))
      (λ q. by_test (eqb e 44) (λ f. rw (q, f, named, at_stop)) (λ f. rw (q, f, stop_ten e s f, named, at_stop)))
      (λ q. rw (q, named) (chosen_some es i.1 t e c s k)))

  choose_chosen : (table : Table A) → plain table ≡ true → read_line (choose table) b ≡ chosen table b
  unfolding choose and_then
  choose_chosen table h = line_cut (choose table) b ∙ go (cut b) (cut_stop b) refl
    where
      go : (o : Option (List ℕ × ℕ × List ℕ)) → Gives (λ p. Stop p.1) o → cut b ≡ o
          → and_then o (λ p. at_stop p.1 (named table p.0) p.2) ≡ chosen table b
      go none g k = sym (chosen_none table h k)
      go (some p) (just g) k = chosen_some table h p.0 p.1 p.2 g k

-- A word that was found

strip_is : (w b c : List ℕ) → strip w b ≡ some c → b ≡ w ++ c
unfolding strip
strip_is [] b c e = cc
strip_is (x ∷ w) [] c e = let z : ◌≡◌ {A = ℕ} 0 1 = cc in absurd (omega arith)
strip_is (x ∷ w) (y ∷ b) c e = by_test (eqb y x)
    (λ q. rw (eqb-true y x q, strip_is w b c (rw (strip, q) at e)))
    (λ q. let f : none ≡ some c = rw (strip, q) at e in cc)

cut_word : (w b : List ℕ) → inside w ≡ true → cut ((w ++ (44 ∷ [])) ++ b) ≡ some (w, 44, b)
unfolding cut inside and_then
cut_word [] b h = refl
cut_word (x ∷ w) b h = let k = inside_both x w h in rw (k.0, cut_word w b k.1, cut, and_then)

module _ {A : Type 0} (table : Table A) where
  pub word_found : (w : String) (b c : List ℕ) → inside (bytes w) ≡ true → strip (then_comma w) b ≡ some c
      → read_line (choose table) b ≡ read_line (λ ts. choose table (bytes w ∷ ts)) c
  unfolding at_stop and_then
  word_found w b c i e =
      line_cut (choose table) b ∙ rw (strip_is (then_comma w) b c e, cut_word (bytes w) c i, and_then, at_stop)

-- no word is there, and none stands alone
pub no_word : {A : Type 0} (table : Table A) (b : List ℕ) → plain table ≡ true
    → Every (λ e. (strip (then_comma e.0) b ≡ none) × (e.1 [] ≡ none)) table → read_line (choose table) b ≡ none
unfolding chosen and_then
no_word table b h k = choose_chosen b table h ∙ go table k
  where
    other : {A : Type 0} (o : Option (List ℕ)) (r : Reader A) (c : Option (A × List ℕ)) → r [] ≡ none → c ≡ none
        → unless o (alone r) c ≡ none
    other none r c e f = f
    other (some d) r c e f = rw (whole_none r [] e, and_then)

    go : {A : Type 0} (table : Table A)
        → Every (λ e. (strip (then_comma e.0) b ≡ none) × (e.1 [] ≡ none)) table → chosen table b ≡ none
    go [] k = refl
    go (e ∷ es) k =
        rw (k.0.0, chosen) (other (strip (then_end e.0) b) e.1 (chosen es b) k.0.1 (go es k.1))

-- Words of one length

-- r goes on with the line after the byte e, if that ends a field
unfoldable pub onward : {A : Type 0} → ℕ → Reader A → List ℕ → Option (A × List ℕ)
onward e r b = pick (eqb e 44) (read_line r b) (pick (eqb e 10) (and_then (whole r []) (λ a. some (a, b))) none)

pub onward_none : {A : Type 0} (r : Reader A) → ((ts : List (List ℕ)) → whole r ts ≡ none)
    → (e : ℕ) (b : List ℕ) → onward e r b ≡ none
unfolding onward and_then
onward_none r h e b = by_test (eqb e 44) (λ p. rw (p, onward) (line_none r h b))
    (λ p. by_test (eqb e 10) (λ q. rw (p, q, onward, h [], and_then)) (λ q. rw (p, q, onward)))

abbrev sized : {A : Type 0} → ℕ → Table A → Bool
sized n [] = true
sized n (e ∷ es) = eqb (length (bytes e.0)) n && sized n es

sized_both : {A : Type 0} (n : ℕ) (e : String × Reader A) (es : Table A) → sized n (e ∷ es) ≡ true
    → (length (bytes e.0) ≡ n) × (sized n es ≡ true)
sized_both n e es h =
    let k = (and-eq-true_iff (eqb (length (bytes e.0)) n) (sized n es)).0 h in
    (eqb-true (length (bytes e.0)) n k.0, k.1)

strip_sized : (w p : List ℕ) (c e : ℕ) (t : List ℕ) → length w ≡ length p
    → strip (w ++ (c ∷ [])) (p ++ (e ∷ t)) ≡ pick (same_bytes p w && eqb e c) (some t) none
unfolding strip same_bytes
strip_sized [] [] c e t h = refl
strip_sized [] (y ∷ p) c e t h = absurd (omega arith)
strip_sized (x ∷ w) [] c e t h = absurd (omega arith)
strip_sized (x ∷ w) (y ∷ p) c e t h = by_test (eqb y x)
    (λ q. rw (q, strip, same_bytes) (strip_sized w p c e t (omega arith))) (λ q. rw (q, strip, same_bytes))

strip_short : (w b : List ℕ) → length b < length w → strip w b ≡ none
unfolding strip
strip_short [] b h = absurd (omega arith)
strip_short (x ∷ w) [] h = refl
strip_short (x ∷ w) (y ∷ b) h =
    by_test (eqb y x) (λ q. rw (q, strip) (strip_short w b (omega arith))) (λ q. rw (q, strip))

module _ {A : Type 0} (n : ℕ) where
  chosen_sized : (table : Table A) → sized n table ≡ true → (p : List ℕ) (e : ℕ) (t : List ℕ) → length p ≡ n
      → chosen table (p ++ (e ∷ t)) ≡ onward e (named table p) t
  unfolding chosen named onward
  chosen_sized [] h p e t l = sym (onward_none _ (λ ts. whole_none _ ts refl) e t)
  chosen_sized (x ∷ es) h p e t l =
      let i = sized_both n x es h in
      let m : length (bytes x.0) ≡ length p = omega (arith, i.0) in
      let ih = chosen_sized es i.1 p e t l in
      rw (strip_sized (bytes x.0) p 44 e t m, strip_sized (bytes x.0) p 10 e t m)
      (by_test (same_bytes p (bytes x.0))
      (λ q. by_test (eqb e 44) (λ f. rw (q, f, named, onward)) (λ f. by_test (eqb e 10)
      (λ g. rw (q, f, g, named, onward)) (λ g. rw (q, f, g, named, onward) (rw (f, g, onward) at ih))))
      (λ q. rw (q, named) ih))

  short_none : (table : Table A) → sized n table ≡ true → (b : List ℕ) → length b ≤ n → chosen table b ≡ none
  unfolding chosen
  short_none [] h b l = refl
  short_none (e ∷ es) h b l =
      let i = sized_both n e es h in
      let m : (c : ℕ) → length b < length (bytes e.0 ++ (c ∷ [])) =
      λ c. omega (arith, i.0, length-append (bytes e.0) (c ∷ [])) in
      rw (strip_short (then_comma e.0) b (m 44), strip_short (then_end e.0) b (m 10)) (short_none es i.1 b l)

  -- the bytes of a word and the byte after it
  pub word_line : (table : Table A) → plain table ≡ true → sized n table ≡ true
      → (p : List ℕ) (e : ℕ) (t : List ℕ) → length p ≡ n
      → read_line (choose table) (p ++ (e ∷ t)) ≡ onward e (λ ts. choose table (p ∷ ts)) t
  unfolding choose
  word_line table h k p e t l = choose_chosen (p ++ (e ∷ t)) table h ∙ chosen_sized table k p e t l

  pub word_short : (table : Table A) → plain table ≡ true → sized n table ≡ true
      → (b : List ℕ) → length b ≤ n → read_line (choose table) b ≡ none
  word_short table h k b l = choose_chosen b table h ∙ short_none table k b l

pub onward_comma : {A : Type 0} (r : Reader A) {e : ℕ} (b : List ℕ) → e ≡ 44 → onward e r b ≡ read_line r b
unfolding onward
onward_comma r b q = rw (q, onward)

-- a reader that wants no field
pub onward_end : {A : Type 0} (a : A) {e : ℕ} (b : List ℕ) → e ≡ 10 → onward e (return a) b ≡ some (a, b)
unfolding onward whole return ended and_then
onward_end a b q = rw (q, onward)

pub onward_on : {A : Type 0} (a : A) {e : ℕ} (b : List ℕ) → (e ≡ 10 → ⊥) → onward e (return a) b ≡ none
unfolding onward
onward_on a {e} b n = by_test (eqb e 44) (λ q. rw (q, onward) (line_return a b))
    (λ q. rw (q, ne_eqb e 10 n, onward))

-- a reader that wants a field, where no comma follows the word
pub onward_bare : {A : Type 0} (r : Reader A) {e : ℕ} (b : List ℕ) → (e ≡ 44 → ⊥) → r [] ≡ none → onward e r b ≡ none
unfolding onward and_then
onward_bare r {e} b n h = by_test (eqb e 10)
    (λ q. rw (ne_eqb e 44 n, q, onward, whole_none r [] h, and_then)) (λ q. rw (ne_eqb e 44 n, q, onward))

-- A text that is no word of the table, or whose reader wants a field

module _ {A : Type 0} (t : List ℕ) where
  pub no_field : (table : Table A) → Every (λ e. (same_bytes t (bytes e.0) ≡ false) ⊎ (e.1 [] ≡ none)) table
      → choose table (t ∷ []) ≡ none
  unfolding choose named
  no_field [] h = refl
  no_field (e ∷ es) h = by_test (same_bytes t (bytes e.0))
      (λ b. rw (b, named) (⊎_elim (λ q. absurd (no_truth (sym q ∙ b))) (λ q. q) h.0))
      (λ b. rw (b, named) (no_field es h.1))

pub one_other : (x y : ℕ) → (x ≡ y → ⊥) → same_bytes (x ∷ []) (y ∷ []) ≡ false
unfolding same_bytes
one_other x y n = rw (ne_eqb x y n, same_bytes)

-- Words of one or two letters by their number

abbrev pub key : List ℕ → ℕ
key [] = 0
key (x ∷ []) = x
key (x ∷ y ∷ t) = x * 256 + y

-- x is none of them
abbrev pub Others : ℕ → List ℕ → Type 0
Others x [] = Unit {0}
Others x (y ∷ ys) = Others x ys × (x ≡ y → ⊥)

abbrev among : ℕ → List ℕ → Bool
among x [] = false
among x (y ∷ ys) = eqb x y || among x ys

abbrev pub keyed : {A : Type 0} → List ℕ → List (String × A) → Bool
keyed ys [] = true
keyed ys (e ∷ es) = among (key (bytes e.0)) ys && keyed ys es

none_among : (x : ℕ) (ys : List ℕ) → Others x ys → among x ys ≡ false
none_among x [] n = refl
none_among x (y ∷ ys) n = rw (ne_eqb x y n.1) (none_among x ys n.0)

-- a text whose number is none of the words'
pub no_key : {A : Type 0} (t : List ℕ) (ys : List ℕ) → Others (key t) ys → (d : A) (table : List (String × A))
    → keyed ys table ≡ true → lookup table d t ≡ d
unfolding lookup
no_key t ys n d [] h = refl
no_key t ys n d (e ∷ es) h =
    let m = (and-eq-true_iff (among (key (bytes e.0)) ys) (keyed ys es)).0 h in
    by_test (same_bytes t (bytes e.0))
    (λ q. absurd (no_truth (sym (none_among (key t) ys n) ∙ rw (← same_bytes_holds t (bytes e.0) q) m.0)))
    (λ q. rw (q, lookup) (no_key t ys n d es m.1))

-- a table of readers
pub choose_lookup : {A : Type 0} (table : Table A) (t : List ℕ) (ts : List (List ℕ))
    → choose table (t ∷ ts) ≡ lookup table (λ us. none) t ts
unfolding choose named lookup
choose_lookup [] t ts = refl
choose_lookup (e ∷ es) t ts = by_test (same_bytes t (bytes e.0)) (λ q. rw (q, named, lookup))
    (λ q. rw (q, named, lookup) (choose_lookup es t ts))

-- Formula lines by their letter: what follows it, as a row.
use mathlib.Core.Path.{◌≡◌, refl, sym, ap, ◌∙◌}
use mathlib.Core.List.{List, [], ◌∷◌}
use mathlib.Core.Option.{Option, none, some}
use mathlib.Core.Logic.{inl, inr}
use Prim.Native.Nat.{ℕ, ◌≤◌, ◌<◌}
use Prim.Native.Char.{code}
use native.Mathlib.Omega.{arith}
use lib.ListN.{length, get_or}
use Rattle.request.specs.Range.{predicate, session, holder, formula_number, ◌‥◌}
use Rattle.request.specs.Text.{bytes, same_bytes, and_then, number_in}
use Rattle.request.specs.Reader.{Reader, return, ◌>>=◌, next, named, choose}
use Rattle.request.specs.Request.{Line}
use Rattle.request.specs.Read.{number, interval, part, parts, formula_line, formula_line_with}
use Rattle.steps.specs.declared.Row.{Row}
use Rattle.ledger.specs.Table.{lettered, row_of}
use Rattle.read_fields.specs.Field.{field_to}
use Rattle.read_formulas.specs.Line.{read_line, one_field, two_fields, at_fields, superset_fields, named_fields}
use Rattle.read_formulas.specs.Line.{rowed}
use Rattle.read_fields.proofs.Then.{then_then, then_same, then_pair}
use Rattle.read_fields.proofs.Bytes.{beyond, here2}
use Rattle.read_formulas.proofs.Cut.{whole_none}
use Rattle.read_formulas.proofs.Shapes.{Shape, number_shape, interval_shape, both_last}
use Rattle.read_formulas.proofs.WordTables.{inside, onward, onward_comma, onward_bare, onward_none, word_line}
use Rattle.read_formulas.proofs.WordTables.{word_short}
use Rattle.read_formulas.proofs.WordTables.{onward_end, onward_on, Others, no_key, choose_lookup, no_field}
use Rattle.read_formulas.proofs.WordTables.{one_other}

-- Fields as a row

pub one_row : (letter : ℕ) (make : ℕ → Line) → ((i : ℕ) → row_of (make i) ≡ lettered letter i 0) → (b : List ℕ)
    → rowed (read_line (part make) b) ≡ one_field letter b
unfolding rowed one_field part and_then
one_row letter make h b =
    rw ((number_shape formula_number).last make b) (then_then (field_to 10 (number_in formula_number) b) _ _
    ∙ then_same (field_to 10 (number_in formula_number) b) (λ p. rw (h p.0)))

module _ {A B : Type 0} {r : Reader A} {s : Reader B} {p : ℕ → List ℕ → Option (A × List ℕ)}
    {q : ℕ → List ℕ → Option (B × List ℕ)} (d : Shape r p) (e : Shape s q) where
  pub two_row : (make : A → B → Line) {mk : A → B → Row} → ((i : A) (j : B) → row_of (make i j) ≡ mk i j) → (b : List ℕ)
      → rowed (read_line (r >>= (λ i. s >>= (λ j. return (make i j)))) b)
      ≡ and_then (p 44 b) (λ x. and_then (q 10 x.1) (λ y. some (mk x.0 y.0, y.1)))
  unfolding rowed
  two_row make h b =
      rw (both_last d e make b)
      (then_pair (p 44 b) (λ x. q 10 x.1) (λ x y. (make x.0 y.0, y.1)) (λ z. some (row_of z.0, z.1))
      ∙ then_same (p 44 b) (λ x. then_same (q 10 x.1) (λ y. ap (λ z. some (z, y.1)) (h x.0 y.0))))

module _ (letter : ℕ) where
  pub numbers_row : (m n : ℕ) (make : ℕ → ℕ → Line) → ((i j : ℕ) → row_of (make i j) ≡ lettered letter i j)
      → (b : List ℕ)
      → rowed (read_line (number (0 ‥ m) >>= (λ i. number (0 ‥ n) >>= (λ j. return (make i j)))) b)
      ≡ two_fields letter m n b
  unfolding two_fields
  numbers_row m n make h b = two_row (number_shape (0 ‥ m)) (number_shape (0 ‥ n)) make h b

  pub at_row : letter ≡ code "h" → (b : List ℕ)
      → rowed (read_line (number formula_number >>= (λ i. interval >>= (λ w. return (Line.at i w)))) b)
      ≡ at_fields letter b
  unfolding at_fields
  at_row h b = rw h (two_row (number_shape formula_number) interval_shape Line.at (λ i w. refl) b)

  pub superset_row : letter ≡ code "g" → (b : List ℕ)
      → rowed (read_line (interval >>= (λ v. interval >>= (λ w. return (Line.superset v w)))) b)
      ≡ superset_fields letter b
  unfolding superset_fields
  superset_row h b = rw h (two_row interval_shape interval_shape Line.superset (λ v w. refl) b)

  pub named_row : letter ≡ code "n" → (b : List ℕ)
      → rowed (read_line (number predicate >>= (λ p. number session >>= (λ t. number holder >>= (λ k.
      return (Line.named p t k))))) b)
      ≡ named_fields letter b
  unfolding named_fields rowed number next ◌>>=◌ and_then
  named_row h b =
      rw h (ap rowed ((number_shape predicate).more _ (λ p. refl) b
      ∙ then_same (field_to 44 (number_in predicate) b) (λ p.
      both_last (number_shape session) (number_shape holder) (Line.named p.0) p.1))
      ∙ then_then (field_to 44 (number_in predicate) b) _ _
      ∙ then_same (field_to 44 (number_in predicate) b) (λ p.
      then_pair (field_to 44 (number_in session) p.1) (λ x. field_to 10 (number_in holder) x.1)
      (λ x y. (Line.named p.0 x.0 y.0, y.1)) (λ z. some (row_of z.0, z.1))))

pub row_told : {x y : Row} (b : List ℕ) → x ≡ y → ◌≡◌ {A = Option (Row × List ℕ)} (some (x, b)) (some (y, b))
row_told b e = ap (λ z. some (z, b)) e

-- The letter

-- those of formula lines
abbrev pub letters : List ℕ
letters =
    code "o" ∷ code "q" ∷ code "n" ∷ code "w" ∷ code "u" ∷ code "t" ∷ code "p" ∷ code "l" ∷ code "s" ∷ code "h" ∷
    code "g" ∷ code "b" ∷ code "a" ∷ []

module _ (s : List ℕ) where
  pub letter_short : length s < 2 → read_line formula_line s ≡ none
  unfolding formula_line_with bytes inside
  letter_short h = word_short 1 _ refl refl s (omega arith)

  letter_line : 2 ≤ length s → read_line formula_line s
      ≡ onward (get_or s 1 0) (λ ts. formula_line ((get_or s 0 0 ∷ []) ∷ ts)) (beyond s 2)
  unfolding formula_line_with bytes inside
  letter_line h =
      ap (read_line formula_line) (here2 s h)
      ∙ word_line 1 _ refl refl (get_or s 0 0 ∷ []) (get_or s 1 0) (beyond s 2) refl

  module _ (h : 2 ≤ length s) where
    -- a letter and a comma
    pub letter_fields : (x : ℕ) → get_or s 0 0 ≡ x → get_or s 1 0 ≡ 44
        → read_line formula_line s ≡ read_line (λ ts. formula_line ((x ∷ []) ∷ ts)) (beyond s 2)
    letter_fields x q k =
        letter_line h ∙ onward_comma _ (beyond s 2) k
        ∙ ap (λ y. read_line (λ ts. formula_line ((y ∷ []) ∷ ts)) (beyond s 2)) q

    -- `o`, which has no field
    pub letter_one : get_or s 0 0 ≡ code "o" → get_or s 1 0 ≡ 10
        → read_line formula_line s ≡ some (Line.one, beyond s 2)
    unfolding formula_line_with choose named same_bytes bytes
    letter_one q k = letter_line h ∙ rw q (onward_end Line.one (beyond s 2) k)

    pub letter_one_bare : get_or s 0 0 ≡ code "o" → (get_or s 1 0 ≡ 10 → ⊥) → read_line formula_line s
        ≡ none
    unfolding formula_line_with choose named same_bytes bytes
    letter_one_bare q k = letter_line h ∙ rw q (onward_on Line.one (beyond s 2) k)

    -- a letter of a line with fields, and no comma
    pub letter_bare : (get_or s 0 0 ≡ code "o" → ⊥) → (get_or s 1 0 ≡ 44 → ⊥) → read_line formula_line s
        ≡ none
    unfolding formula_line_with bytes number interval part parts next ◌>>=◌ and_then
    letter_bare n k =
        letter_line h ∙ onward_bare _ (beyond s 2) k
        (no_field (get_or s 0 0 ∷ []) _ (
          inr refl,
          (
            inl (one_other (get_or s 0 0) (code "o") n),
            (
              inr refl,
              (
                inr refl,
                (
                  inr refl,
                  (
                    inr refl,
                    (
                      inr refl,
                      (inr refl, (inr refl, (inr refl, (inr refl, (inr refl, (inr refl, tt)))))),
                    ),
                  ),
                ),
              ),
            ),
          ),
        ))

    -- a letter x, a comma and two numbers, by what the code reads of them
    pub numbers_line : (x m n : ℕ) (make : ℕ → ℕ → Line) {o : Option (Row × List ℕ)} {y : ℕ} → y ≡ get_or s 0 0
        → y ≡ x → get_or s 1 0 ≡ 44
        → ((b : List ℕ) → read_line (λ ts. formula_line ((x ∷ []) ∷ ts)) b
        ≡ read_line (number (0 ‥ m) >>= (λ j. number (0 ‥ n) >>= (λ k. return (make j k)))) b)
        → ((j k : ℕ) → row_of (make j k) ≡ lettered x j k)
        → o ≡ two_fields y m n (beyond s 2) → o ≡ rowed (read_line formula_line s)
    numbers_line x m n make w q comma reads rows e =
        e ∙ sym (ap rowed (letter_fields x (sym w ∙ q) comma ∙ reads _)
        ∙ numbers_row _ m n make (λ j k. rows j k ∙ ap (λ l. lettered l j k) (sym q)) _)

    -- no letter of a formula line
    letter_none : Others (get_or s 0 0) letters → (ts : List (List ℕ)) → formula_line ((get_or s 0 0 ∷ []) ∷ ts) ≡ none
    unfolding formula_line_with bytes
    letter_none n ts =
        choose_lookup _ (get_or s 0 0 ∷ []) ts
        ∙ ap (λ (r : Reader Line). r ts) (no_key (get_or s 0 0 ∷ []) letters n _ _ refl)

    pub letter_other : Others (get_or s 0 0) letters
        → read_line formula_line s ≡ none
    unfolding formula_line_with bytes
    letter_other n =
        letter_line h ∙ onward_none _ (λ ts. whole_none _ ts (letter_none n ts)) _ _

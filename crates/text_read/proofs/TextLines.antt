-- The first line of a text and its credential lines: what their fields say.
use mathlib.Core.Path.{◌≡◌, refl, ◌∙◌}
use mathlib.Core.List.{List, [], ◌∷◌}
use mathlib.Core.Option.{none, some}
use Prim.Native.Nat.{ℕ}
use Rattle.request.specs.declared.Kind.{Kind}
use Rattle.request.specs.declared.Kind.TheVariants.{Linear, Unrestricted}
use Rattle.request.specs.Range.{serial, next_serial, formula_number}
use Rattle.request.specs.Text.{bytes, same_bytes, and_then, fields, number_in}
use Rattle.request.specs.Reader.{Reader, return, ◌>>=◌, next, named, choose}
use Rattle.request.specs.Read.{number, kind}
use Rattle.request.proofs.Gives.{Gives, just, given, gives_then}
use Rattle.request.proofs.Readers.{Texts, Only, whole_only}
use Rattle.ledger.specs.declared.Credential.{Credential}
use Rattle.snapshot.specs.declared.Edition.{Edition}
use Rattle.snapshot.specs.declared.Edition.TheVariants.{First, Second}
use Rattle.snapshot.specs.Snapshot.{line_count, live_count, counts, edition, title_line, credential_line}
use Rattle.snapshot.specs.declared.Title.{Title}
use Rattle.snapshot.specs.InForm.{TitleInRange, CredentialInRange}
use Rattle.snapshot.proofs.Texts.{title_exact, credential_exact}
use Rattle.read_fields.specs.Field.{field_to, strip}
use Rattle.read_formulas.specs.Line.{split, read_line, interval_to}
use Rattle.read_fields.proofs.Then.{then_same, by_test}
use Rattle.read_formulas.proofs.Cut.{line_same}
use Rattle.read_formulas.proofs.Shapes.{number_shape, interval_shape, both_last}
use Rattle.read_formulas.proofs.WordTables.{Table, inside, word_found, no_word, then_comma}
use Rattle.text_read.specs.TextForm.{after_kind}
use Rattle.text_read.proofs.PastLines.{whatever}

-- The first line

module _ (b c : List ℕ) where
  pub title_found : strip (then_comma "till") b ≡ some c → read_line title_line b ≡ read_line edition c
  unfolding title_line choose named same_bytes bytes inside
  title_found e = word_found (("till", edition) ∷ []) "till" b c refl e

  pub first_found : strip (then_comma "1") b ≡ some c → read_line edition b ≡ read_line (counts First) c
  unfolding edition choose named same_bytes bytes inside
  first_found e = word_found (("1", counts First) ∷ ("2", counts Second) ∷ []) "1" b c refl e

  pub second_found : strip (then_comma "2") b ≡ some c → read_line edition b ≡ read_line (counts Second) c
  unfolding edition choose named same_bytes bytes inside
  second_found e = word_found (("1", counts First) ∷ ("2", counts Second) ∷ []) "2" b c refl e

module _ (b : List ℕ) where
  pub no_title : strip (then_comma "till") b ≡ none → read_line title_line b ≡ none
  unfolding title_line edition choose bytes inside
  no_title e = no_word _ b refl ((e, refl), tt)

  pub no_edition : strip (then_comma "1") b ≡ none → strip (then_comma "2") b ≡ none → read_line edition b ≡ none
  unfolding edition counts choose bytes inside number next ◌>>=◌ and_then
  no_edition e f = no_word _ b refl ((e, refl), ((f, refl), tt))

  pub counts_line : (d : Edition) → read_line (counts d) b ≡ and_then (field_to 44 (number_in next_serial) b) (λ n.
      and_then (field_to 44 (number_in line_count) n.1) (λ l. and_then (field_to 10 (number_in live_count) l.1) (λ c.
      some (record { edition = d; next = n.0; lines = l.0; live = c.0 }, c.1))))
  unfolding counts number next ◌>>=◌ and_then
  counts_line d =
      (number_shape next_serial).more _ (λ n. refl) b ∙ then_same (field_to 44 (number_in next_serial) b) (λ n.
      both_last (number_shape line_count) (number_shape live_count)
      (λ l c. record { edition = d; next = n.0; lines = l; live = c }) n.1)

-- A credential

-- its fields after the serial
unfoldable pub after_serial : ℕ → Reader Credential
after_serial s = do
  k ← kind
  after_kind s k

kinds : ℕ → Table Credential
kinds s = ("s", after_kind s Linear) ∷ ("r", after_kind s Unrestricted) ∷ []

by_kind : (s : ℕ) (ts : List (List ℕ)) → after_serial s ts ≡ choose (kinds s) ts
unfolding kinds after_serial kind choose named same_bytes bytes return ◌>>=◌ and_then
by_kind s [] = refl
by_kind s (t ∷ ts) = by_test (same_bytes t (bytes "s")) (λ e. rw (e, named, and_then)) (λ e.
    by_test (same_bytes t (bytes "r")) (λ f. rw (e, f, named, and_then)) (λ f. rw (e, f, named, and_then)))

module _ (b : List ℕ) where
  pub serial_line : read_line credential_line b
      ≡ and_then (field_to 44 (number_in serial) b) (λ s. read_line (after_serial s.0) s.1)
  unfolding credential_line after_serial after_kind kind choose ◌>>=◌ and_then
  serial_line = (number_shape serial).more after_serial (λ s. refl) b

module _ (s : ℕ) (b c : List ℕ) where
  pub kind_linear : strip (then_comma "s") b ≡ some c → read_line (after_serial s) b ≡ read_line (after_kind s Linear) c
  unfolding kinds choose named same_bytes bytes inside
  kind_linear e = line_same (by_kind s) b ∙ word_found (kinds s) "s" b c refl e

  pub kind_unrestricted : strip (then_comma "r") b ≡ some c
      → read_line (after_serial s) b ≡ read_line (after_kind s Unrestricted) c
  unfolding kinds choose named same_bytes bytes inside
  kind_unrestricted e = line_same (by_kind s) b ∙ word_found (kinds s) "r" b c refl e

module _ (s : ℕ) (b : List ℕ) where
  pub no_kind : strip (then_comma "s") b ≡ none → strip (then_comma "r") b ≡ none → read_line (after_serial s) b ≡ none
  unfolding kinds bytes inside after_kind number next ◌>>=◌ and_then
  no_kind e f = line_same (by_kind s) b ∙ no_word (kinds s) b refl ((e, refl), ((f, refl), tt))

pub kind_line : (s : ℕ) (k : Kind) (b : List ℕ) → read_line (after_kind s k) b
    ≡ and_then (field_to 44 (number_in formula_number) b) (λ n. and_then (interval_to 10 n.1) (λ i.
    some (record { serial = s; kind = k; formula = n.0; interval = i.0 }, i.1)))
unfolding after_kind
kind_line s k b = both_last (number_shape formula_number) interval_shape
    (λ n i. record { serial = s; kind = k; formula = n; interval = i }) b

-- whatever a reader reads from a line
line_gives : {A : Type 0} {P : A → Type 0} {w : A → Texts} {r : Reader A} → Only P w [] r → (b : List ℕ)
    → Gives {A = A × List ℕ} (λ x. P x.0) (read_line r b)
unfolding read_line
line_gives h b =
    gives_then (whatever (split b)) (λ p u. gives_then (whole_only h (fields p.0)) (λ a q. just q.0))

pub credential_range : (b : List ℕ) {c : Credential} {d : List ℕ} → read_line credential_line b ≡ some (c, d)
    → CredentialInRange c
credential_range b e = given {P = λ x. CredentialInRange x.0} (line_gives credential_exact.only b) e

pub title_range : (b : List ℕ) {h : Title} {d : List ℕ} → read_line title_line b ≡ some (h, d) → TitleInRange h
title_range b e = given {P = λ x. TitleInRange x.0} (line_gives title_exact.only b) e

-- Hold lines and step lines: by their words, and what their fields say.
use mathlib.Core.Path.{◌≡◌, refl, sym, ap, ◌∙◌}
use mathlib.Core.List.{List, [], ◌∷◌, map}
use mathlib.Core.Option.{Option, none, some}
use mathlib.Core.Bool.{true, ◌&&◌}
use Rattle.logic.specs.Choice.{pick}
use Prim.Native.Nat.{ℕ, ◌≤◌, ◌<◌}
use Prim.Native.Char.{Char, code}
use Prim.Native.String.{String}
use native.Mathlib.Omega.{arith}
use lib.Dec.{eqb, ltb}
use lib.ListN.{length, get_or}
use borrow.Author.Tests.{ne_eqb, lt-ltb, le-ltb}
use Rattle.request.specs.Range.{label, serial, named_holder}
use Rattle.request.specs.Text.{bytes, same_bytes, and_then, number_in, label_set_in}
use Rattle.request.specs.Reader.{Reader, return, ◌>>=◌, next, named, choose, whole}
use Rattle.request.specs.Request.{Step}
use Rattle.request.specs.Read.{number, label_set, interval, labelled, step_line, hold_line}
use Rattle.logic.specs.Interval.{no_interval}
use Rattle.step_rows.specs.StepRows.{step_row, step_of, tr_number, al_number, ll_number, ul_number, no_step}
use Rattle.read_fields.specs.Field.{field_to, strip}
use Rattle.read_formulas.specs.Line.{read_line, lookup, interval_to}
use Rattle.read_lines.specs.Step.{ops, op_of, label_reader, step_reader}
use Rattle.read_fields.proofs.Then.{then_same, by_test}
use Rattle.read_fields.proofs.Bytes.{beyond, here3}
use Rattle.read_formulas.proofs.Cut.{line_same, whole_none}
use Rattle.read_formulas.proofs.Shapes.{Shape, next_shape, number_shape, interval_shape, both_last}
use Rattle.read_formulas.proofs.WordTables.{inside, then_comma, word_found, no_word, onward, word_line, word_short}
use Rattle.read_formulas.proofs.WordTables.{onward_comma, onward_bare, onward_end, onward_on, onward_none}
use Rattle.read_formulas.proofs.WordTables.{choose_lookup}

-- one field alone
alone_shape : {A : Type 0} {r : Reader A} {p : ℕ → List ℕ → Option (A × List ℕ)} → Shape r p
    → (b : List ℕ) → read_line r b ≡ p 10 b
unfolding ◌>>=◌ return and_then
alone_shape {r} {p} d b =
    line_same (λ ts. sym (again (r ts))) b ∙ d.last (λ a. a) b ∙ again (p 10 b)
  where
    again : {A B : Type 0} (o : Option (A × B)) → and_then o (λ x. some (x.0, x.1)) ≡ o
    again none = refl
    again (some x) = refl

-- what was read, or nothing, and what follows
pub then_at : {A B : Type 0} (a : A) (k : A → Option B) → and_then (some a) k ≡ k a
unfolding and_then
then_at a k = refl

pub then_nothing : {A B : Type 0} (k : A → Option B) → and_then none k ≡ none
unfolding and_then
then_nothing k = refl

-- Hold lines

pub hold_line_holds : (b : List ℕ)
    → read_line hold_line b ≡ and_then (strip (then_comma "hold") b) (λ c. field_to 10 (number_in serial) c)
unfolding hold_line choose named same_bytes bytes inside number next and_then
hold_line_holds b = go (strip (then_comma "hold") b) refl
  where
    go : (o : Option (List ℕ)) → strip (then_comma "hold") b ≡ o
        → read_line hold_line b ≡ and_then o (λ c. field_to 10 (number_in serial) c)
    go none e = no_word (("hold", number serial) ∷ []) b refl ((e, refl), tt)
    go (some c) e =
        word_found (("hold", number serial) ∷ []) "hold" b c refl e ∙ alone_shape (number_shape serial) c

pub ruleset hold_fields = (hold_line_holds, then_at, then_nothing)

-- The number of a step

-- what a table has for two letters
abbrev by_letters : List (Char × Char × ℕ) → ℕ → ℕ → ℕ
by_letters [] a b = no_step
by_letters (e ∷ es) a b = pick (eqb a (code e.0) && (eqb b (code e.1) && true)) e.2 (by_letters es a b)

abbrev letters : List (Char × Char × ℕ)
letters =
    ("a", "x", 10) ∷ ("c", "p", 11) ∷ ("t", "r", 9) ∷ ("t", "l", 18) ∷ ("o", "r", 1) ∷ ("o", "l", 12) ∷
    ("w", "r", 8) ∷ ("w", "1", 13) ∷ ("w", "2", 14) ∷ ("p", "1", 3) ∷ ("p", "2", 4) ∷ ("p", "l", 19) ∷
    ("l", "l", 21) ∷ ("u", "l", 22) ∷ ("b", "r", 5) ∷ ("b", "l", 15) ∷ ("h", "r", 6) ∷ ("h", "l", 16) ∷
    ("s", "r", 7) ∷ ("a", "f", 0) ∷ ("s", "l", 17) ∷ ("g", "r", 2) ∷ ("a", "l", 20) ∷ []

pub op_letters : (a b : ℕ) → op_of (a ∷ b ∷ []) ≡ by_letters letters a b
unfolding op_of ops lookup bytes same_bytes
op_letters a b = refl

-- The fields of a step

set_shape : Shape label_set (λ stop. field_to stop label_set_in)
unfolding label_set
set_shape = next_shape label_set_in

module _ (op : ℕ) where
  reader_plain : op < tr_number → step_reader op ≡ return (step_of (step_row op 0 0 0 no_interval))
  unfolding step_reader
  reader_plain h = rw (lt-ltb op tr_number h)

  reader_label : tr_number < op → op < al_number → step_reader op ≡ label_reader op
  unfolding step_reader
  reader_label h k =
      rw (le-ltb op tr_number (omega arith), ne_eqb op tr_number (λ e. omega arith), lt-ltb op al_number k)

  reader_none : ul_number < op → step_reader op ≡ (λ ts. none)
  unfolding step_reader
  reader_none h =
      rw (
        le-ltb op tr_number (omega arith),
        ne_eqb op tr_number (λ e. omega arith),
        le-ltb op al_number (omega arith),
        ne_eqb op al_number (λ e. omega arith),
        ne_eqb op ll_number (λ e. omega arith),
        ne_eqb op ul_number (λ e. omega arith),
      )

  reader_bare : tr_number ≤ op → step_reader op [] ≡ none
  unfolding step_reader label_reader labelled label_set number interval next ◌>>=◌ and_then
  reader_bare h = rw (le-ltb op tr_number h) (by_test (eqb op tr_number) (λ e. rw e) (λ e.
      by_test (ltb op al_number) (λ f. rw (e, f)) (λ f.
      by_test (eqb op al_number) (λ a. rw (e, f, a)) (λ a.
      by_test (eqb op ll_number) (λ g. rw (e, f, a, g)) (λ g. by_test (eqb op ul_number) (λ k. rw (e, f, a, g, k))
      (λ k. rw (e, f, a, g, k)))))))

module _ (b : List ℕ) where
  pub set_line : read_line (step_reader tr_number) b
      ≡ and_then (field_to 10 label_set_in b) (λ v. some (Step.tr v.0, v.1))
  unfolding step_reader
  set_line = set_shape.last Step.tr b

  pub label_line : (op : ℕ) → read_line (label_reader op) b
      ≡ and_then (field_to 10 (number_in label) b) (λ l. some (step_of (step_row op l.0 0 0 no_interval), l.1))
  unfolding label_reader labelled
  label_line op = (number_shape label).last (λ l. step_of (step_row op l 0 0 no_interval)) b

  pub holder_line_holds : read_line (step_reader al_number) b ≡ and_then (field_to 44 (number_in label) b) (λ l.
      and_then (field_to 10 (number_in named_holder) l.1) (λ h. some (Step.al l.0 h.0, h.1)))
  unfolding step_reader
  holder_line_holds = both_last (number_shape label) (number_shape named_holder) Step.al b

  pub lolli_line : read_line (step_reader ll_number) b ≡ and_then (field_to 44 (number_in label) b) (λ l.
      and_then (field_to 44 label_set_in l.1) (λ v. and_then (interval_to 10 v.1) (λ j.
      some (Step.ll l.0 v.0 j.0, j.1))))
  unfolding step_reader label_set next ◌>>=◌ and_then
  lolli_line =
      (number_shape label).more _ (λ l. refl) b
      ∙ then_same (field_to 44 (number_in label) b) (λ l. both_last set_shape interval_shape (Step.ll l.0) l.1)

  pub implies_line : read_line (step_reader ul_number) b ≡ and_then (field_to 44 (number_in label) b) (λ l.
      and_then (interval_to 10 l.1) (λ j. some (Step.ul l.0 j.0, j.1)))
  unfolding step_reader
  implies_line = both_last (number_shape label) interval_shape Step.ul b

pub ruleset line_fields = (set_line, label_line, holder_line_holds, lolli_line, implies_line, then_at, then_nothing)

-- The word of a step

onward_same : {A : Type 0} {r q : Reader A} → ((ts : List (List ℕ)) → r ts ≡ q ts)
    → (e : ℕ) (b : List ℕ) → onward e r b ≡ onward e q b
unfolding onward whole
onward_same h e b = rw (line_same h b, h [])

-- a table whose entries are named by others
lookup_by : {A B : Type 0} (f : A → B) (table : List (String × A)) (d : A) (t : List ℕ)
    → lookup (map (λ e. (e.0, f e.1)) table) (f d) t ≡ f (lookup table d t)
unfolding lookup
lookup_by f [] d t = refl
lookup_by f (e ∷ es) d t = by_test (same_bytes t (bytes e.0)) (λ q. rw (q, lookup))
    (λ q. rw (q, lookup) (lookup_by f es d t))

step_word : (t : List ℕ) (ts : List (List ℕ)) → step_line (t ∷ ts) ≡ step_reader (op_of t) ts
unfolding step_line op_of ops step_reader label_reader step_of
step_word t ts = choose_lookup _ t ts ∙ ap (λ (r : Reader Step). r ts) (lookup_by step_reader ops no_step t)

module _ (s : List ℕ) where
  -- the number of the first two letters, the byte after it, and what follows that
  abbrev op_at : ℕ
  op_at = op_of (get_or s 0 0 ∷ get_or s 1 0 ∷ [])

  abbrev stop_at : ℕ
  stop_at = get_or s 2 0

  abbrev rest_at : List ℕ
  rest_at = beyond s 3

  pub step_short : length s < 3 → read_line step_line s ≡ none
  unfolding step_line bytes inside
  step_short h = word_short 2 _ refl refl s (omega arith)

  step_at_holds : 3 ≤ length s → read_line step_line s ≡ onward stop_at (step_reader op_at) rest_at
  unfolding step_line bytes inside
  step_at_holds h =
      ap (read_line step_line) (here3 s h)
      ∙ word_line 2 _ refl refl (get_or s 0 0 ∷ get_or s 1 0 ∷ []) stop_at rest_at refl
      ∙ onward_same (step_word (get_or s 0 0 ∷ get_or s 1 0 ∷ [])) stop_at rest_at

  pub step_plain : 3 ≤ length s → op_at < tr_number → stop_at ≡ 10
      → read_line step_line s ≡ some (step_of (step_row op_at 0 0 0 no_interval), rest_at)
  step_plain h l e = step_at_holds h ∙ rw (reader_plain op_at l) (onward_end _ rest_at e)

  pub step_plain_on : 3 ≤ length s → op_at < tr_number → (stop_at ≡ 10 → ⊥) → read_line step_line s ≡ none
  step_plain_on h l n = step_at_holds h ∙ rw (reader_plain op_at l) (onward_on _ rest_at n)

  pub step_bare : 3 ≤ length s → tr_number ≤ op_at → (stop_at ≡ 44 → ⊥) → read_line step_line s ≡ none
  step_bare h l n = step_at_holds h ∙ onward_bare _ rest_at n (reader_bare op_at l)

  pub step_fields_holds : 3 ≤ length s → stop_at ≡ 44
      → read_line step_line s ≡ read_line (step_reader op_at) rest_at
  step_fields_holds h e = step_at_holds h ∙ onward_comma _ rest_at e

  pub step_label : 3 ≤ length s → tr_number < op_at → op_at < al_number → stop_at ≡ 44
      → read_line step_line s ≡ read_line (label_reader op_at) rest_at
  step_label h l k e = step_fields_holds h e ∙ rw (reader_label op_at l k)

  pub step_none : 3 ≤ length s → ul_number < op_at → read_line step_line s ≡ none
  step_none h l = step_at_holds h ∙ rw (reader_none op_at l) (onward_none _ (λ ts. whole_none _ ts refl) _ rest_at)

pub ruleset line_words =
    (step_short, step_plain, step_plain_on, step_bare, step_fields_holds, step_label, step_none)

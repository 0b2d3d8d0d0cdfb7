-- The first line of a request, by its word: what its fields say.
use mathlib.Core.Path.{◌≡◌, refl, sym, ap, subst, ◌∙◌}
use mathlib.Core.List.{List, [], ◌∷◌}
use mathlib.Core.Option.{Option, none, some}
use mathlib.Core.Bool.{true}
use Prim.Native.Nat.{ℕ, ◌<◌}
use Prim.Native.String.{String}
use native.Mathlib.Omega.{arith}
use lib.Dec.{eqb}
use lib.ListN.{length}
use Rattle.std.proofs.lemmas.List.{nil_from_length}
use Rattle.logic.specs.declared.Interval.{Interval}
use Rattle.request.specs.declared.Kind.{Kind}
use Rattle.request.specs.declared.Kind.TheVariants.{Linear, Unrestricted}
use Rattle.request.specs.Range.{Range, minute, formula_number, serial, session, holds, steps}
use Rattle.request.specs.Text.{bytes, same_bytes, and_then, lines, number_in}
use Rattle.request.specs.Reader.{return, ◌>>=◌, next, named, choose, whole, ended}
use Rattle.request.specs.Request.{Request, word, issue, withdraw, tally}
use Rattle.request.specs.Read.{number, interval, kind, formula_line, formula_line_with, first_line_with, book_line}
use Rattle.request.specs.Read.{rest}
use Rattle.request.specs.Read.{alone, booking, request_of, Head as FirstLine}
use Rattle.request.specs.InRange.{◌in_range◌, IntervalInRange}
use Rattle.request.proofs.Gives.{Gives, nothing, just, given, gives_then}
use Rattle.request.proofs.Digits.{number_only}
use Rattle.steps.specs.declared.Row.{Row}
use Rattle.ledger.specs.Ledger.{is_none}
use Rattle.ledger.proofs.Firsts.{if_true}
use Rattle.read_fields.specs.Field.{field_to, strip}
use Rattle.read_formulas.specs.Line.{read_line, interval_to, rowed}
use Rattle.read_heads.specs.First.{after, issue_fields, WordIs, FormBroken, FirstIs, request_from}
use Rattle.std.specs.Prelude.{Option as Read}
use Rattle.read_heads.specs.declared.First.{First}
use Rattle.read_fields.proofs.Then.{then_same, then_some, then_no, by_test}
use Rattle.read_heads.proofs.Split.{lines_several, request_first}
use Rattle.read_formulas.proofs.Cut.{line_same, line_map, gives_pick, cut_stop}
use Rattle.read_formulas.proofs.RowLines.{row_line, row_none}
use Rattle.read_formulas.proofs.Shapes.{number_shape, interval_shape, both_last, both_more}
use Rattle.read_formulas.proofs.WordTables.{Table, inside, word_found, no_word, then_comma}

-- The form is broken where there is no request

broken : {q : Option Request} → q ≡ none → FormBroken q
broken {q} e = record { check = sym (if_true 2 (is_none q) (ap is_none e)) }

-- A line that is the whole request

module _ (c : List ℕ) {o : Option (FirstLine × List ℕ)} {r : Request} (e : o ≡ some (alone r, c)) where
  pub whole_request : length c ≡ 0 → request_from o ≡ some r
  unfolding request_from rest lines whole return ended and_then
  whole_request h = rw (e, nil_from_length c h, and_then)

  pub lines_follow : 0 < length c → FormBroken (request_from o)
  unfolding request_from rest and_then
  lines_follow h = broken (rw (e, and_then) (go c h))
    where
      go : (c : List ℕ) → 0 < length c → and_then (lines c) (whole (return r)) ≡ none
      go [] h = absurd (omega arith)
      go (x ∷ xs) h = lines_several r x xs

none_from : {o : Option (FirstLine × List ℕ)} → o ≡ none → request_from o ≡ none
unfolding request_from and_then
none_from e = rw (e, and_then)

pub no_line : {o : Option (FirstLine × List ℕ)} → o ≡ none → FormBroken (request_from o)
no_line e = broken (none_from e)

-- `word`

module _ (b : List ℕ) where
  word_line : read_line (after "word") b ≡ and_then (read_line formula_line b) (λ x. some (alone (word x.0), x.1))
  unfolding after first_line_with choose named same_bytes bytes
  word_line = line_map formula_line (λ l. alone (word l)) b

  pub no_formula : rowed (read_line formula_line b) ≡ none → FormBroken (request_from (read_line (after "word") b))
  no_formula e = no_line (word_line ∙ then_no _ (row_none (read_line formula_line b) e))

  module _ (c : List ℕ) {x : Row} (e : rowed (read_line formula_line b) ≡ some (x, c)) where
    word_is : let l = row_line (read_line formula_line b) e in
        read_line (after "word") b ≡ some (alone (word l.line), c)
    word_is = word_line ∙ then_some _ (row_line (read_line formula_line b) e).is

    pub word_follow : 0 < length c → FormBroken (request_from (read_line (after "word") b))
    word_follow h = lines_follow c word_is h

    pub word_whole : length c ≡ 0 → WordIs (request_from (read_line (after "word") b)) x
    word_whole h =
        let l = row_line (read_line formula_line b) e in
        record { line = l.line; reads = whole_request c word_is h; row = l.row }

-- The others

module _ (b : List ℕ) where
  pub withdraw_line : read_line (after "withdraw") b
      ≡ and_then (field_to 10 (number_in serial) b) (λ x. some (alone (withdraw x.0), x.1))
  unfolding after first_line_with choose named same_bytes bytes
  withdraw_line = (number_shape serial).last (λ n. alone (withdraw n)) b

  pub tally_line : read_line (after "tally") b ≡ and_then (field_to 44 (number_in session) b) (λ x.
      and_then (field_to 10 (number_in minute) x.1) (λ y. some (alone (tally x.0 y.0), y.1)))
  unfolding after first_line_with choose named same_bytes bytes
  tally_line = both_last (number_shape session) (number_shape minute) (λ s m. alone (tally s m)) b

  pub issue_line : (k : Kind) → read_line (issue_fields k) b ≡ and_then (field_to 44 (number_in formula_number) b) (λ x.
      and_then (interval_to 10 x.1) (λ y. some (alone (issue k x.0 y.0), y.1)))
  unfolding issue_fields
  issue_line k = both_last (number_shape formula_number) interval_shape (λ n i. alone (issue k n i)) b

  pub book_line_holds : read_line (after "book") b ≡ and_then (field_to 44 (number_in minute) b) (λ m.
      and_then (field_to 44 (number_in formula_number) m.1) (λ n. and_then (interval_to 44 n.1) (λ i.
      and_then (field_to 44 (number_in holds) i.1) (λ h. and_then (field_to 10 (number_in steps) h.1) (λ k.
      some (booking m.0 n.0 i.0 h.0 k.0, k.1))))))
  unfolding after first_line_with book_line choose named same_bytes bytes interval number next ◌>>=◌ and_then
  book_line_holds =
      both_more (number_shape minute) (number_shape formula_number) _ (λ m n. refl) b
      ∙ then_same (field_to 44 (number_in minute) b) (λ m. then_same (field_to 44 (number_in formula_number) m.1) (λ n.
      interval_shape.more _ (λ i. refl) n.1 ∙ then_same (interval_to 44 n.1) (λ i.
      both_last (number_shape holds) (number_shape steps) (λ h k. booking m.0 n.0 i.0 h k) i.1)))

-- `issue`: the kind

kinds : Table FirstLine
kinds = ("s", issue_fields Linear) ∷ ("r", issue_fields Unrestricted) ∷ []

issue_kinds : (ts : List (List ℕ)) → after "issue" ts ≡ choose kinds ts
unfolding kinds after first_line_with kind issue_fields choose named same_bytes bytes return ◌>>=◌ and_then
issue_kinds [] = refl
issue_kinds (t ∷ ts) = by_test (same_bytes t (bytes "s")) (λ e. rw (e, named, and_then)) (λ e.
    by_test (same_bytes t (bytes "r")) (λ f. rw (e, f, named, and_then)) (λ f. rw (e, f, named, and_then)))

module _ (b c : List ℕ) where
  pub issue_linear : strip (then_comma "s") b ≡ some c
      → read_line (after "issue") b ≡ read_line (issue_fields Linear) c
  unfolding kinds choose named same_bytes bytes inside
  issue_linear e = line_same issue_kinds b ∙ word_found kinds "s" b c refl e

  pub issue_unrestricted : strip (then_comma "r") b ≡ some c
      → read_line (after "issue") b ≡ read_line (issue_fields Unrestricted) c
  unfolding kinds choose named same_bytes bytes inside
  issue_unrestricted e = line_same issue_kinds b ∙ word_found kinds "r" b c refl e

pub no_kind : (b : List ℕ) → strip (then_comma "s") b ≡ none → strip (then_comma "r") b ≡ none
    → read_line (after "issue") b ≡ none
unfolding kinds bytes inside issue_fields number next ◌>>=◌ and_then
no_kind b e f = line_same issue_kinds b ∙ no_word kinds b refl ((e, refl), ((f, refl), tt))

-- The word

pub first_found : (w : String) (b c : List ℕ) → inside (bytes w) ≡ true → strip (then_comma w) b ≡ some c
    → request_of b ≡ request_from (read_line (after w) c)
unfolding after first_line_with
first_found w b c i e = request_first b ∙ ap request_from (word_found _ w b c i e)

pub first_none : (b : List ℕ) → strip (then_comma "word") b ≡ none → strip (then_comma "issue") b ≡ none
    → strip (then_comma "withdraw") b ≡ none → strip (then_comma "book") b ≡ none → strip (then_comma "tally") b ≡ none
    → FormBroken (request_of b)
unfolding first_line_with bytes inside formula_line_with kind book_line choose number next ◌>>=◌ and_then
first_none b d e f g h =
    broken (request_first b
    ∙ none_from (no_word _ b refl ((d, refl), ((e, refl), ((f, refl), ((g, refl), ((h, refl), tt)))))))

-- A number that was read is in its range

field_gives : (stop : ℕ) (r : Range) (b : List ℕ) → Gives (λ x. x.0 in_range r) (field_to stop (number_in r) b)
unfolding field_to
field_gives stop r b = gives_then (cut_stop b) (λ p h. gives_pick (eqb p.1 stop)
    (λ q. gives_then (number_only r p.0) (λ n i. just i.0)) (λ q. nothing))

pub field_range : (stop : ℕ) (r : Range) (b : List ℕ) {n : ℕ} {c : List ℕ} → field_to stop (number_in r) b ≡ some (n, c)
    → n in_range r
field_range stop r b e = given {P = λ x. x.0 in_range r} (field_gives stop r b) e

pub interval_range : (stop : ℕ) (b : List ℕ) {w : Interval} {c : List ℕ} → interval_to stop b ≡ some (w, c)
    → IntervalInRange w
unfolding interval_to
interval_range stop b e = given {P = λ x. IntervalInRange x.0}
    (gives_then (field_gives 44 minute b) (λ i f. gives_then (field_gives 44 minute i.1) (λ j t.
    gives_then (field_gives 44 minute j.1) (λ p g. gives_then (field_gives stop minute p.1) (λ q l.
    just (record { from = f; to = t; first = g; last = l })))))) e

-- The request by another name

pub first_by : {q p : Option Request} (s : List ℕ) (r : Read First) → q ≡ p → FirstIs p s r → FirstIs q s r
first_by s r e h = subst (λ x. FirstIs x s r) (sym e) h

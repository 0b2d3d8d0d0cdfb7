-- A text is read from the lines that are written, and from no others.
use mathlib.Core.Path.{◌≡◌, refl, sym, ap, subst, ◌∙◌}
use mathlib.Core.List.{List, [], ◌∷◌, ◌++◌, append_assoc}
use mathlib.Core.Option.{none, some}
use mathlib.Core.Bool.{Bool, true, false}
use Prim.Native.Nat.{ℕ, ◌≤◌}
use native.Mathlib.Omega.{arith}
use lib.ListN.{length}
use Rattle.logic.specs.Choice.{pick}
use Rattle.logic.proofs.Tests.{no_truth}
use Rattle.logic.specs.Counts.{all_of}
use Rattle.request.specs.Range.{next_serial}
use Rattle.request.specs.InRange.{◌in_range◌, LineInRange}
use Rattle.request.specs.Text.{bytes, same_bytes, and_then}
use Rattle.request.specs.Reader.{◌>>=◌, next, named, choose, line}
use Rattle.request.specs.Read.{number, formula_line, formula_line_with}
use Rattle.request.specs.Write.{digits, joined, line_fields, ended_lines}
use Rattle.request.proofs.Gives.{Gives, nothing, just, given, gives_then, gives_so}
use Rattle.request.proofs.Texts.{lines_ended, ended_lines_holds, ended_size}
use Rattle.request.proofs.Readers.{Reads, Only, Exact, done, ◌also◌, only_return, only_then, only_after, reads_then}
use Rattle.request.proofs.Readers.{reads_last, reads_within, choose_only, word_reads, line_exact, many_read, many_only}
use Rattle.request.proofs.Readers.{whole_back, whole_only, two_only}
use Rattle.request.proofs.Fields.{NumberExact, number_exact, formula_exact, serial_exact, interval_exact, kind_exact}
use Rattle.request.proofs.LineReaders.{formula_line_exact}
use Rattle.ledger.specs.Ledger.{Ledger}
use Rattle.snapshot.specs.declared.Edition.{Edition}
use Rattle.snapshot.specs.declared.Edition.TheVariants.{First, Second}
use Rattle.snapshot.specs.declared.Title.{Title}
use Rattle.snapshot.specs.Snapshot.{line_count, live_count, title_in, own_edition, edition_fields, title_fields}
use Rattle.snapshot.specs.Snapshot.{credential_fields, texts_in, text, longest_text, counts, edition, title_line}
use Rattle.snapshot.specs.Snapshot.{credential_line, body, saved_lines, saved_of, same_edition, as_written, snapshot_of}
use Rattle.snapshot.specs.InForm.{TitleInRange, CredentialInRange, InForm}

-- The first line: at most 24 bytes

next_serial_exact : NumberExact next_serial 8
next_serial_exact = number_exact next_serial 6 (omega arith)

line_count_exact : NumberExact line_count 4
line_count_exact = number_exact line_count 2 (omega arith)

live_count_exact : NumberExact live_count 5
live_count_exact = number_exact live_count 3 (omega arith)

-- the fields after the edition
abbrev count_fields : Title → List (List ℕ)
count_fields h = digits h.next ∷ digits h.lines ∷ digits h.live ∷ []

counts_read : (e : Edition) (h : Title) → TitleInRange h
    → Reads 48 (counts e) (record { edition = e; next = h.next; lines = h.lines; live = h.live }) (count_fields h) 17
unfolding counts
counts_read e h r =
    reads_then _ (next_serial_exact.reads h.next r.next)
    (reads_then _ (line_count_exact.reads h.lines r.lines)
    (reads_last _ (live_count_exact.reads h.live r.live)))

counts_only : (e : Edition) {w : Title → List (List ℕ)} {before : List (List ℕ)}
    → ((n l c : ℕ) → w (record { edition = e; next = n; lines = l; live = c })
    ≡ before ++ (digits n ∷ digits l ∷ digits c ∷ [])) → Only TitleInRange w before (counts e)
unfolding counts
counts_only e {w} {before} f =
    only_then _ next_serial_exact.only (λ n a. two_only line_count_exact live_count_exact _
    (λ l c b d. (
      record { next = a; lines = b; live = d },
      f n l c ∙ sym (append_assoc before (digits n ∷ []) (digits l ∷ digits c ∷ [])),
    )))

edition_exact : Exact 48 edition TitleInRange edition_fields 19
unfolding edition edition_fields bytes same_bytes choose named all_of
edition_exact = record {
  reads = λ h. go h.edition h;
  only = choose_only (◌also◌ {t = "1"} (counts_only First (λ n l c. refl))
      (◌also◌ {t = "2"} (counts_only Second (λ n l c. refl)) done));
}
  where
    go : (e : Edition) (h : Title) → TitleInRange h
        → Reads 48 edition (record { edition = e; next = h.next; lines = h.lines; live = h.live })
        (edition_fields (record { edition = e; next = h.next; lines = h.lines; live = h.live })) 19
    go First h r = word_reads "1" refl (λ us. refl) (counts_read First h r)
    go Second h r = word_reads "2" refl (λ us. refl) (counts_read Second h r)

pub title_exact : Exact 48 title_line TitleInRange title_fields 24
unfolding title_line title_fields bytes same_bytes choose named all_of
title_exact = record {
  reads = λ h r. word_reads "till" refl (λ us. refl) (edition_exact.reads h r);
  only = choose_only (◌also◌ {t = "till"} (only_after edition_exact.only) done);
}

-- A credential's line: at most 45 bytes

pub credential_exact : Exact 48 credential_line CredentialInRange credential_fields 45
unfolding credential_line credential_fields
credential_exact = record {
  reads = λ c r.
      reads_then _ (serial_exact.reads c.serial r.serial) (reads_then _ (kind_exact.reads c.kind tt)
      (reads_then _ (formula_exact.reads c.formula r.formula)
      (reads_last _ (interval_exact.reads c.interval r.interval))));
  only = only_then _ serial_exact.only (λ s a. only_then _ kind_exact.only (λ k u.
      two_only formula_exact interval_exact _ (λ n i b d. (record { serial = a; formula = b; interval = d }, refl))));
}

-- All lines

title_line_holds : Exact 44 (line title_line) TitleInRange (λ h. joined (title_fields h) ∷ []) 24
unfolding title_line choose
title_line_holds = line_exact refl title_exact

formula_line_holds : Exact 44 (line formula_line) LineInRange (λ l. joined (line_fields l) ∷ []) 66
unfolding formula_line_with choose
formula_line_holds = line_exact refl formula_line_exact

credential_line_holds : Exact 44 (line credential_line) CredentialInRange (λ c. joined (credential_fields c) ∷ []) 45
unfolding credential_line number next ◌>>=◌ and_then
credential_line_holds = line_exact refl credential_exact

saved_reads : (e : Edition) (t : Ledger) → InForm t → Reads 44 saved_lines (e, t) (texts_in e t) longest_text
unfolding saved_lines texts_in body
saved_reads e t f =
    reads_within (omega (arith, f.line_count.most, f.live_count.most))
    (reads_then _
    (title_line_holds.reads (title_in e t) (record { next = f.next; lines = f.line_count; live = f.live_count }))
    (reads_then _ (many_read formula_line_holds t.lines f.lines)
    (reads_last _ (many_read credential_line_holds t.live f.live))))

abbrev saved_texts : Edition × Ledger → List (List ℕ)
saved_texts s = texts_in s.0 s.1

body_only : (h : Title) → TitleInRange h
    → Only (λ s. InForm s.1) saved_texts (joined (title_fields h) ∷ []) (body h)
unfolding body texts_in
body_only h r =
    only_then _ (many_only formula_line_holds h.lines)
    (λ ls p. only_then _ (many_only credential_line_holds h.live) (λ cs q.
    only_return _
    (record {
      next = r.next;
      line_count = subst (λ m. m in_range line_count) (sym p.0) r.lines;
      live_count = subst (λ m. m in_range live_count) (sym q.0) r.live;
      lines = p.1;
      live = q.1;
    })
    (rw (p.0, q.0))))

saved_lines_only : Only (λ s. InForm s.1) saved_texts [] saved_lines
unfolding saved_lines
saved_lines_only = only_then _ title_line_holds.only body_only

-- Texts in bytes

same_same : (e : Edition) → same_edition e e ≡ true
same_same First = refl
same_same Second = refl

same_edition_holds : (d e : Edition) → same_edition d e ≡ true → d ≡ e
same_edition_holds First First h = refl
same_edition_holds First Second h = absurd (no_truth h)
same_edition_holds Second First h = absurd (no_truth h)
same_edition_holds Second Second h = refl

saved_read : (e : Edition) (t : Ledger) → InForm t → saved_of (ended_lines (texts_in e t)) ≡ some (e, t)
unfolding saved_of and_then
saved_read e t f =
    let s = saved_reads e t f in
    rw (lines_ended (texts_in e t) s.plain, and_then) (whole_back s)

pub written_read : (t : Ledger) → InForm t → snapshot_of (text t) ≡ some t
unfolding snapshot_of text as_written and_then
written_read t f = rw (saved_read (own_edition t) t f, same_same (own_edition t), and_then)

-- a text in another edition than its ledger's is not read
pub other_edition : (e : Edition) (t : Ledger) → InForm t → same_edition e (own_edition t) ≡ false
    → snapshot_of (ended_lines (texts_in e t)) ≡ none
unfolding snapshot_of as_written and_then
other_edition e t f h = rw (saved_read e t f, h, and_then)

saved_only : (b : List ℕ) → Gives (λ s. InForm s.1 × (ended_lines (saved_texts s) ≡ b)) (saved_of b)
unfolding saved_of
saved_only b =
    gives_then (ended_lines_holds b) (λ ls e.
    gives_so (whole_only saved_lines_only ls) (λ s p. (p.0, ap ended_lines p.1 ∙ e)))

text_only : (b : List ℕ) → Gives (λ t. InForm t × (text t ≡ b)) (snapshot_of b)
unfolding snapshot_of text as_written
text_only b = gives_then (saved_only b) (λ s p. go s.0 s.1 (same_edition s.0 (own_edition s.1)) refl p)
  where
    go : (e : Edition) (t : Ledger) (x : Bool) → same_edition e (own_edition t) ≡ x
        → InForm t × (ended_lines (texts_in e t) ≡ b)
        → Gives (λ t. InForm t × (text t ≡ b)) (pick x (some t) none)
    go e t true h p =
        just (
          p.0,
          ap (λ (d : Edition). ended_lines (texts_in d t)) (sym (same_edition_holds e (own_edition t) h))
              ∙ p.1,
        )
    go e t false h p = nothing

pub read_in_form : (b : List ℕ) (t : Ledger) → snapshot_of b ≡ some t → InForm t
read_in_form b t e = (given (text_only b) e).0

pub read_written : (b : List ℕ) (t : Ledger) → snapshot_of b ≡ some t → text t ≡ b
read_written b t e = (given (text_only b) e).1

pub longest_text_holds : (t : Ledger) → InForm t → length (text t) ≤ longest_text
unfolding text
longest_text_holds t f = omega (arith, ended_size (texts_in (own_edition t) t), (saved_reads (own_edition t) t f).short)

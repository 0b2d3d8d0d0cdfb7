-- A text in its form, found out line by line.
use mathlib.Core.Path.{◌≡◌, refl, sym, ap, ap₂, subst, ◌∙◌}
use mathlib.Core.List.{List}
use mathlib.Core.Option.{Option, none, some}
use mathlib.Core.Bool.{Bool, true, false, not}
use Prim.Native.Nat.{ℕ, zero, suc, ◌≤◌, ◌<◌}
use native.Mathlib.Omega.{arith}
use lib.Dec.{eqb}
use lib.ListN.{length}
use borrow.Author.Tests.{not-true, not-false}
use Rattle.std.specs.Prelude.{Option as Read, Some, None}
use Rattle.logic.specs.Choice.{pick}
use Rattle.request.specs.Text.{and_then}
use Rattle.request.specs.Reader.{Reader}
use Rattle.request.specs.Request.{Line}
use Rattle.request.specs.Read.{formula_line}
use Rattle.request.proofs.Gives.{Gives, just, given, gives_then}
use Rattle.ledger.specs.declared.Credential.{Credential}
use Rattle.ledger.specs.Ledger.{Ledger}
use Rattle.ledger.specs.Checks.{◌if◌, first}
use Rattle.snapshot.specs.declared.Edition.{Edition}
use Rattle.snapshot.specs.declared.Title.{Title}
use Rattle.snapshot.specs.Snapshot.{edition_by, edition_of, own_edition, longest_text, title_line}
use Rattle.snapshot.specs.Snapshot.{credential_line}
use Rattle.snapshot.specs.Snapshot.{body, saved_lines, saved_of, same_edition, as_written, snapshot_of, rising}
use Rattle.snapshot.specs.Snapshot.{open_checks}
use Rattle.snapshot.proofs.Texts.{read_in_form, read_written, longest_text_holds}
use Rattle.read_fields.specs.Field.{read_of}
use Rattle.read_formulas.specs.Line.{read_line}
use Rattle.read_rest.specs.LinesRead.{read_lines, all_lines}
use Rattle.read_fields.proofs.Then.{then_then, then_same, then_some, then_no, by_test}
use Rattle.read_heads.proofs.Split.{lines_then}
use Rattle.read_rest.proofs.Several.{many_lines, all_lines_holds}
use Rattle.call_checks.specs.declared.Verdict.{Verdict}
use Rattle.call_checks.specs.declared.Verdict.TheVariants.{Passed as Passes, Failed as Fails}
use Rattle.call_checks.specs.Verdicts.{Tells}
use Rattle.call_checks.proofs.Verdicts.{by_verdict}
use Rattle.text_read.specs.TextForm.{lines_past, rising_past, Fails50, TitleIs, Formed}
use Rattle.text_read.specs.TextForm.{holders_in, FormIs}
use Rattle.text_read.proofs.TextLines.{title_range}
use Rattle.text_read.proofs.PastLines.{Passed, Risen, lines_past_holds, rising_past_holds, none_past, some_past}
use Rattle.text_read.proofs.PastLines.{some_risen}
use Rattle.text_read.proofs.PastLines.{holders_read, none_risen, whatever}

abbrev pub ledger_from : Title → List Line → List Credential → Ledger
ledger_from h ls cs = record { lines = ls; live = cs; next = h.next }

-- with the edition of the first line
abbrev pub saved_from : Title → List Line → List Credential → Edition × Ledger
saved_from h ls cs = (h.edition, ledger_from h ls cs)

saved_is : (b : List ℕ) → saved_of b ≡ and_then (read_line title_line b) (λ h.
    and_then (read_lines h.0.lines formula_line h.1) (λ p.
    and_then (all_lines h.0.live credential_line p.1) (λ cs. some (saved_from h.0 p.0 cs))))
unfolding saved_of saved_lines body
saved_is b =
    lines_then title_line body b ∙ then_same (read_line title_line b) (λ h.
    many_lines formula_line h.0.lines _ h.1 ∙ then_same (read_lines h.0.lines formula_line h.1) (λ p.
    all_lines_holds credential_line h.0.live (saved_from h.0 p.0) p.1))

-- the ledger of a text, line by line
pub snapshot_is : (b : List ℕ) → snapshot_of b ≡ and_then (read_line title_line b) (λ h.
    and_then (read_lines h.0.lines formula_line h.1) (λ p.
    and_then (all_lines h.0.live credential_line p.1) (λ cs. as_written (saved_from h.0 p.0 cs))))
unfolding snapshot_of and_then
snapshot_is b =
    ap (λ (o : Option (Edition × Ledger)). and_then o as_written) (saved_is b)
    ∙ then_then (read_line title_line b) _ as_written ∙ then_same (read_line title_line b) (λ h.
    then_then (read_lines h.0.lines formula_line h.1) _ as_written
    ∙ then_same (read_lines h.0.lines formula_line h.1) (λ p.
    then_then (all_lines h.0.live credential_line p.1) _ as_written))

-- as many lines as are asked for
lines_counted : {A : Type 0} (r : Reader A) (n : ℕ) (b : List ℕ) → Gives (λ p. length p.0 ≡ n) (read_lines n r b)
unfolding read_lines
lines_counted r zero b = just refl
lines_counted r (suc n) b =
    gives_then (whatever (read_line r b)) (λ p u. gives_then (lines_counted r n p.1) (λ q e. just (ap suc e)))

-- Check 50 fails

module _ (b : List ℕ) where
  broken_text : snapshot_of b ≡ none → Fails50 b
  unfolding open_checks first ◌if◌
  broken_text e = rw e

  falling_text : {t : Ledger} → snapshot_of b ≡ some t → rising 0 t.live ≡ false → Fails50 b
  unfolding open_checks first ◌if◌
  falling_text e f = rw (e, f)

  pub long_text : longest_text < length b → Fails50 b
  long_text h = go (snapshot_of b) refl
    where
      go : (o : Option Ledger) → snapshot_of b ≡ o → Fails50 b
      go none e = broken_text e
      go (some t) e =
          absurd (omega (arith, longest_text_holds t (read_in_form b t e), ap length (read_written b t e)))

  pub no_first_line : read_line title_line b ≡ none → Fails50 b
  no_first_line e = broken_text (snapshot_is b ∙ then_no _ e)

  pub title_told : (c : List ℕ) (r : Read Title) → length b ≤ longest_text → read_of r c ≡ read_line title_line b
      → TitleIs b c r
  title_told c (Some h) s e = record { short = s; reads = sym e; range = title_range b (sym e) }
  title_told c None s e = no_first_line (sym e)

  module _ (h : Title) (body : List ℕ) (first_line_holds : read_line title_line b ≡ some (h, body)) where
    pub no_formulas : lines_past h.lines formula_line body ≡ none → Fails50 b
    no_formulas e =
        broken_text (snapshot_is b ∙ then_some _ first_line_holds
        ∙ then_no _ (none_past _ (sym (lines_past_holds formula_line _ _) ∙ e)))

    module _ (tail : List ℕ) (lines : lines_past h.lines formula_line body ≡ some tail) where
      passed : Passed (read_lines h.lines formula_line body) tail
      passed = some_past _ (sym (lines_past_holds formula_line h.lines body) ∙ lines)

      read_so_far : snapshot_of b ≡ and_then (all_lines h.live credential_line tail) (λ cs.
          as_written (saved_from h passed.values cs))
      read_so_far = snapshot_is b ∙ then_some _ first_line_holds ∙ then_some _ passed.are

      pub no_credentials : rising_past 0 h.live tail ≡ none → Fails50 b
      unfolding all_lines and_then as_written
      no_credentials e =
          go (read_lines h.live credential_line tail) refl (sym (rising_past_holds 0 h.live tail) ∙ e)
        where
          go : (o : Option (List Credential × List ℕ)) → read_lines h.live credential_line tail ≡ o
              → and_then o (λ p. pick (rising 0 p.0) (some p.1) none) ≡ none → Fails50 b
          go none q z = broken_text (read_so_far ∙ rw (all_lines, q, and_then))
          go (some p) q z = by_test (eqb (length p.1) 0)
              (λ t. by_test (same_edition h.edition (own_edition (ledger_from h passed.values p.0)))
              (λ s. falling_text {t = ledger_from h passed.values p.0}
              (read_so_far ∙ rw (all_lines, q, and_then, t, s)) (none_risen 0 p z))
              (λ s. broken_text (read_so_far ∙ rw (all_lines, q, and_then, t, s))))
              (λ t. broken_text (read_so_far ∙ rw (all_lines, q, and_then, t)))

      module _ (over : List ℕ) (live : rising_past 0 h.live tail ≡ some over) where
        risen : Risen 0 (read_lines h.live credential_line tail) over
        risen = some_risen 0 _ (sym (rising_past_holds 0 h.live tail) ∙ live)

        pub left_over : eqb (length over) 0 ≡ false → Fails50 b
        unfolding all_lines and_then
        left_over l = broken_text (read_so_far ∙ rw (all_lines, risen.are, and_then, l))

        module _ (l : eqb (length over) 0 ≡ true) where
          said : Ledger
          said = ledger_from h passed.values risen.live

          abbrev holders : Bool
          holders = holders_in h.lines body

          own : {d : Edition} → d ≡ edition_by holders h.live → d ≡ own_edition said
          unfolding said edition_of
          own e =
              e
              ∙ ap₂ edition_by (given (holders_read h.lines body) passed.are)
              (sym (given (lines_counted credential_line h.live tail) risen.are))

          text_formed : {d : Edition} → d ≡ edition_by holders h.live → same_edition h.edition d ≡ true → Formed b
          unfolding all_lines and_then as_written said
          text_formed e s = record {
            ledger = said;
            reads = read_so_far
                ∙ rw (
                  all_lines,
                  risen.are,
                  and_then,
                  l,
                  subst (λ d. same_edition h.edition d ≡ true) (own e) s,
                );
            rises = risen.rises;
          }

          other_edition : {d : Edition} → d ≡ edition_by holders h.live → same_edition h.edition d ≡ false
              → Fails50 b
          unfolding all_lines and_then as_written said
          other_edition e s =
              broken_text (read_so_far
              ∙ rw (
                all_lines,
                risen.are,
                and_then,
                l,
                subst (λ d. same_edition h.edition d ≡ false) (own e) s,
              ))

          pub by_edition : {d : Edition} (r : Bool) (v : Verdict) → d ≡ edition_by holders h.live
              → r ≡ same_edition h.edition d → Tells 50 v (not r) → FormIs b v
          by_edition r Passes e s t = text_formed e (sym s ∙ not-false r (by_verdict t refl))
          by_edition r Fails e s t = other_edition e (sym s ∙ not-true r (by_verdict t refl))

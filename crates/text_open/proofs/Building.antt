-- The ledger of a text, built from its lines in one pass; and what opening answers.
use mathlib.Core.Path.{◌≡◌, refl, sym, ap, subst, ◌∙◌}
use mathlib.Core.List.{List, []}
use mathlib.Core.Option.{Option, none, some}
use mathlib.Core.Bool.{Bool, true, false}
use Prim.Native.Nat.{ℕ, ◌≤◌}
use native.Mathlib.Omega.{arith}
use lib.Dec.{eqb}
use lib.ListN.{length}
use Rattle.std.specs.Bool.{then_some as some_if}
use Rattle.logic.specs.Choice.{pick}
use Rattle.request.specs.Text.{and_then}
use Rattle.request.specs.Request.{Line}
use Rattle.request.specs.Read.{formula_line}
use Rattle.ledger.specs.declared.Answer.{Answer}
use Rattle.ledger.specs.declared.Answer.TheVariants.{Accepted, Refused}
use Rattle.ledger.specs.declared.Credential.{Credential}
use Rattle.ledger.specs.Ledger.{Ledger, empty}
use Rattle.ledger.specs.Checks.{Refusal, ◌if◌, first, any_of}
use Rattle.ledger.specs.Calls.{Reply, reply, told}
use Rattle.ledger.specs.Statements.{IsAccepted}
use Rattle.ledger.proofs.Answers.{some_none, some_inj}
use Rattle.snapshot.specs.declared.Title.{Title}
use Rattle.snapshot.specs.Snapshot.{credential_line, longest_text, lines_only, bad_lines, bad_credential, unruly}
use Rattle.snapshot.specs.declared.Edition.{Edition}
use Rattle.snapshot.specs.Snapshot.{own_edition, same_edition, as_written, snapshot_of, rising, open_checks}
use Rattle.snapshot.specs.Reopen.{settle, reopen}
use Rattle.snapshot.proofs.Reopen.{open_answers}
use Rattle.snapshot.proofs.Texts.{read_in_form, read_written, longest_text_holds}
use Rattle.read_fields.proofs.Then.{then_then, then_same, then_none, then_some, then_no, by_test}
use Rattle.read_rest.specs.LinesRead.{read_lines, all_lines}
use Rattle.store.specs.Store.{ledger_of, Good, StandsFor}
use Rattle.store_credentials.specs.NextSerial.{with_next}
use Rattle.call_checks.specs.declared.Verdict.{Verdict}
use Rattle.call_checks.specs.declared.Verdict.TheVariants.{Passed, Failed}
use Rattle.text_read.specs.TextForm.{Fails50, Titled, FormIs}
use Rattle.text_read.proofs.TextForms.{ledger_from, saved_from, snapshot_is}
use Rattle.text_open.specs.Opened.{lines_added, LinesAsked, credentials_added, LiveAsked, sound, passing, RefusalIs}
use Rattle.text_open.specs.Opened.{Built, Opened}
use Rattle.text_open.proofs.Taking.{taken_lines}
use Rattle.text_open.proofs.Giving.{both_none, live_found, given_live}

-- what a test picks is there, or not
picked : {A : Type 0} (b : Bool) {x y : A} → pick b none (some x) ≡ some y → (b ≡ false) × (x ≡ y)
picked true e = absurd (some_none (sym e))
picked false e = (refl, some_inj e)

unpicked : {A : Type 0} (b : Bool) (x : A) → pick b none (some x) ≡ none → b ≡ true
unpicked true x e = refl
unpicked false x e = absurd (some_none e)

-- a ledger that is not sound, by each test
unsound_rising : (t : Ledger) → rising 0 t.live ≡ false → sound t ≡ none
unfolding sound
unsound_rising t e = rw e

unsound_unruly : (t : Ledger) → unruly t ≡ true → sound t ≡ none
unfolding sound
unsound_unruly t e = rw e (both_none (rising 0 t.live))

record Sound (t u : Ledger) : Type 0 where
  rises : rising 0 t.live ≡ true
  rules : unruly t ≡ false
  same : t ≡ u

is_sound : (t u : Ledger) → sound t ≡ some u → Sound t u
unfolding sound
is_sound t u e = by_test (rising 0 t.live)
    (λ r. let z : pick (unruly t) none (some t) ≡ some u = rw r at e in
    let p = picked (unruly t) z in
    record { rises = r; rules = p.0; same = p.1 })
    (λ r. let z : ◌≡◌ {A = Option Ledger} none (some u) = rw r at e in absurd (some_none (sym z)))

-- in whatever edition
abbrev sound_in : Edition × Ledger → Option Ledger
sound_in s = and_then (as_written s) sound

unsound_in : (e : Edition) (t : Ledger) → sound t ≡ none → sound_in (e, t) ≡ none
unfolding as_written and_then
unsound_in e t z = by_test (same_edition e (own_edition t)) (λ s. rw s z) (λ s. rw s)

-- 50 and nothing else
pub not_passing : (b : List ℕ) → Fails50 b → none ≡ passing b
unfolding passing sound open_checks first ◌if◌ and_then
not_passing b e = go (snapshot_of b) refl
  where
    go : (o : Option Ledger) → snapshot_of b ≡ o → none ≡ passing b
    go none q = rw q
    go (some t) q = by_test (rising 0 t.live)
        (λ r. by_test (unruly t)
        (λ u. rw (q, r, u))
        (λ u. let z : ◌≡◌ {A = Option Refusal} none (some (record { number = 50; step = 0 })) = rw (q, r, u) at e in
        absurd (some_none (sym z))))
        (λ r. rw (q, r))

-- what is found of the formula lines
abbrev lines_found : List Line × List ℕ → Option (Ledger × List ℕ)
lines_found p = pick (bad_lines [] p.0) none (some (lines_only p.0, p.1))

module _ {b body : List ℕ} {h : Title} (f : Titled b h body) where
  pub lines_asked : {l : List ℕ} → StandsFor l empty → LinesAsked l h.lines
  lines_asked s = record {
    good = s.good;
    room = rw s.ledger (omega (arith, f.range.lines.most));
  }

  -- line by line
  passing_is : passing b ≡ and_then (read_lines h.lines formula_line body) (λ p.
      and_then (all_lines h.live credential_line p.1) (λ cs. sound_in (saved_from h p.0 cs)))
  unfolding passing and_then
  passing_is =
      ap (λ (o : Option Ledger). and_then o sound) (snapshot_is b ∙ then_some _ f.reads)
      ∙ then_then (read_lines h.lines formula_line body) _ sound
      ∙ then_same (read_lines h.lines formula_line body) (λ p.
      then_then (all_lines h.live credential_line p.1) _ sound)

  lines_are : {l : List ℕ} → StandsFor l empty
      → lines_added (ledger_of l) h.lines body
      ≡ and_then (read_lines h.lines formula_line body) lines_found
  lines_are s = rw s.ledger (taken_lines h.lines [] body)

  pub lines_bad : {l : List ℕ} → StandsFor l empty → lines_added (ledger_of l) h.lines body ≡ none
      → none ≡ passing b
  unfolding and_then unruly
  lines_bad s e = go (read_lines h.lines formula_line body) refl (sym (lines_are s) ∙ e)
    where
      go : (o : Option (List Line × List ℕ)) → read_lines h.lines formula_line body ≡ o
          → and_then o lines_found ≡ none → none ≡ passing b
      go none q z = sym (passing_is ∙ then_no _ q)
      go (some p) q z =
          sym (passing_is ∙ then_some _ q ∙ then_none (all_lines h.live credential_line p.1) (λ cs.
          unsound_in h.edition (ledger_from h p.0 cs)
          (unsound_unruly (ledger_from h p.0 cs) (rw (unpicked (bad_lines [] p.0) _ z)))))

  -- the lines that were read, where none is bad
  record LinesRead (m tail : List ℕ) : Type 0 where
    lines : List Line
    read : read_lines h.lines formula_line body ≡ some (lines, tail)
    rules : bad_lines [] lines ≡ false
    ledger : ledger_of m ≡ lines_only lines

  lines_read : {l m : List ℕ} (tail : List ℕ) → StandsFor l empty
      → lines_added (ledger_of l) h.lines body ≡ some (ledger_of m, tail) → LinesRead m tail
  unfolding and_then
  lines_read {l} {m} tail s e = go (read_lines h.lines formula_line body) refl (sym (lines_are s) ∙ e)
    where
      go : (o : Option (List Line × List ℕ)) → read_lines h.lines formula_line body ≡ o
          → and_then o lines_found ≡ some (ledger_of m, tail) → LinesRead m tail
      go none q z = absurd (some_none (sym z))
      go (some p) q z =
          let x = picked (bad_lines [] p.0) z in
          record {
            lines = p.0;
            read = q ∙ ap (λ (c : List ℕ). some (p.0, c)) (ap (λ (y : Ledger × List ℕ). y.1) x.1);
            rules = x.0;
            ledger = sym (ap (λ (y : Ledger × List ℕ). y.0) x.1);
          }

  module _ {l m : List ℕ} (tail : List ℕ) (s : StandsFor l empty) (g : Good m)
      (e : lines_added (ledger_of l) h.lines body ≡ some (ledger_of m, tail)) where
    r : LinesRead m tail
    r = lines_read tail s e

    pub live_asked : LiveAsked m h.live h.next
    live_asked = record {
      raisable = record { good = g; above = rw r.ledger f.range.next.least; most = f.range.next.most };
      room = rw r.ledger (omega (arith, f.range.live.most));
    }

    whole : List Credential → Ledger
    whole cs = ledger_from h r.lines cs

    passing_on : passing b
        ≡ and_then (all_lines h.live credential_line tail) (λ cs. sound_in (h.edition, whole cs))
    unfolding whole
    passing_on = passing_is ∙ then_some _ r.read

    live_are : and_then (credentials_added h.next (ledger_of m) h.live tail) (λ q.
        some (with_next q.0 h.next, q.1))
        ≡ and_then (read_lines h.live credential_line tail) (live_found h.next 0 (lines_only r.lines))
    live_are = rw r.ledger (given_live h.next h.live 0 (lines_only r.lines) tail refl)

    -- the credentials of lines that were read, with these bytes after them
    all_none : (p : List Credential × List ℕ) → read_lines h.live credential_line tail ≡ some p
        → sound (whole p.0) ≡ none → none ≡ passing b
    unfolding all_lines and_then
    all_none p q z = by_test (eqb (length p.1) 0)
        (λ t. sym (passing_on ∙ rw (all_lines, q, and_then, t) (unsound_in h.edition (whole p.0) z)))
        (λ t. sym (passing_on ∙ rw (all_lines, q, and_then, t)))

    pub live_bad : credentials_added h.next (ledger_of m) h.live tail ≡ none → none ≡ passing b
    unfolding all_lines and_then unruly bad_credential whole
    live_bad n = go (read_lines h.live credential_line tail) refl (sym live_are ∙ then_no _ n)
      where
        go : (o : Option (List Credential × List ℕ)) → read_lines h.live credential_line tail ≡ o
            → and_then o (live_found h.next 0 (lines_only r.lines)) ≡ none → none ≡ passing b
        go none q z = sym (passing_on ∙ rw (all_lines, q, and_then))
        go (some p) q z = by_test (rising 0 p.0)
            (λ t. let y : pick (any_of (bad_credential (whole p.0)) p.0) none (some (whole p.0, p.1)) ≡ none
            = rw t at z in
            let w : any_of (bad_credential (whole p.0)) p.0 ≡ true = unpicked _ _ y in
            all_none p q (unsound_unruly (whole p.0) (rw (r.rules, w))))
            (λ t. all_none p q (unsound_rising (whole p.0) t))

    -- the credentials that were read, where none is bad
    record LiveRead (u : Ledger) (over : List ℕ) : Type 0 where
      live : List Credential
      read : read_lines h.live credential_line tail ≡ some (live, over)
      rises : rising 0 live ≡ true
      rules : any_of (bad_credential (whole live)) live ≡ false
      ledger : whole live ≡ with_next u h.next

    module _ {u : Ledger} (over : List ℕ)
        (v : credentials_added h.next (ledger_of m) h.live tail ≡ some (u, over)) where
      live_read : LiveRead u over
      unfolding and_then bad_credential whole
      live_read = go (read_lines h.live credential_line tail) refl (sym live_are ∙ then_some _ v)
        where
          go : (o : Option (List Credential × List ℕ)) → read_lines h.live credential_line tail ≡ o
              → and_then o (live_found h.next 0 (lines_only r.lines)) ≡ some (with_next u h.next, over)
              → LiveRead u over
          go none q z = absurd (some_none (sym z))
          go (some p) q z = by_test (rising 0 p.0)
              (λ t. let y : pick (any_of (bad_credential (whole p.0)) p.0) none (some (whole p.0, p.1))
              ≡ some (with_next u h.next, over) = rw t at z in
              let x = picked (any_of (bad_credential (whole p.0)) p.0) y in
              record {
                live = p.0;
                read = q ∙ ap (λ (c : List ℕ). some (p.0, c)) (ap (λ (y : Ledger × List ℕ). y.1) x.1);
                rises = t;
                rules = x.0;
                ledger = ap (λ (y : Ledger × List ℕ). y.0) x.1;
              })
              (λ t. let y : ◌≡◌ {A = Option (Ledger × List ℕ)} none (some (with_next u h.next, over))
              = rw t at z in
              absurd (some_none (sym y)))

      pub left_over : eqb (length over) 0 ≡ false → none ≡ passing b
      unfolding all_lines and_then
      left_over n = sym (passing_on ∙ rw (all_lines, live_read.read, and_then, n))

      module _ {k : List ℕ} (n : eqb (length over) 0 ≡ true) (w : StandsFor k (with_next u h.next)) where
        is_whole : ledger_of k ≡ whole live_read.live
        is_whole = w.ledger ∙ sym live_read.ledger

        module _ {d : Edition} (own : d ≡ own_edition (ledger_of k)) where
          is_own : d ≡ own_edition (whole live_read.live)
          is_own = own ∙ ap own_edition is_whole

          pub built : true ≡ same_edition h.edition d → some (ledger_of k) ≡ passing b
          unfolding all_lines and_then as_written sound unruly whole
          built s =
              let z : same_edition h.edition (own_edition (whole live_read.live)) ≡ true =
              subst (λ (x : Edition). same_edition h.edition x ≡ true) is_own (sym s) in
              sym (passing_on ∙ rw (
                all_lines,
                live_read.read,
                and_then,
                n,
                z,
                live_read.rises,
                r.rules,
                live_read.rules,
              ) (ap some (sym is_whole)))

          pub other_edition : false ≡ same_edition h.edition d → none ≡ passing b
          unfolding all_lines and_then as_written whole
          other_edition s =
              let z : same_edition h.edition (own_edition (whole live_read.live)) ≡ false =
              subst (λ (x : Edition). same_edition h.edition x ≡ false) is_own (sym s) in
              sym (passing_on ∙ rw (all_lines, live_read.read, and_then, n, z))

-- by whether the text's edition is its own
pub built_by : (b l : List ℕ) (r : Bool) → (true ≡ r → some (ledger_of l) ≡ passing b)
    → (false ≡ r → none ≡ passing b) → Good l → Built b l (some_if r tt)
built_by b l true f g w = (sym (f refl), w)
built_by b l false f g w = sym (g refl)

-- Opening

pub opened_refused : (l b : List ℕ) {a : Answer} → RefusalIs b a → Opened l b a l
unfolding reopen settle
opened_refused l b r =
    let f = r.refusal in
    let z : reopen (ledger_of l) b ≡ reply (Refused f.number f.step) (ledger_of l) =
    ap (λ (x : Option Refusal). settle (ledger_of l) (length b) x (snapshot_of b)) r.fails in
    record {
      answer = r.answer ∙ sym (ap (λ (d : Reply). told d.answer) z);
      ledger = sym (ap (λ (d : Reply). d.ledger) z);
      good = λ h. absurd (subst IsAccepted r.answer h);
      same = λ n k q. refl;
    }

refusal_is : {b : List ℕ} (n : ℕ) → first (open_checks b) ≡ some (record { number = n; step = 0 })
    → RefusalIs b (Refused n 0)
refusal_is n e = record { refusal = record { number = n; step = 0 }; fails = e; answer = refl }

-- 50, by the verdict of the form; and a text in its form that does not pass
module _ {b : List ℕ} {v : Verdict} (form : FormIs b v) where
  pub fails_50 : v ≡ Failed → RefusalIs b (Refused 50 0)
  fails_50 e = refusal_is 50 (subst (FormIs b) e form)

  pub fails_51 : v ≡ Passed → passing b ≡ none → RefusalIs b (Refused 51 0)
  unfolding passing sound open_checks first ◌if◌ and_then
  fails_51 g e =
      let f = subst (FormIs b) g form in
      let z : pick (unruly f.ledger) none (some f.ledger) ≡ none = rw (f.reads, f.rises) at e in
      refusal_is 51 (rw (f.reads, f.rises, unpicked (unruly f.ledger) _ z))

-- what passes
record Passing (b : List ℕ) (t : Ledger) : Type 0 where
  reads : snapshot_of b ≡ some t
  checks : first (open_checks b) ≡ none

passes : (b : List ℕ) {t : Ledger} → passing b ≡ some t → Passing b t
unfolding passing open_checks first ◌if◌ and_then
passes b {t} e = go (snapshot_of b) refl
  where
    go : (o : Option Ledger) → snapshot_of b ≡ o → Passing b t
    go none q = let z : ◌≡◌ {A = Option Ledger} none (some t) = rw q at e in absurd (some_none (sym z))
    go (some u) q =
        let x = is_sound u t (rw q at e) in
        record { reads = q ∙ ap some x.same; checks = rw (q, x.rises, x.rules) }

module _ (b : List ℕ) {t : Ledger} (e : passing b ≡ some t) where
  pub text_short : length b ≤ longest_text
  text_short =
      let r = (passes b e).reads in
      omega (arith, longest_text_holds t (read_in_form b t r), ap length (read_written b t r))

pub opened : (l b m : List ℕ) → passing b ≡ some (ledger_of m) → Good m → Opened l b (Accepted (length b)) m
opened l b m e g =
    let x = passes b e in
    let z = (open_answers (ledger_of l) b).answers (ledger_of m) (record { reads = x.reads; passes = x.checks }) in
    record {
      answer = sym z.answer;
      ledger = sym z.ledger;
      good = λ y. g;
      same = λ n k q. absurd (subst IsAccepted q tt);
    }

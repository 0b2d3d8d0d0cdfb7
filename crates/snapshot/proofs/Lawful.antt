-- What opening asks is kept by every call: a lawful ledger's text opens as it, and what opens is lawful.
use mathlib.Core.Path.{◌≡◌, refl, sym, ap, subst}
use mathlib.Core.List.{List, [], ◌∷◌}
use mathlib.Core.Option.{Option, none, some}
use mathlib.Core.Bool.{false}
use Prim.Native.Nat.{ℕ, ◌≤◌}
use native.Mathlib.Omega.{arith}
use lib.Dec.{leb}
use lib.ListN.{length, length-append}
use borrow.Author.Tests.{leb-false, lt-leb, not-false}
use Rattle.logic.specs.declared.Interval.{Interval}
use Rattle.logic.specs.Interval.{WellFormed}
use Rattle.logic.specs.Formula.{Formula, unbound}
use Rattle.logic.specs.Multiset.{Every}
use Rattle.logic.proofs.Multisets.{every_out, every_snoc, every_map}
use Rattle.request.specs.declared.Kind.{Kind}
use Rattle.request.specs.declared.Kind.TheVariants.{Linear}
use Rattle.request.specs.Range.{serial, formula_number}
use Rattle.request.specs.InRange.{◌in_range◌, IntervalInRange}
use Rattle.request.specs.Request.{Line, word, issue, withdraw, book, tally, line_intervals, intervals}
use Rattle.request.proofs.Requests.{read_in_range}
use Rattle.ledger.specs.declared.Credential.{Credential}
use Rattle.ledger.specs.Ledger.{Ledger, is_none, held, spend}
use Rattle.ledger.specs.Checks.{◌if◌, first, any_of, unissuable, unissuable_number, word_rules, issue_rules}
use Rattle.ledger.specs.Calls.{with_line, with_live, with_credential, accept}
use Rattle.ledger.specs.Bounds.{Below, Bounded}
use Rattle.ledger.specs.Statements.{Pass}
use Rattle.ledger.proofs.Answers.{if_none, first_passes}
use Rattle.ledger.proofs.Firsts.{pass_first, if_false, not_true, pass_intervals}
use Rattle.ledger.proofs.Credentials.{any_none, none_any, take_out, splits}
use Rattle.ledger.proofs.FormulaTable.{formula_stays}
use Rattle.ledger.proofs.Passed.{passed_word, passed_issue, passed_withdraw, passed_book}
use Rattle.ledger.proofs.Bounds.{accept_bounded, empty_bounded}
use Rattle.ledger.proofs.Walk.{Keeps, walk}
use Rattle.snapshot.specs.Snapshot.{text, credential_rules, fails, bad_lines}
use Rattle.snapshot.specs.Snapshot.{bad_credential, unruly, snapshot_checks, open_checks, Opens}
use Rattle.snapshot.specs.Reached.{Begins, afresh, opened}
use Rattle.snapshot.specs.InForm.{CredentialInRange, InForm, Lawful}
use Rattle.snapshot.specs.Statements.{ReadsBack, WritesBack, LongestText, AlwaysLawful}
use Rattle.snapshot.proofs.Texts.{written_read, read_in_form, read_written, longest_text_holds}
use Rattle.snapshot.proofs.Rules.{or_false, false_or, none_fails, all_pass, rising_decides, bad_snoc}
use Rattle.snapshot.proofs.Rules.{lines_bounded}

lawful_form : (t : Ledger) → Lawful t → InForm t
lawful_form t w = record {
  next = record { least = w.bounded.first; most = w.bounded.last };
  line_count = record { least = omega arith; most = w.bounded.lines };
  live_count = record { least = omega arith; most = w.bounded.live };
  lines = w.lines;
  live = w.live;
}

-- its credentials obey and are below the next serial: none is bad
none_bad : (t : Ledger) (cs : List Credential) → Every (λ c. Pass (credential_rules t c)) cs → Below t.next cs
    → Every (λ c. bad_credential t c ≡ false) cs
unfolding bad_credential
none_bad t [] o b = tt
none_bad t (c ∷ cs) o b = (
  false_or (all_pass (credential_rules t c) o.0) (lt-leb _ _ b.0),
  none_bad t cs o.1 b.1,
)

text_opens : (t : Ledger) → Lawful t → Opens (text t) t
unfolding open_checks unruly
text_opens t w =
    let e = written_read t (lawful_form t w) in
    let p : Pass (snapshot_checks (some t)) = (
      if_false 50 _ (not_true _ ((rising_decides 0 t.live).1 w.bounded.rises)),
      (
        if_false 51 _ (false_or w.ruled
            (none_any (bad_credential t) t.live (none_bad t t.live w.obeys w.bounded.below))),
        tt,
      ),
    ) in
    record {
      reads = e;
      passes = pass_first (open_checks (text t))
          (if_false 50 _ (ap is_none e), subst (λ (x : Option Ledger). Pass (snapshot_checks x)) (sym e) p);
    }

opens_lawful : (b : List ℕ) (t : Ledger) → Opens b t → Lawful t
unfolding open_checks unruly bad_credential
opens_lawful b t o =
    let f = read_in_form b t o.reads in
    let q = subst (λ (x : Option Ledger). Pass (snapshot_checks x)) o.reads
    (first_passes (open_checks b) o.passes).1 in
    let r = or_false (bad_lines [] t.lines) (any_of (bad_credential t) t.live) (if_none 51 _ q.1.0) in
    let cs = every_map (λ c h. or_false (fails (credential_rules t c)) (leb t.next c.serial) h) t.live
    (any_none (bad_credential t) t.live r.1) in
    let ls = lines_bounded [] t.lines empty_bounded r.0 f.line_count.most in
    record {
      bounded = record {
        tabled = record { reads = ls.tabled.reads; refs = ls.tabled.refs };
        rises = (rising_decides 0 t.live).0 (not-false _ (if_none 50 _ q.0));
        below = every_map (λ c h. leb-false _ _ h.1) t.live cs;
        lines = f.line_count.most;
        live = f.live_count.most;
        first = f.next.least;
        last = f.next.most;
        sizes = ls.sizes;
      };
      lines = f.lines;
      live = f.live;
      ruled = r.0;
      obeys = every_map (λ c h. none_fails (credential_rules t c) h.0) t.live cs;
    }

-- Every accepted request keeps a ledger lawful

-- the rules of a credential, with one line more
rules_stay : (t : Ledger) (l : Line) (c : Credential) → Pass (credential_rules t c)
    → Pass (credential_rules (with_line t l) c)
rules_stay t l c (ordered, (unbroken, (present, (bound, (fits, end))))) =
    let there = leb-false (length t.lines) c.formula (if_none 10 _ present) in
    let same = sym (formula_stays t l c.formula there) in (
      ordered,
      (
        unbroken,
        (
          if_false 10 _ (lt-leb _ c.formula (omega (arith, length-append t.lines (l ∷ []), there))),
          (
            subst (λ (a : Formula). (53 if unbound a) ≡ none) same bound,
            (subst (λ (a : Formula). (unissuable_number c.kind if unissuable c.kind a) ≡ none) same fits, tt),
          ),
        ),
      ),
    )

-- one credential more, with the next serial, where the others are cs
new_lawful : (t : Ledger) (cs : List Credential) (k : Kind) (n : ℕ) (i : Interval) → Lawful t
    → Bounded (with_credential (with_live t cs) k n i) → Every CredentialInRange cs
    → Every (λ c. Pass (credential_rules t c)) cs → t.next ≤ serial.last → n in_range formula_number → IntervalInRange i
    → WellFormed i → Pass (issue_rules t k n) → Lawful (with_credential (with_live t cs) k n i)
new_lawful t cs k n i w b r o unused rn ri f p =
    let c : Credential = record { serial = t.next; kind = k; formula = n; interval = i } in
    record {
      bounded = b;
      lines = w.lines;
      live = every_snoc CredentialInRange cs c r
          (record { serial = record { least = w.bounded.first; most = unused }; formula = rn; interval = ri });
      ruled = w.ruled;
      obeys = every_snoc (λ c. Pass (credential_rules t c)) cs c o
          (pass_intervals (i ∷ []) (issue_rules t k n) (f, tt) p);
    }

accept_lawful : Keeps (λ o a u. u) (λ t (u : Unit {0}). Lawful t)
unfolding accept intervals
accept_lawful t u b (word l) e p w =
    let q = passed_word t l p.rest in
    record {
      bounded = accept_bounded t (word l) p.rest w.bounded;
      lines = every_snoc _ t.lines l w.lines (read_in_range b (word l) e);
      live = w.live;
      ruled = bad_snoc [] t.lines l w.ruled
          (pass_intervals (line_intervals l) (word_rules t l) p.formed q.rules);
      obeys = every_map (rules_stay t l) t.live w.obeys;
    }
accept_lawful t u b (issue k n i) e p w =
    let r = read_in_range b (issue k n i) e in
    let q = passed_issue t k n i p.rest in
    new_lawful t t.live k n i w (accept_bounded t (issue k n i) p.rest w.bounded) w.live w.obeys
    q.unused r.formula r.interval p.formed.0 q.rules
accept_lawful t u b (withdraw n) e p w =
    let i = (take_out t.live n (passed_withdraw t n p.rest).found).1 in
    record {
      bounded = accept_bounded t (withdraw n) p.rest w.bounded;
      lines = w.lines;
      live = (every_out _ i w.live).1;
      ruled = w.ruled;
      obeys = (every_out _ i w.obeys).1;
    }
accept_lawful t u b (book x) e p w =
    let r = read_in_range b (book x) e in
    let q = passed_book t x p.rest in
    new_lawful t (spend t.live (held t.live x.holds)) Linear x.formula x.interval w
    (accept_bounded t (book x) p.rest w.bounded)
    (splits CredentialInRange t x.holds q.alive q.apart w.live).stay
    (splits (λ c. Pass (credential_rules t c)) t x.holds q.alive q.apart w.obeys).stay
    q.unused r.formula r.interval p.formed.0 q.rules
accept_lawful t u b (tally s m) e p w = w

pub begins_lawful : {t : Ledger} → Begins t → Lawful t
unfolding bad_lines
begins_lawful afresh = record { bounded = empty_bounded; lines = tt; live = tt; ruled = refl; obeys = tt }
begins_lawful (opened {b = b} {t = t} o) = opens_lawful b t o

pub lawful : AlwaysLawful
lawful t r =
    subst Lawful r.gives
    (walk (λ o a u. u) (λ t (u : Unit {0}). Lawful t) (λ o n k u. refl) accept_lawful r.start tt r.calls
    (begins_lawful r.begins))

pub reads_back : ReadsBack
reads_back t r = text_opens t (lawful t r)

pub writes_back : WritesBack
writes_back b t o = read_written b t o.reads

pub text_longest : LongestText
text_longest t r = longest_text_holds t (lawful_form t (lawful t r))

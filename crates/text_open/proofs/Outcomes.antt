-- What word and issue found, by their answer.
use mathlib.Core.Path.{◌≡◌, refl, sym, ap, subst, ◌∙◌}
use mathlib.Core.List.{List}
use mathlib.Core.Option.{Option, none, some}
use mathlib.Core.Bool.{Bool, true, false, ◌||◌, not}
use Prim.Native.Nat.{ℕ, ◌≤◌, ◌<◌}
use native.Mathlib.Omega.{arith}
use lib.ListN.{length}
use lib.Dec.{ltb}
use borrow.Author.Tests.{le-leb, lt-leb, lt-ltb, le-ltb}
use Rattle.std.specs.Prelude.{Option as Read, Some, None}
use Rattle.request.specs.Range.{serial}
use Rattle.request.specs.Request.{Line, Request, word, issue}
use Rattle.ledger.specs.declared.Credential.{Credential}
use Rattle.ledger.specs.declared.Answer.{Answer}
use Rattle.ledger.specs.Ledger.{Ledger, is_none}
use Rattle.ledger.specs.Checks.{Refusal, first, read_checks, max_formulas, max_live}
use Rattle.ledger.specs.Calls.{Reply, told, accept}
use Rattle.ledger.specs.Statements.{IsAccepted}
use Rattle.ledger.proofs.Answers.{accept_accepts}
use Rattle.ledger.proofs.Firsts.{handle_fails, handle_passes}
use Rattle.snapshot.specs.Snapshot.{line_rules, credential_rules, fails, bad_credential}
use Rattle.snapshot.proofs.Rules.{rules_agree}
use Rattle.store.specs.Store.{ledger_of, Good, StandsFor}
use Rattle.store_credentials.specs.NextSerial.{with_next, Raisable}
use Rattle.call_contracts.specs.Called.{Handled}
use Rattle.text_open.specs.Opened.{AcceptedIs, left_of, line_added, CredentialAsked, credential_added}

-- no check of the request fails, and it is done; or one fails
abbrev Found : Ledger → Request → List ℕ → Read (Unit {0}) → Type 0
Found t q l (Some u) = (first (read_checks t (some q)) ≡ none) × (ledger_of l ≡ (accept t q).ledger)
Found t q l None = (is_none (first (read_checks t (some q))) ≡ false) × (ledger_of l ≡ t)

found : {l l' : List ℕ} {q : Request} {a : Answer} (r : Read (Unit {0})) → Handled l q a l' → AcceptedIs a r
    → Found (ledger_of l) q l' r
found {l} {l'} {q} {a} r h p = go r p (first (read_checks (ledger_of l) (some q))) refl
  where
    go : (r : Read (Unit {0})) → AcceptedIs a r → (o : Option Refusal) → first (read_checks (ledger_of l) (some q)) ≡ o
        → Found (ledger_of l) q l' r
    go (Some u) p none e = (e, h.ledger ∙ ap (λ (d : Reply). d.ledger) (handle_passes (ledger_of l) q e))
    go (Some u) p (some f) e =
        let z = ap (λ (d : Reply). told d.answer) (handle_fails (ledger_of l) q e) in
        absurd (subst IsAccepted (h.answer ∙ z) p)
    go None p none e =
        let z = ap (λ (d : Reply). told d.answer) (handle_passes (ledger_of l) q e) in
        absurd (p (subst IsAccepted (sym (h.answer ∙ z)) (accept_accepts (ledger_of l) q)))
    go None p (some f) e =
        (ap is_none e, h.ledger ∙ ap (λ (d : Reply). d.ledger) (handle_fails (ledger_of l) q e))

-- A line

module _ (t : Ledger) (x : Line) (room : length t.lines < max_formulas) where
  line_agrees : fails (line_rules t x) ≡ not (is_none (first (read_checks t (some (word x)))))
  line_agrees = ap (λ (o : Option Refusal). not (is_none o)) ((rules_agree t).word x room)

  line_found : (l : List ℕ) (r : Read (Unit {0})) → Found t (word x) l r → left_of l r ≡ line_added t x
  unfolding accept line_added
  line_found l (Some u) f = rw (line_agrees, f.0, f.1)
  line_found l None f = rw (line_agrees, f.0)

pub line_taken : {l l' : List ℕ} {x : Line} {a : Answer} (r : Read (Unit {0}))
    → length (ledger_of l).lines < max_formulas
    → Handled l (word x) a l' → AcceptedIs a r → (left_of l' r ≡ line_added (ledger_of l) x) × Good l'
line_taken r room h p = (line_found _ _ room _ r (found r h p), h.good)

-- A credential

or_true : (x : Bool) → (x || true) ≡ true
or_true true = refl
or_true false = refl

or_none : (x : Bool) → (x || false) ≡ x
or_none true = refl
or_none false = refl

pub not_rising : (t : Ledger) (c : Credential) (n : ℕ) → c.serial < t.next → none ≡ credential_added n t c
unfolding credential_added
not_rising t c n h = rw (lt-ltb _ _ h)

pub not_below : (t : Ledger) (c : Credential) (n : ℕ) → n ≤ c.serial → none ≡ credential_added n t c
unfolding bad_credential credential_added
not_below t c n h = rw (le-leb _ _ h, or_true (fails (credential_rules t c)), or_true (ltb c.serial t.next))

pub serial_raisable : {l : List ℕ} {c : Credential} {n : ℕ} → CredentialAsked l c n → (ledger_of l).next ≤ c.serial
    → Raisable l c.serial
serial_raisable q h = record { good = q.raisable.good; above = h; most = omega (arith, q.most) }

-- the issue of a credential, at the ledger whose next serial is its own
abbrev issue_of : Credential → Request
issue_of c = issue c.kind c.formula c.interval

module _ (t : Ledger) (c : Credential) (n : ℕ) (room : length t.live < max_live) (most : c.serial ≤ serial.last)
    (rise : t.next ≤ c.serial) (below : c.serial < n) where
  credential_agrees : bad_credential (with_next t n) c
      ≡ not (is_none (first (read_checks (with_next t c.serial) (some (issue_of c)))))
  unfolding bad_credential
  credential_agrees =
      rw (lt-leb _ _ below) (or_none _
      ∙ ap (λ (o : Option Refusal). not (is_none o)) ((rules_agree (with_next t c.serial)).issue c room most))

  credential_found : (l : List ℕ) (r : Read (Unit {0})) → Found (with_next t c.serial) (issue_of c) l r
      → left_of l r ≡ credential_added n t c
  unfolding accept credential_added
  credential_found l (Some u) f = rw (le-ltb _ _ rise, credential_agrees, f.0, f.1)
  credential_found l None f = rw (le-ltb _ _ rise, credential_agrees, f.0)

  -- its serial is the last given, or is to be given
  next_found : (l : List ℕ) (r : Read (Unit {0})) → Found (with_next t c.serial) (issue_of c) l r
      → (ledger_of l).next ≤ n
  unfolding accept
  next_found l (Some u) f = rw f.1 (omega (arith, below))
  next_found l None f = rw f.1 (omega (arith, below))

pub credential_taken : {l m l' : List ℕ} (c : Credential) (n : ℕ) {a : Answer} (r : Read (Unit {0}))
    → CredentialAsked l c n → (ledger_of l).next ≤ c.serial → c.serial < n
    → StandsFor m (with_next (ledger_of l) c.serial)
    → Handled m (issue c.kind c.formula c.interval) a l' → AcceptedIs a r
    → (left_of l' r ≡ credential_added n (ledger_of l) c) × Raisable l' n
credential_taken {l} {m} {l'} c n r q rise below s h p =
    let f = subst (λ (t : Ledger). Found t (issue_of c) l' r) s.ledger (found r h p) in (
      credential_found (ledger_of l) c n q.room q.most rise below l' r f,
      record {
        good = h.good;
        above = next_found (ledger_of l) c n q.room q.most rise below l' r f;
        most = q.raisable.most;
      },
    )

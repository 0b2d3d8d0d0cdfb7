-- Credential lines of a text, taken one by one.
use mathlib.Core.Path.{◌≡◌, refl, sym, ap, ◌∙◌}
use mathlib.Core.List.{List, [], ◌∷◌, ◌++◌, append_assoc, append-nil}
use mathlib.Core.Option.{Option, none, some}
use mathlib.Core.Bool.{Bool, true, false, ◌||◌}
use Prim.Native.Nat.{ℕ, zero, suc, ◌+◌, ◌-◌, ◌≤◌, ◌<◌}
use native.Mathlib.Omega.{arith}
use lib.Dec.{ltb}
use lib.ListN.{length, length-append}
use borrow.Author.Tests.{ltb-true, ltb-false, lt-ltb, le-ltb}
use Rattle.logic.specs.Choice.{pick}
use Rattle.request.specs.Text.{and_then}
use Rattle.ledger.specs.declared.Credential.{Credential}
use Rattle.ledger.specs.Ledger.{Ledger}
use Rattle.ledger.specs.Checks.{any_of}
use Rattle.ledger.specs.Calls.{with_live}
use Rattle.ledger.proofs.Answers.{some_none, some_inj}
use Rattle.snapshot.specs.Snapshot.{credential_line, rising, bad_credential}
use Rattle.read_formulas.specs.Line.{read_line}
use Rattle.read_fields.proofs.Then.{then_then, then_same, then_none, then_pair, by_test}
use Rattle.read_rest.specs.LinesRead.{read_lines}
use Rattle.store.specs.Store.{ledger_of}
use Rattle.store_credentials.specs.NextSerial.{with_next, Raisable}
use Rattle.text_read.proofs.TextLines.{credential_range}
use Rattle.text_open.specs.Opened.{with_given, credential_added, credentials_added, CredentialAsked, LiveAsked}

-- a credential that was added
more_live : (n : ℕ) (t u : Ledger) (c : Credential) → credential_added n t c ≡ some u
    → length u.live ≡ length t.live + 1
unfolding credential_added
more_live n t u c e = by_test (ltb c.serial t.next || bad_credential (with_next t n) c)
    (λ b. let z : ◌≡◌ {A = Option Ledger} none (some u) = rw b at e in absurd (some_none (sym z)))
    (λ b. let z : ◌≡◌ {A = Option Ledger} (some (with_given t c)) (some u) = rw b at e in
    ap (λ (v : Ledger). length v.live) (sym (some_inj z)) ∙ length-append t.live (c ∷ []))

-- k of count lines have been taken, and the bytes of b are left
pub record Giving (o : Option (Ledger × List ℕ)) (count n : ℕ) (l b : List ℕ) (k : ℕ) : Type 0 where
  pub asked : LiveAsked l (count - k) n
  pub takes : o ≡ credentials_added n (ledger_of l) (count - k) b

pub give_start : {l : List ℕ} {count n : ℕ} (b : List ℕ) → LiveAsked l count n
    → Giving (credentials_added n (ledger_of l) count b) count n l b 0
give_start {count} b a = let q : count - 0 ≡ count = omega arith in record { asked = rw q a; takes = rw q }

module _ {o : Option (Ledger × List ℕ)} {count n : ℕ} {l b : List ℕ} {k : ℕ} (h : Giving o count n l b k) where
  pub give_end : count ≤ k → some (ledger_of l, b) ≡ o
  unfolding credentials_added
  give_end m = let q : count - k ≡ 0 = omega arith in sym (h.takes ∙ rw q)

  module _ (more : k < count) where
    left : count - k ≡ suc (count - (k + 1))
    left = omega arith

    pub no_credential : read_line credential_line b ≡ none → none ≡ o
    unfolding credentials_added and_then
    no_credential e = sym (h.takes ∙ rw (left, credentials_added, e, and_then))

    module _ (x : Credential) {c : List ℕ} (e : read_line credential_line b ≡ some (x, c)) where
      pub bad_credential_holds : credential_added n (ledger_of l) x ≡ none → none ≡ o
      unfolding credentials_added and_then
      bad_credential_holds f = sym (h.takes ∙ rw (left, credentials_added, e, and_then, f))

      pub credential_asked : CredentialAsked l x n
      credential_asked = record {
        raisable = h.asked.raisable;
        most = (credential_range b e).serial.most;
        room = omega (arith, h.asked.room, left);
      }

      pub give_next : {m : List ℕ} → credential_added n (ledger_of l) x ≡ some (ledger_of m) → Raisable m n
          → Giving o count n m c (k + 1)
      unfolding credentials_added and_then
      give_next {m} f g = record {
        asked = record {
          raisable = g;
          room = omega (arith, more_live n (ledger_of l) (ledger_of m) x f, h.asked.room, left);
        };
        takes = h.takes ∙ rw (left, credentials_added, e, and_then, f);
      }

-- none, whatever is found
pub both_none : {A : Type 0} (b : Bool) → pick {A = Option A} b none none ≡ none
both_none true = refl
both_none false = refl

-- what is found of all together, where serials rise above lo, once the next serial is the text's
abbrev pub live_found : ℕ → ℕ → Ledger → List Credential × List ℕ → Option (Ledger × List ℕ)
live_found n lo t p =
    pick (rising lo p.0) (pick (any_of (bad_credential (with_next t n)) p.0) none
    (some (with_next (with_live t (t.live ++ p.0)) n, p.1))) none

pub given_live : (n k lo : ℕ) (t : Ledger) (b : List ℕ) → t.next ≡ lo + 1
    → and_then (credentials_added n t k b) (λ q. some (with_next q.0 n, q.1))
    ≡ and_then (read_lines k credential_line b) (live_found n lo t)
unfolding credentials_added credential_added read_lines rising any_of bad_credential and_then
given_live n zero lo t b h =
    ap (λ (cs : List Credential). some (with_next (with_live t cs) n, b)) (sym (append-nil t.live))
given_live n (suc k) lo t b h =
    then_then (read_line credential_line b) _ _
    ∙ then_same (read_line credential_line b) (λ p. by_test (ltb lo p.0.serial)
    (λ r. let s = le-ltb p.0.serial t.next (omega (arith, h, ltb-true lo p.0.serial r)) in
    by_test (bad_credential (with_next t n) p.0)
    (λ e. rw (r, s, e) (sym (then_none (read_lines k credential_line p.1) (λ q. both_none (rising _ q.0)))))
    (λ e. rw (r, s, e) (given_live n k p.0.serial (with_given t p.0) p.1 refl
    ∙ then_same (read_lines k credential_line p.1) (λ q.
    ap (λ (cs : List Credential). pick (rising p.0.serial q.0)
    (pick (any_of (bad_credential (with_next t n)) q.0) none
    (some (with_next (with_live t cs) n, q.1))) none) (append_assoc t.live (p.0 ∷ []) q.0)))))
    (λ r. let s = lt-ltb p.0.serial t.next (omega (arith, h, ltb-false lo p.0.serial r)) in
    rw (r, s) (sym (then_none (read_lines k credential_line p.1) (λ q. refl)))))
    ∙ sym (then_pair (read_line credential_line b) (λ p. read_lines k credential_line p.1) (λ p q. (p.0 ∷ q.0, q.1))
    (live_found n lo t))

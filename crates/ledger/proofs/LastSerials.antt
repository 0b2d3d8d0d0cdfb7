-- The last serials: the sessions by computation, and calls that lead there, which issue and withdraw a credential for
-- each serial before, and then issue those that are live.
use mathlib.Core.Path.{◌≡◌, refl, sym, ap, ap₂, ◌∙◌}
use mathlib.Core.List.{List, [], ◌∷◌, ◌++◌, append-nil, append_assoc}
use mathlib.Core.Option.{none, some}
use mathlib.Core.Bool.{false}
use Prim.Native.Nat.{ℕ, zero, suc, ◌+◌, ◌-◌, ◌≤◌, ◌<◌}
use native.Mathlib.Omega.{arith}
use borrow.Author.Tests.{le-ltb, lt-leb, eq-eqb}
use lib.ListN.{length, length-append}
use Rattle.logic.specs.Interval.{span}
use Rattle.request.specs.declared.Kind.{Kind}
use Rattle.request.specs.declared.Kind.TheVariants.{Linear, Unrestricted}
use Rattle.request.specs.Range.{serial}
use Rattle.request.specs.Request.{Line, Request, issue, withdraw, intervals}
use Rattle.request.specs.InRange.{InRange}
use Rattle.request.specs.Write.{write}
use Rattle.request.specs.Text.{bytes}
use Rattle.request.proofs.Requests.{write_read, write_short}
use Rattle.ledger.specs.declared.Credential.{Credential}
use Rattle.ledger.specs.Ledger.{Ledger, empty, is_none, find, without_serial}
use Rattle.ledger.specs.Checks.{any_of, ◌if◌, first, max_live, checks, read_checks}
use Rattle.ledger.specs.Calls.{Reply, with_live, accept, call, after}
use Rattle.ledger.specs.Cases.{AnsweredFrom}
use Rattle.ledger.specs.LastSerials.{idle, IdleGiven, coupon, crowd, CrowdGiven, LastSerialsPlay}
use Rattle.ledger.proofs.Firsts.{handle_passes, call_read}
use Rattle.ledger.proofs.Compute.{played}

-- a request that is written and passes does what is accepted
call_written : (t : Ledger) (r : Request) → InRange r → first (read_checks t (some r)) ≡ none
    → call t (write r) ≡ accept t r
call_written t r h p = call_read t (write r) r (write_short r h) (write_read r h) ∙ handle_passes t r p

-- a sheet that issues one of the atom's
abbrev issued : Kind → Request
issued k = issue k 0 (span 0 9 0 0)

issued_in_range : (k : Kind) → InRange (issued k)
issued_in_range k = record {
  formula = record { least = omega arith; most = omega arith };
  interval = record {
    from = record { least = omega arith; most = omega arith };
    to = record { least = omega arith; most = omega arith };
    first = record { least = omega arith; most = omega arith };
    last = record { least = omega arith; most = omega arith };
  };
}

-- one free atom, these credentials live, n the next serial
abbrev having : List Credential → ℕ → Ledger
having l n = record { lines = Line.atom 9 7 ∷ []; live = l; next = n }

-- there is room for one more
more : (k : Kind) (l : List Credential) (n : ℕ) → length l < max_live → n ≤ serial.last
    → (call (having l n) (write (issued k))).ledger ≡ having (l ++ (coupon k n ∷ [])) (n + 1)
unfolding played
more Linear l n r h =
    ap (λ (d : Reply). d.ledger)
    (call_written (having l n) (issued Linear) (issued_in_range Linear)
    (rw (lt-leb max_live (length l - 0) (omega arith), le-ltb serial.last n h, ◌if◌)))
more Unrestricted l n r h =
    ap (λ (d : Reply). d.ledger)
    (call_written (having l n) (issued Unrestricted) (issued_in_range Unrestricted)
    (rw (lt-leb max_live (length l - 0) (omega arith), le-ltb serial.last n h, ◌if◌)))

-- issue and withdraw, k times, from serial n on
abbrev rounds : ℕ → ℕ → List (List ℕ)
rounds zero n = []
rounds (suc k) n = write (issued Linear) ∷ write (withdraw n) ∷ rounds k (n + 1)

-- a credential that is the only one is live, and none is left without it
only_there : (c : Credential) → is_none (find (c ∷ []) c.serial) ≡ false
unfolding find
only_there c = rw (eq-eqb c.serial c.serial refl, find)

only_gone : (c : Credential) → without_serial (c ∷ []) c.serial ≡ []
unfolding without_serial
only_gone c = rw (eq-eqb c.serial c.serial refl, without_serial)

round : (n : ℕ) → 1 ≤ n → n ≤ serial.last
    → (call (call (idle n) (write (issued Linear))).ledger (write (withdraw n))).ledger ≡ idle (n + 1)
unfolding accept checks first any_of ◌if◌ intervals
round n h l =
    let t = having (coupon Linear n ∷ []) (n + 1) in
    ap (λ (u : Ledger). (call u (write (withdraw n))).ledger) (more Linear [] n (omega arith) l)
    ∙ ap (λ (d : Reply). d.ledger)
    (call_written t (withdraw n) (record { least = h; most = l }) (rw (only_there (coupon Linear n), ◌if◌)))
    ∙ ap (with_live t) (only_gone (coupon Linear n))

after_rounds : (k n : ℕ) → 1 ≤ n → n + k ≤ serial.last + 1 → after (idle n) (rounds k n) ≡ idle (n + k)
unfolding after
after_rounds zero n h l = ap idle (omega arith)
after_rounds (suc k) n h l =
    ap (λ (t : Ledger). after t (rounds k (n + 1))) (round n h (omega arith))
    ∙ after_rounds k (n + 1) (omega arith) (omega arith)
    ∙ ap idle (omega arith)

pub idle_given : IdleGiven
unfolding played after
idle_given n l =
    (bytes "word,a,9,7\n" ∷ rounds n 1, after_rounds n 1 (omega arith) (omega arith) ∙ ap idle (omega arith))

-- issue k times
abbrev issues : ℕ → List (List ℕ)
issues zero = []
issues (suc k) = write (issued Linear) ∷ issues k

after_issues : (k : ℕ) (l : List Credential) (n : ℕ) → length l + k ≤ max_live → n + k ≤ serial.last + 1
    → after (having l n) (issues k) ≡ having (l ++ crowd k n) (n + k)
unfolding after crowd
after_issues zero l n r h = ap₂ having (sym (append-nil l)) (omega arith)
after_issues (suc k) l n r h =
    let c = coupon Linear n ∷ [] in
    ap (λ (t : Ledger). after t (issues k)) (more Linear l n (omega arith) (omega arith))
    ∙ after_issues k (l ++ c) (n + 1) (omega (arith, length-append l c)) (omega arith)
    ∙ ap₂ having (append_assoc l c (crowd k (n + 1))) (omega arith)

after_append : (t : Ledger) (bs cs : List (List ℕ)) → after t (bs ++ cs) ≡ after (after t bs) cs
unfolding after
after_append t [] cs = refl
after_append t (b ∷ bs) cs = after_append (call t b).ledger bs cs

-- a standing one, then k linear ones
after_all : (k n : ℕ) → 1 + k ≤ max_live → n + (1 + k) ≤ serial.last + 1
    → after (idle n) (write (issued Unrestricted) ∷ issues k)
    ≡ having (coupon Unrestricted n ∷ crowd k (n + 1)) (n + 1 + k)
unfolding after
after_all k n r h =
    ap (λ (t : Ledger). after t (issues k)) (more Unrestricted [] n (omega arith) (omega arith))
    ∙ after_issues k (coupon Unrestricted n ∷ []) (n + 1) r (omega arith)

pub crowd_given : CrowdGiven
crowd_given =
    let i = idle_given 997951 (omega arith) in
    let all = write (issued Unrestricted) ∷ issues 2047 in (
      i.0 ++ all,
      after_append empty i.0 all ∙ ap (λ (t : Ledger). after t all) i.1
          ∙ after_all 2047 997952 (omega arith) (omega arith),
    )

pub last_serials_play : LastSerialsPlay
unfolding played AnsweredFrom crowd
last_serials_play = (refl, refl)

-- What a call answers, by its first failing check; and refusals.
use mathlib.Core.Path.{◌≡◌, refl, sym, ap, subst, ◌∙◌}
use mathlib.Core.Logic.{◌⊎◌, inl, inr}
use mathlib.Core.List.{List, [], ◌∷◌}
use mathlib.Core.Option.{Option, none, some}
use mathlib.Core.Bool.{Bool, true, false}
use Prim.Native.Nat.{ℕ, ◌≤◌, ◌<◌}
use native.Mathlib.Omega.{arith}
use lib.Dec.{ltb}
use lib.ListN.{length}
use borrow.Author.Tests.{ltb-true}
use Rattle.logic.specs.declared.Interval.{Interval}
use Rattle.logic.specs.Multiset.{Every}
use Rattle.logic.proofs.Tests.{no_truth}
use Rattle.logic.proofs.Multisets.{every_map}
use Rattle.request.specs.declared.Kind.TheVariants.{Linear, Unrestricted}
use Rattle.request.specs.Request.{Step, Request, word, issue, withdraw, book, tally}
use Rattle.request.specs.Read.{request_of}
use Rattle.steps.specs.Check.{Outcome, done, stopped, check_of}
use Rattle.steps.proofs.Outcomes.{Sane, check_sane}
use Rattle.ledger.specs.declared.Credential.{Credential}
use Rattle.ledger.specs.declared.Answer.TheVariants.{Refused}
use Rattle.ledger.specs.Ledger.{Ledger, row_for, is_none, held}
use Rattle.ledger.specs.Checks.{Refusal, Check, ◌if◌, first, read_label, write_label, verdict, steps, checks}
use Rattle.ledger.specs.Checks.{read_checks, checks_of}
use Rattle.ledger.specs.Calls.{Reply, Told, ok, told, accept, decide, call}
use Rattle.ledger.specs.Statements.{Pass, IsAccepted, Refusals, RefusalLeaves}

abbrev IsSome : {A : Type 0} → Option A → Type 0
IsSome none = ⊥
IsSome (some a) = Unit {0}

pub some_none : {A : Type 0} {a : A} → some a ≡ none → ⊥
some_none e = subst IsSome e tt

pub some_inj : {A : Type 0} {x y : A} → some x ≡ some y → x ≡ y
some_inj e = cc

-- a check that passes has a test that is false
pub if_none : (n : ℕ) (b : Bool) → (n if b) ≡ none → b ≡ false
unfolding ◌if◌
if_none n true e = absurd (some_none e)
if_none n false e = refl

pub first_passes : (cs : List Check) → first cs ≡ none → Pass cs
unfolding first
first_passes [] e = tt
first_passes (none ∷ cs) e = (refl, first_passes cs e)
first_passes (some r ∷ cs) e = absurd (some_none e)

-- bytes that pass have a form, and what they read as passes
pub record PassedBytes (t : Ledger) (b : List ℕ) : Type 0 where
  pub formed : is_none (request_of b) ≡ false
  pub rest : Pass (read_checks t (request_of b))

pub passed_bytes : (t : Ledger) (b : List ℕ) → Pass (checks_of t b) → PassedBytes t b
unfolding checks_of
passed_bytes t b (short, (formed, rest)) = record { formed = if_none 2 _ formed; rest = rest }

-- What a call does: no check fails only where the bytes read as a request.
pub data Does (t : Ledger) (b : List ℕ) : Type 0 where
  refuses : (f : Refusal) → first (checks_of t b) ≡ some f
      → call t b ≡ record { answer = Refused f.number f.step; ledger = t } → Does t b
  accepts : (r : Request) → request_of b ≡ some r → Pass (checks_of t b) → Pass (read_checks t (some r))
      → call t b ≡ accept t r → Does t b

pub does : (t : Ledger) (b : List ℕ) → Does t b
unfolding call decide
does t b = go (first (checks_of t b)) refl (request_of b) refl
  where
    go : (f : Option Refusal) → first (checks_of t b) ≡ f → (o : Option Request) → request_of b ≡ o → Does t b
    go (some f) e o q = refuses f e (ap (λ (x : Option Refusal). decide t x (request_of b)) e)
    go none e (some r) q =
        let p = first_passes (checks_of t b) e in
        accepts r q p (subst (λ (x : Option Request). Pass (read_checks t x)) q (passed_bytes t b p).rest)
        (ap (λ (x : Option Refusal). decide t x (request_of b)) e ∙ ap (decide t none) q)
    go none e none q =
        absurd (no_truth (sym (passed_bytes t b (first_passes (checks_of t b) e)).formed ∙ ap is_none q))

pub accept_accepts : (t : Ledger) (r : Request) → IsAccepted (told (accept t r).answer)
unfolding accept
accept_accepts t (word l) = tt
accept_accepts t (issue k n i) = tt
accept_accepts t (withdraw n) = tt
accept_accepts t (book b) = tt
accept_accepts t (tally s m) = tt

-- a refusal with its step: from 1 for 40 to 42, else 0
record Stepped (n k : ℕ) : Type 0 where
  early : n < 40 → k ≡ 0
  late : 42 < n → k ≡ 0
  step : 40 ≤ n → n ≤ 42 → 1 ≤ k

abbrev Proper : Check → Type 0
Proper none = Unit {0}
Proper (some f) = Stepped f.number f.step

verdict_proper : {T : Type 0} (total left : ℕ) (o : Outcome T) → Sane total left o → Proper (verdict o)
unfolding verdict
verdict_proper total left (done ss t next) s = tt
verdict_proper total left (stopped c n) s = record {
  early = λ l. absurd (omega (arith, s.low));
  late = λ l. absurd (omega (arith, s.high));
  step = λ l m. s.counted;
}

steps_proper : (t : Ledger) (cs : List Credential) (n : ℕ) (i : Interval) (ss : List Step) → Proper (steps t cs n i ss)
unfolding steps
steps_proper t cs n i ss =
    verdict_proper (length ss) (length ss) (check_of (row_for t) read_label write_label (length ss) ss _ _ _)
    (check_sane (row_for t) read_label write_label (length ss) ss _ _ _ (omega arith))

-- the check of a booking's steps; no other request has one
abbrev pub steps_in : Ledger → Option Request → Check
steps_in t none = none
steps_in t (some (word l)) = none
steps_in t (some (issue k n i)) = none
steps_in t (some (withdraw n)) = none
steps_in t (some (book b)) = steps t (held t.live b.holds) b.formula b.interval b.steps
steps_in t (some (tally s m)) = none

-- a row of the table of checks: s, or a check that answers no step and another number than 40 to 42
abbrev pub Other : Check → Type 0
Other none = Unit {0}
Other (some f) = ((f.number < 40) ⊎ (42 < f.number)) × (f.step ≡ 0)

abbrev pub TableRow : Check → Check → Type 0
TableRow s c = (c ≡ s) ⊎ Other c

itself : (s : Check) → TableRow s s
itself s = inl refl

low : (s : Check) (n : ℕ) (b : Bool) → ltb n 40 ≡ true → TableRow s (n if b)
unfolding ◌if◌
low s n true h = inr (inl (ltb-true n 40 h), refl)
low s n false h = inr tt

high : (s : Check) (n : ℕ) (b : Bool) → ltb 42 n ≡ true → TableRow s (n if b)
unfolding ◌if◌
high s n true h = inr (inr (ltb-true 42 n h), refl)
high s n false h = inr tt

-- every check is such a row, s that of the steps. Which rows there are is not said here: they are found
checks_rows : (t : Ledger) (r : Request) → Every (TableRow (steps_in t (some r))) (checks t r)
unfolding checks
checks_rows t (word l) = search (low, high, itself)
checks_rows t (issue Linear n i) = search (low, high, itself)
checks_rows t (issue Unrestricted n i) = search (low, high, itself)
checks_rows t (withdraw n) = search (low, high, itself)
checks_rows t (book b) = search (low, high, itself)
checks_rows t (tally s m) = tt

read_rows : (t : Ledger) (o : Option Request) → Every (TableRow (steps_in t o)) (read_checks t o)
read_rows t none = tt
read_rows t (some r) = search (low, high, checks_rows t r)

pub table_rows : (t : Ledger) (b : List ℕ) → Every (TableRow (steps_in t (request_of b))) (checks_of t b)
unfolding checks_of
table_rows t b = search (low, high, read_rows t (request_of b))

steps_in_proper : (t : Ledger) (o : Option Request) → Proper (steps_in t o)
steps_in_proper t none = tt
steps_in_proper t (some (word l)) = tt
steps_in_proper t (some (issue k n i)) = tt
steps_in_proper t (some (withdraw n)) = tt
steps_in_proper t (some (book b)) = steps_proper t _ _ _ _
steps_in_proper t (some (tally s m)) = tt

row_proper : {s : Check} → Proper s → (c : Check) → TableRow s c → Proper c
row_proper p c (inl e) = subst Proper (sym e) p
row_proper p none (inr o) = tt
row_proper p (some f) (inr (inl l, z)) =
    record { early = λ h. z; late = λ h. z; step = λ g h. absurd (omega arith) }
row_proper p (some f) (inr (inr l, z)) =
    record { early = λ h. z; late = λ h. z; step = λ g h. absurd (omega arith) }

all_proper : (t : Ledger) (b : List ℕ) → Every Proper (checks_of t b)
all_proper t b = every_map (row_proper (steps_in_proper t (request_of b))) (checks_of t b) (table_rows t b)

first_proper : (cs : List Check) {f : Refusal} → Every Proper cs → first cs ≡ some f → Stepped f.number f.step
unfolding first
first_proper [] p e = absurd (some_none (sym e))
first_proper (none ∷ cs) p e = first_proper cs p.1 e
first_proper (some g ∷ cs) p e = subst (λ (x : Refusal). Stepped x.number x.step) (some_inj e) p.0

-- the two numbers of a refusal
abbrev pub refusal_of : Told → Refusal
refusal_of (ok values) = record { number = 0; step = 0 }
refusal_of (Told.no n k) = record { number = n; step = k }

-- what a reply says
abbrev pub heard : Reply → Told
heard d = told d.answer

pub refusals : Refusals
refusals t b n k h = go (does t b)
  where
    leaves : (call t b).ledger ≡ t → Stepped n k → RefusalLeaves t b n k
    leaves e s = record { same = e; early = s.early; late = s.late; step = s.step }

    go : Does t b → RefusalLeaves t b n k
    go (refuses f e q) =
        let r : f ≡ record { number = n; step = k } = ap refusal_of (sym (ap heard q) ∙ h) in
        leaves (ap (λ (d : Reply). d.ledger) q)
        (subst (λ (x : Refusal). Stepped x.number x.step) r (first_proper (checks_of t b) (all_proper t b) e))
    go (accepts r o p c q) = absurd (subst IsAccepted (sym (ap heard q) ∙ h) (accept_accepts t r))

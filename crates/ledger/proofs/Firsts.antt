-- The first check that fails, and what it makes of a request.
use mathlib.Core.Path.{◌≡◌, refl, sym, ap, subst, ◌∙◌}
use mathlib.Core.List.{List, [], ◌∷◌, ◌++◌}
use mathlib.Core.Option.{Option, none, some}
use mathlib.Core.Bool.{Bool, true, false, not}
use Prim.Native.Nat.{ℕ, ◌≤◌, ◌<◌}
use lib.ListN.{length}
use borrow.Author.Tests.{le-ltb, lt-ltb}
use Rattle.logic.specs.declared.Interval.{Interval}
use Rattle.logic.specs.Interval.{reversed, broken, WellFormed}
use Rattle.logic.specs.Multiset.{Every}
use Rattle.logic.proofs.Tests.{no_truth}
use Rattle.logic.proofs.Intervals.{formed_decides}
use Rattle.logic.proofs.Multisets.{every_map}
use Rattle.request.specs.Range.{max_bytes}
use Rattle.request.specs.Request.{Request, intervals}
use Rattle.request.specs.Read.{request_of}
use Rattle.ledger.specs.declared.Answer.TheVariants.{Refused}
use Rattle.ledger.specs.Ledger.{Ledger, is_none}
use Rattle.ledger.specs.Checks.{Refusal, Check, ◌if◌, first, checks, interval_checks, read_checks, checks_of}
use Rattle.ledger.specs.Calls.{reply, accept, decide, handle, call}
use Rattle.ledger.specs.Statements.{Pass, FirstFails, here, later, SoFar, from_start, ◌▸◌}
use Rattle.ledger.proofs.Answers.{some_none, some_inj}
use Rattle.ledger.proofs.Credentials.{none_any}

pub pass_first : (cs : List Check) → Pass cs → first cs ≡ none
unfolding first
pass_first [] p = refl
pass_first (none ∷ cs) p = pass_first cs p.1
pass_first (some f ∷ cs) p = absurd (some_none p.0)

pub first_fails : (cs : List Check) {f : Refusal} → first cs ≡ some f → FirstFails f cs
unfolding first
first_fails [] e = absurd (some_none (sym e))
first_fails (none ∷ cs) e = later (first_fails cs e)
first_fails (some g ∷ cs) {f} e = subst (λ (x : Refusal). FirstFails f (some x ∷ cs)) (sym (some_inj e)) here

pub fails_first : {f : Refusal} {cs : List Check} → FirstFails f cs → first cs ≡ some f
unfolding first
fails_first here = refl
fails_first (later h) = fails_first h

-- a check by its test

pub if_false : (n : ℕ) (b : Bool) → b ≡ false → (n if b) ≡ none
unfolding ◌if◌
if_false n b e = rw (e, ◌if◌)

pub if_true : (n : ℕ) (b : Bool) → b ≡ true → (n if b) ≡ some (record { number = n; step = 0 })
unfolding ◌if◌
if_true n b e = rw (e, ◌if◌)

pub if_some : (n : ℕ) (b : Bool) {f : Refusal} → (n if b) ≡ some f → b ≡ true
unfolding ◌if◌
if_some n true e = refl
if_some n false e = absurd (some_none (sym e))

pub none_there : {A : Type 0} (o : Option A) → is_none o ≡ true → o ≡ none
none_there none e = refl
none_there (some a) e = absurd (no_truth e)

-- where the checks so far pass, the first to fail is among the rest
pub so_first : {all rest : List Check} → SoFar all rest → first all ≡ first rest
unfolding first
so_first from_start = refl
so_first (◌▸◌ {rest = rest} s e) = so_first s ∙ ap (λ (c : Check). first (c ∷ rest)) e

pub stopped_at : {all rest : List Check} {c : Check} {f : Refusal} → SoFar all (c ∷ rest) → c ≡ some f
    → first all ≡ some f
unfolding first
stopped_at {rest = rest} s e = so_first s ∙ ap (λ (c : Check). first (c ∷ rest)) e

pub none_stops : {all : List Check} → SoFar all [] → first all ≡ none
unfolding first
none_stops s = so_first s

pub not_true : (b : Bool) → b ≡ true → not b ≡ false
not_true true e = refl
not_true false e = absurd (no_truth e)

-- a request that is read, by its checks

pub handle_fails : (t : Ledger) (r : Request) {n k : ℕ}
    → first (read_checks t (some r)) ≡ some (record { number = n; step = k })
    → handle t r ≡ reply (Refused n k) t
unfolding decide
handle_fails t r h = ap (λ (o : Option Refusal). decide t o (some r)) h

pub handle_passes : (t : Ledger) (r : Request) → first (read_checks t (some r)) ≡ none → handle t r ≡ accept t r
unfolding decide
handle_passes t r h = ap (λ (o : Option Refusal). decide t o (some r)) h

-- well-formed intervals pass the checks of intervals; `rest` are the checks after these
pub pass_intervals : (is : List Interval) (rest : List Check) → Every WellFormed is → Pass rest
    → Pass (interval_checks is ++ rest)
pass_intervals is rest w p = (
  if_false 3 _ (none_any reversed is (every_map (λ i f. ((formed_decides i).1 f).0) is w)),
  (if_false 43 _ (none_any broken is (every_map (λ i f. ((formed_decides i).1 f).1) is w)), p),
)

pub past_intervals : (t : Ledger) (r : Request) {all : List Check} → Every WellFormed (intervals r)
    → SoFar all (read_checks t (some r)) → SoFar all (checks t r)
past_intervals t r w s = let p = pass_intervals (intervals r) [] w tt in s ▸ p.0 ▸ p.1.0

-- so does one that has none
pub no_intervals : (t : Ledger) (r : Request) → intervals r ≡ [] → SoFar (read_checks t (some r)) (checks t r)
no_intervals t r e = past_intervals t r (subst (Every WellFormed) (sym e) tt) from_start

-- bytes, by their length and what they read as

pub call_long : (t : Ledger) (b : List ℕ) → max_bytes < length b → call t b ≡ reply (Refused 1 0) t
unfolding call decide checks_of
call_long t b l =
    ap (λ (o : Option Refusal). decide t o (request_of b))
    (stopped_at {all = checks_of t b} from_start (if_true 1 _ (lt-ltb _ _ l)))

pub call_none : (t : Ledger) (b : List ℕ) → length b ≤ max_bytes → request_of b ≡ none → call t b
    ≡ reply (Refused 2 0) t
unfolding call decide checks_of
call_none t b l e =
    ap (λ (o : Option Refusal). decide t o (request_of b))
    (stopped_at {all = checks_of t b} (from_start ▸ if_false 1 _ (le-ltb _ _ l)) (if_true 2 _ (ap is_none e)))

-- bytes that have a form pass 1 and 2
pub past_form : (t : Ledger) (b : List ℕ) {r : Request} → length b ≤ max_bytes → request_of b ≡ some r
    → SoFar (checks_of t b) (read_checks t (some r))
unfolding checks_of
past_form t b l e =
    subst (λ (o : Option Request). SoFar (checks_of t b) (read_checks t o)) e
    (from_start ▸ if_false 1 _ (le-ltb _ _ l) ▸ if_false 2 _ (ap is_none e))

pub call_read : (t : Ledger) (b : List ℕ) (r : Request) → length b ≤ max_bytes → request_of b ≡ some r
    → call t b ≡ handle t r
unfolding call
call_read t b r l e =
    ap (λ (f : Option Refusal). decide t f (request_of b)) (so_first (past_form t b l e))
    ∙ ap (decide t (first (read_checks t (some r)))) e

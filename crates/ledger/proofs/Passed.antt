-- What an accepted request has passed, check by check. Only here are the lists of a request's checks taken apart.
use mathlib.Core.Path.{◌≡◌, refl, sym}
use mathlib.Core.List.{List, [], ◌∷◌}
use mathlib.Core.Option.{Option, none, some}
use mathlib.Core.Bool.{true, false}
use Prim.Native.Nat.{ℕ, ◌-◌, ◌≤◌, ◌<◌}
use lib.ListN.{length}
use borrow.Author.Tests.{leb-false, ltb-false, not-false}
use Rattle.logic.specs.declared.Interval.{Interval}
use Rattle.logic.specs.Interval.{has, reversed, broken, WellFormed}
use Rattle.logic.specs.Formula.{Formula, size, plain, unbound}
use Rattle.logic.specs.Weight.{Balanced}
use Rattle.logic.proofs.Tests.{no_truth}
use Rattle.logic.specs.Multiset.{Every}
use Rattle.logic.proofs.Intervals.{formed_decides}
use Rattle.logic.proofs.Multisets.{every_map}
use Rattle.logic.proofs.Balance.{balanced_test}
use Rattle.request.specs.declared.Kind.{Kind}
use Rattle.request.specs.declared.Kind.TheVariants.{Linear, Unrestricted}
use Rattle.request.specs.Range.{serial}
use Rattle.request.specs.Request.{Line, Booking, Request, word, issue, withdraw, book, intervals}
use Rattle.ledger.specs.declared.Credential.{Credential}
use Rattle.ledger.specs.Table.{form, names}
use Rattle.ledger.specs.Ledger.{Ledger, formula, find, is_none, held, linear_count}
use Rattle.ledger.specs.Checks.{any_of, max_size, max_formulas, max_live, missing, same_line, dead, twice, steps}
use Rattle.ledger.specs.Checks.{◌if◌, nests, unissuable, unissuable_number, word_rules, issue_rules, checks}
use Rattle.ledger.specs.Checks.{read_checks}
use Rattle.ledger.specs.Statements.{Pass}
use Rattle.ledger.proofs.Answers.{if_none}
use Rattle.ledger.proofs.Firsts.{if_false, not_true}
use Rattle.ledger.proofs.Credentials.{any_none}
use Rattle.ledger.specs.Bounds.{There}

-- the checks of a request that is read
pub record PassedRead (t : Ledger) (r : Request) : Type 0 where
  pub formed : Every WellFormed (intervals r)
  pub rest : Pass (checks t r)

pub passed_read : (t : Ledger) (r : Request) → Pass (read_checks t (some r)) → PassedRead t r
passed_read t r (straight, (unbroken, rest)) = record {
  formed = go (intervals r) (any_none reversed (intervals r) (if_none 3 _ straight))
      (any_none broken (intervals r) (if_none 43 _ unbroken));
  rest = rest;
}
  where
    go : (is : List Interval) → Every (λ i. reversed i ≡ false) is → Every (λ i. broken i ≡ false) is
        → Every WellFormed is
    go [] a b = tt
    go (i ∷ is) a b = ((formed_decides i).0 (a.0, b.0), go is a.1 b.1)

-- linear credentials are plain, unrestricted ones balanced
abbrev pub FitsKind : Kind → Formula → Type 0
FitsKind Linear a = plain a ≡ true
FitsKind Unrestricted a = Balanced a

pub fits_kind : (k : Kind) (a : Formula) → (unissuable_number k if unissuable k a) ≡ none → FitsKind k a
fits_kind Linear a e = not-false _ (if_none 20 _ e)
fits_kind Unrestricted a e = (balanced_test a).0 (not-false _ (if_none 21 _ e))

pub record PassedWord (t : Ledger) (l : Line) : Type 0 where
  pub there : There t (names l)
  pub apart : nests t l ≡ false
  pub small : size (form (formula t) l) ≤ max_size
  pub new : any_of (same_line l) t.lines ≡ false
  pub room : length t.lines < max_formulas
  pub rules : Pass (word_rules t l)

pub passed_word : (t : Ledger) (l : Line) → Pass (checks t (word l)) → PassedWord t l
unfolding checks
passed_word t l (there, (apart, (small, (new, (room, end))))) = record {
  there = every_map (λ k e. leb-false _ _ e) (names l) (any_none (missing t) (names l) (if_none 10 _ there));
  apart = if_none 53 _ apart;
  small = ltb-false _ _ (if_none 12 _ small);
  new = if_none 13 _ new;
  room = leb-false _ _ (if_none 14 _ room);
  rules = (there, (apart, (small, (new, tt))));
}

pub record PassedIssue (t : Ledger) (k : Kind) (n : ℕ) : Type 0 where
  pub there : n < length t.lines
  pub bound : unbound (formula t n) ≡ false
  pub fits : FitsKind k (formula t n)
  pub room : length t.live - 0 < max_live
  pub unused : t.next ≤ serial.last
  pub rules : Pass (issue_rules t k n)

pub passed_issue : (t : Ledger) (k : Kind) (n : ℕ) (i : Interval) → Pass (checks t (issue k n i)) → PassedIssue t k n
unfolding checks
passed_issue t k n i (there, (bound, (fits, (room, (unused, end))))) = record {
  there = leb-false _ _ (if_none 10 _ there);
  bound = if_none 53 _ bound;
  fits = fits_kind k (formula t n) fits;
  room = leb-false _ _ (if_none 22 _ room);
  unused = ltb-false _ _ (if_none 23 _ unused);
  rules = (there, (bound, (fits, tt)));
}

pub record PassedWithdraw (t : Ledger) (n : ℕ) : Type 0 where
  pub credential : Credential
  pub found : find t.live n ≡ some credential

pub passed_withdraw : (t : Ledger) (n : ℕ) → Pass (checks t (withdraw n)) → PassedWithdraw t n
unfolding checks
passed_withdraw t n (alive, end) = go (find t.live n) refl (if_none 24 _ alive)
  where
    go : (o : Option Credential) → find t.live n ≡ o → is_none o ≡ false → PassedWithdraw t n
    go none e q = absurd (no_truth (sym q))
    go (some c) e q = record { credential = c; found = e }

pub record PassedBook (t : Ledger) (b : Booking) : Type 0 where
  pub there : b.formula < length t.lines
  pub bound : unbound (formula t b.formula) ≡ false
  pub plain : plain (formula t b.formula) ≡ true
  pub inside : has b.interval b.now ≡ true
  pub alive : any_of (dead t) b.holds ≡ false
  pub apart : twice b.holds ≡ false
  pub closes : steps t (held t.live b.holds) b.formula b.interval b.steps ≡ none
  pub room : length t.live - linear_count (held t.live b.holds) < max_live
  pub unused : t.next ≤ serial.last
  pub rules : Pass (issue_rules t Linear b.formula)

pub passed_book : (t : Ledger) (b : Booking) → Pass (checks t (book b)) → PassedBook t b
unfolding checks
passed_book t b (there, (bound, (plain, (inside, (alive, (apart, (closes, (room, (unused, end))))))))) = record {
  there = leb-false _ _ (if_none 10 _ there);
  bound = if_none 53 _ bound;
  plain = not-false _ (if_none 20 _ plain);
  inside = not-false _ (if_none 30 _ inside);
  alive = if_none 24 _ alive;
  apart = if_none 31 _ apart;
  closes = closes;
  room = leb-false _ _ (if_none 22 _ room);
  unused = ltb-false _ _ (if_none 23 _ unused);
  rules = (there, (bound, (plain, tt)));
}

-- with another minute and another interval, a booking passes where now lies in that and the steps close at it
pub pass_at : (t : Ledger) (b : Booking) (now : ℕ) (i : Interval) → Pass (checks t (book b)) → has i now ≡ true
    → steps t (held t.live b.holds) b.formula i b.steps ≡ none
    → Pass (checks t (book (record {
      now = now;
      formula = b.formula;
      interval = i;
      holds = b.holds;
      steps = b.steps;
    })))
unfolding checks
pass_at t b now i (there, (bound, (plain, (inside, (alive, (apart, (closed, more))))))) h closes =
    (there, (bound, (plain, (if_false 30 _ (not_true _ h), (alive, (apart, (closes, more)))))))

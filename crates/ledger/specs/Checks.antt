-- Document 01's section "Where a sheet is stopped": the checks of a request, in the table's order, for each kind.
-- `n if test` is a row of the table: refusal n is given exactly if the test is true.
use Rattle.std.specs.Prelude.{List, [], ◌∷◌, ◌++◌, map, Bool, true, false, ◌&&◌, ◌||◌, not, ℕ, suc, ◌-◌, eqb, leb, ltb}
use Rattle.std.specs.Prelude.{length}
use Rattle.std.proofs.Math.Option.{Option, none, some}
use Prim.Native.Char.{code}
use Rattle.logic.specs.declared.Interval.{Interval}
use Rattle.logic.specs.Interval.{no_interval, has, same_interval, reversed, broken}
use Rattle.logic.specs.Formula.{Formula, size, plain, unbound, quantified}
use Rattle.logic.specs.Counts.{balanced}
use Rattle.request.specs.declared.Kind.{Kind}
use Rattle.request.specs.declared.Kind.TheVariants.{Linear, Unrestricted}
use Rattle.request.specs.Range.{serial, max_bytes}
use Rattle.request.specs.Request.{Line, Step, Request, word, issue, withdraw, book, tally, intervals}
use Rattle.request.specs.Read.{request_of}
use Rattle.labels.specs.Labels.{insert}
use Rattle.steps.specs.declared.Row.{Row}
use Rattle.steps.specs.declared.Hypothesis.{Hypothesis}
use Rattle.steps.specs.declared.Goal.TheVariants.{Holds}
use Rattle.steps.specs.declared.Sequent.{Sequent}
use Rattle.steps.specs.Check.{Outcome, done, stopped, puts, check_of}
pub use Rattle.steps.specs.Labelling.{LabelTable, read_label, write_label}
use Rattle.ledger.specs.declared.Credential.{Credential}
use Rattle.ledger.specs.Table.{form, names, row_of}
use Rattle.ledger.specs.Ledger.{Ledger, formula, row_for, is_kind, find, is_none, held, linear_count}

-- A check passes (none) or answers its refusal: "with its step (from 1) for 40 to 42, else 0".
pub record Refusal : Type 0 where
  pub number : ℕ
  pub step : ℕ

abbrev pub Check : Type 0
Check = Option Refusal

infix 5 ◌if◌
unfoldable pub ◌if◌ : ℕ → Bool → Check
n if true = some (record { number = n; step = 0 })
n if false = none

-- "Checks run in this order; the first to fail answers"
unfoldable pub first : List Check → Option Refusal
first [] = none
first (none ∷ cs) = first cs
first (some r ∷ cs) = some r

unfoldable pub any_of : {A : Type 0} → (A → Bool) → List A → Bool
any_of f [] = false
any_of f (x ∷ xs) = f x || any_of f xs

-- The tests

-- "Size: .. at most 64"; "holds at most 200"; "Up to 2,048 live coupons are allowed" (document 02, ask 8)
abbrev pub max_size : ℕ
max_size = 64

abbrev pub max_formulas : ℕ
max_formulas = 200

abbrev pub max_live : ℕ
max_live = 2048

-- the number names no formula of the ledger
abbrev pub missing : Ledger → ℕ → Bool
missing t n = leb (length t.lines) n

-- "a word that puts `q` within `q`": the line is a `q`, and one stands in what it names
abbrev pub nests : Ledger → Line → Bool
nests t l = eqb (row_of l).letter (code "q") && any_of (λ i. quantified (formula t i)) (names l)

abbrev pub oversize : Ledger → Line → Bool
oversize t l = ltb max_size (size (form (formula t) l))

-- "no two lines equal": equal letters and equal fields
unfoldable pub same_row : Row → Row → Bool
same_row x y =
    eqb x.letter y.letter
    && (eqb x.a y.a
    && (eqb x.b y.b
    && (eqb x.holder y.holder && (same_interval x.first y.first && same_interval x.second y.second))))

abbrev pub same_line : Line → Line → Bool
same_line l m = same_row (row_of l) (row_of m)

-- issue, by the kind: "not plain" (20), "not balanced" (21)
abbrev pub unissuable : Kind → Formula → Bool
unissuable Linear a = not (plain a)
unissuable Unrestricted a = not (balanced a)

abbrev pub unissuable_number : Kind → ℕ
unissuable_number Linear = 20
unissuable_number Unrestricted = 21

-- "serial not live"
abbrev pub dead : Ledger → ℕ → Bool
dead t n = is_none (find t.live n)

-- "serial held twice"
unfoldable pub twice : List ℕ → Bool
twice [] = false
twice (n ∷ ns) = any_of (eqb n) ns || twice ns

-- "live, less singles held, is 2,048 or more"
abbrev pub no_room : Ledger → ℕ → Bool
no_room t linears = leb max_live (length t.live - linears)

-- "serial 999,999 was given"
abbrev pub used_up : Ledger → Bool
used_up t = ltb serial.last t.next

-- The steps of a booking

-- the table of labels, as a function, before any is taken
abbrev pub no_labels : LabelTable
no_labels k = record { formula = 0; interval = no_interval }

-- "Holds take labels 0, 1, .. in order": what they stand for, and the set of those of a kind, from label n on, with d
abbrev pub hypothesis : Credential → Hypothesis
hypothesis c = record { formula = c.formula; interval = c.interval }

unfoldable pub labels_of : Kind → ℕ → List Credential → ℕ → ℕ
labels_of k n [] d = d
labels_of k n (c ∷ cs) d = labels_of k (suc n) cs (elim (is_kind k c.kind) [ true ↦ insert d n | false ↦ d ])

-- the sequent of a booking's first step: the goal is formula n at i
abbrev pub booking_sequent : List Credential → ℕ → Interval → Sequent
booking_sequent cs n i = record {
  unrestricted = labels_of Unrestricted 0 cs 0;
  linear = labels_of Linear 0 cs 0;
  goal = Holds n i;
}

unfoldable pub verdict : {T : Type 0} → Outcome T → Check
verdict (done ss t next) = none
verdict (stopped c n) = some (record { number = c; step = n })

-- "40 to 42 are found step by step": the goal is formula n at i, from the credentials held.
unfoldable pub steps : Ledger → List Credential → ℕ → Interval → List Step → Check
steps t cs n i ss =
    verdict (check_of (row_for t) read_label write_label (length ss) ss
    (puts write_label no_labels 0 (map hypothesis cs)) (length cs) (booking_sequent cs n i))

-- The table, for each kind of request

-- of a formula line, and of a credential's kind and formula: what opening a text asks too (crate snapshot). Document
-- 02: "53, checked after 10, is the answer to a word that puts `q` within `q`, and to an issue or booking whose wording
-- has holder 0 outside `q`."
abbrev pub word_rules : Ledger → Line → List Check
word_rules t l =
    (10 if any_of (missing t) (names l)) ∷
    (53 if nests t l) ∷
    (12 if oversize t l) ∷
    (13 if any_of (same_line l) t.lines) ∷ []

abbrev pub issue_rules : Ledger → Kind → ℕ → List Check
issue_rules t k n =
    (10 if missing t n) ∷
    (53 if unbound (formula t n)) ∷
    (unissuable_number k if unissuable k (formula t n)) ∷ []

unfoldable pub checks : Ledger → Request → List Check
checks t (word l) =
    word_rules t l ++
    (14 if leb max_formulas (length t.lines)) ∷ []
checks t (issue k n i) =
    issue_rules t k n ++
    (22 if no_room t 0) ∷
    (23 if used_up t) ∷ []
checks t (withdraw n) =
    (24 if dead t n) ∷ []
checks t (book b) =
    let cs = held t.live b.holds in
    (10 if missing t b.formula) ∷
    (53 if unbound (formula t b.formula)) ∷
    (20 if not (plain (formula t b.formula))) ∷
    (30 if not (has b.interval b.now)) ∷
    (24 if any_of (dead t) b.holds) ∷
    (31 if twice b.holds) ∷
    steps t cs b.formula b.interval b.steps ∷
    (22 if no_room t (linear_count cs)) ∷
    (23 if used_up t) ∷ []
checks t (tally s m) = []

-- "any window field": from > to, in the head, or any step or formula; "A break that is neither 0,0 nor strictly inside
-- its window is refused by 43, straight after 3", in any of them too
abbrev pub interval_checks : List Interval → List Check
interval_checks is =
    (3 if any_of reversed is) ∷
    (43 if any_of broken is) ∷ []

abbrev pub read_checks : Ledger → Option Request → List Check
read_checks t none = []
read_checks t (some r) = interval_checks (intervals r) ++ checks t r

-- all checks of the bytes of a request
unfoldable pub checks_of : Ledger → List ℕ → List Check
checks_of t bytes =
    (1 if ltb max_bytes (length bytes)) ∷
    (2 if is_none (request_of bytes)) ∷
    read_checks t (request_of bytes)

-- Every ledger that calls gave is bounded: the empty one is, and each accepted request keeps it.
use mathlib.Core.Path.{◌≡◌, refl, sym, subst}
use mathlib.Core.List.{List, [], ◌∷◌, ◌++◌}
use mathlib.Core.Option.{Option, some}
use mathlib.Core.Bool.{Bool, true, false}
use Prim.Native.Nat.{ℕ, ◌+◌, ◌≤◌, ◌<◌}
use native.Mathlib.Omega.{arith}
use lib.Dec.{eqb}
use lib.ListN.{length, length-append}
use Rattle.logic.specs.declared.Interval.{Interval}
use Rattle.logic.specs.Formula.{Formula, size}
use Rattle.logic.specs.Multiset.{Every}
use Rattle.logic.proofs.Multisets.{ins_length, every_out, every_snoc, every_map}
use Rattle.request.specs.declared.Kind.{Kind}
use Rattle.request.specs.declared.Kind.TheVariants.{Linear, Unrestricted}
use Rattle.request.specs.Range.{serial}
use Rattle.request.specs.Request.{Line, Request, word, issue, withdraw, book, tally}
use Rattle.ledger.specs.declared.Credential.{Credential}
use Rattle.ledger.specs.declared.Answer.{Answer}
use Rattle.ledger.specs.Table.{form, names, build, formulas}
use Rattle.ledger.specs.Ledger.{Ledger, empty, formula, by_kind, find, without_serial, held, spend}
use Rattle.ledger.specs.Checks.{max_size, max_formulas, max_live, checks}
use Rattle.ledger.specs.Calls.{with_line, with_live, with_credential, accept}
use Rattle.ledger.specs.Statements.{Pass}
use Rattle.ledger.proofs.Walk.{walk}
use Rattle.ledger.proofs.Credentials.{take_out, splits}
use Rattle.ledger.specs.Bounds.{Tabled, There, Rises, Below, Bounded, AlwaysBounded}
use Rattle.ledger.proofs.FormulaTable.{formula_snoc, line_tabled}
use Rattle.ledger.proofs.Passed.{passed_word, passed_issue, passed_withdraw, passed_book}

one_more_holds : (cs : List Credential) (c : Credential) {n : ℕ} → length cs < n → length (cs ++ (c ∷ [])) ≤ n
one_more_holds cs c h = omega (arith, length-append cs (c ∷ []))

pub rises_lower : (lo hi : ℕ) (cs : List Credential) → lo ≤ hi → Rises hi cs → Rises lo cs
rises_lower lo hi [] le r = tt
rises_lower lo hi (c ∷ cs) le r = let h = r.0 in (omega arith, r.1)

pub rises_without : (lo n : ℕ) (cs : List Credential) → Rises lo cs → Rises lo (without_serial cs n)
unfolding without_serial
rises_without lo n [] r = tt
rises_without lo n (c ∷ cs) r = go (eqb c.serial n) (rises_without c.serial n cs r.1)
  where
    go : (b : Bool) → Rises c.serial (without_serial cs n)
        → Rises lo (elim b as (λ z. List Credential) [ true ↦ cs | false ↦ c ∷ without_serial cs n ])
    go true h = let l = r.0 in rises_lower lo c.serial cs (omega arith) r.1
    go false h = (r.0, h)

rises_spend : (lo : ℕ) (cs hs : List Credential) → Rises lo cs → Rises lo (spend cs hs)
unfolding spend
rises_spend lo cs [] r = r
rises_spend lo cs (h ∷ hs) r = rises_spend lo (by_kind h.kind (without_serial cs h.serial) cs) hs (go h.kind)
  where
    go : (k : Kind) → Rises lo (by_kind k (without_serial cs h.serial) cs)
    go Linear = rises_without lo h.serial cs r
    go Unrestricted = r

rises_snoc : (lo n : ℕ) (cs : List Credential) (c : Credential) → c.serial ≡ n → lo < n → Rises lo cs → Below n cs
    → Rises lo (cs ++ (c ∷ []))
rises_snoc lo n [] c e l r b = (omega arith, tt)
rises_snoc lo n (d ∷ cs) c e l r b = (r.0, rises_snoc d.serial n cs c e b.0 r.1 b.1)

below_snoc : (n : ℕ) (cs : List Credential) (c : Credential) → c.serial ≡ n → Below n cs
    → Below (n + 1) (cs ++ (c ∷ []))
below_snoc n cs c e b =
    every_snoc (λ c. c.serial < n + 1) cs c (every_map (λ d l. omega arith) cs b) (omega arith)

pub same_table : (t : Ledger) (cs : List Credential) (n : ℕ) → Tabled t
    → Tabled (record { lines = t.lines; live = cs; next = n })
same_table t cs n h = record { reads = h.reads; refs = h.refs }

-- what one line more, other live credentials and one credential more ask
module _ (t : Ledger) (b : Bounded t) where
  pub line_bounded : (l : Line) → length t.lines < max_formulas → There t (names l)
      → size (form (formula t) l) ≤ max_size → Bounded (with_line t l)
  line_bounded l room there small = record {
    tabled = line_tabled t l b.tabled there;
    rises = b.rises;
    below = b.below;
    lines = omega (arith, length-append t.lines (l ∷ []));
    live = b.live;
    first = b.first;
    last = b.last;
    sizes = λ n. subst (λ (a : Formula). size a ≤ max_size) (sym (formula_snoc t l n))
        (go n (eqb n (length t.lines)));
  }
    where
      go : (n : ℕ) (x : Bool)
          → size (elim x as (λ z. Formula) [ true ↦ form (formula t) l | false ↦ formula t n ]) ≤ max_size
      go n true = small
      go n false = b.sizes n

  live_bounded : (cs : List Credential) → Rises 0 cs → Below t.next cs → length cs ≤ max_live
      → Bounded (with_live t cs)
  live_bounded cs rises below live = record {
    tabled = same_table t cs t.next b.tabled;
    rises = rises;
    below = below;
    lines = b.lines;
    live = live;
    first = b.first;
    last = b.last;
    sizes = b.sizes;
  }

  pub without_bounded : (n : ℕ) {c : Credential} → find t.live n ≡ some c
      → Bounded (with_live t (without_serial t.live n))
  without_bounded n e =
      let i = (take_out t.live n e).1 in
      live_bounded (without_serial t.live n) (rises_without 0 n t.live b.rises) (every_out _ i b.below).1
      (omega (arith, b.live, ins_length i))

  pub credential_bounded : (k : Kind) (n : ℕ) (i : Interval) → length t.live < max_live → t.next ≤ serial.last
      → Bounded (with_credential t k n i)
  credential_bounded k n i room unused = record {
    tabled = same_table t _ _ b.tabled;
    rises = rises_snoc 0 t.next t.live _ refl b.first b.rises b.below;
    below = below_snoc t.next t.live _ refl b.below;
    lines = b.lines;
    live = one_more_holds t.live _ room;
    first = omega arith;
    last = omega arith;
    sizes = b.sizes;
  }

pub accept_bounded : (t : Ledger) (r : Request) → Pass (checks t r) → Bounded t → Bounded (accept t r).ledger
unfolding accept
accept_bounded t (word l) p b =
    let q = passed_word t l p in
    line_bounded t b l (omega (arith, q.room)) q.there q.small
accept_bounded t (issue k n i) p b =
    let q = passed_issue t k n i p in
    credential_bounded t b k n i (omega (arith, q.room)) (omega (arith, q.unused))
accept_bounded t (withdraw n) p b = without_bounded t b n (passed_withdraw t n p).found
accept_bounded t (book x) p b =
    let q = passed_book t x p in
    let v = splits (λ c. c.serial < t.next) t x.holds q.alive q.apart b.below in
    let hs = held t.live x.holds in
    let cs = spend t.live hs in
    credential_bounded (with_live t cs)
    (live_bounded t b cs (rises_spend 0 t.live hs b.rises) v.stay (omega (arith, v.lengths, b.live)))
    Linear x.formula x.interval (omega (arith, v.lengths, q.room)) (omega (arith, q.unused))
accept_bounded t (tally s m) p b = b

pub empty_bounded : Bounded empty
unfolding build formulas size
empty_bounded = record {
  tabled = record { reads = λ n. refl; refs = λ n. tt };
  rises = tt;
  below = tt;
  lines = omega arith;
  live = omega arith;
  first = omega arith;
  last = omega arith;
  sizes = λ n. omega arith;
}

-- nothing is kept but the ledger
abbrev forget : Option Request → Answer → Unit {0} → Unit {0}
forget o a u = u

pub bounded : AlwaysBounded
bounded bs =
    walk forget (λ t u. Bounded t) (λ o n k u. refl) (λ t u b r e p. accept_bounded t r p.rest) empty tt bs
    empty_bounded

-- Demand 3, proved: a booking moves no seat out of its session, so the ledger stays what its history says, and a tally
-- adds up.
use mathlib.Core.Path.{◌≡◌, refl, ap, ◌∙◌}
use mathlib.Core.List.{List, [], ◌∷◌}
use mathlib.Core.Option.{some}
use mathlib.Core.Bool.{Bool, true, false}
use Prim.Native.Nat.{ℕ, ◌+◌, ◌-◌, ◌≤◌, ◌<◌}
use native.Mathlib.Omega.{arith}
use lib.ListN.{length}
use borrow.Author.Tests.{leb-false, eq-eqb, ne_eqb}
use Rattle.logic.specs.declared.Interval.{Interval}
use Rattle.logic.specs.Interval.{has}
use Rattle.logic.specs.Formula.{Formula, seats, places, house_seats, plain}
use Rattle.logic.specs.Multiset.{Every, sum}
use Rattle.logic.specs.Derives.{Hyp, holds, Derives}
use Rattle.logic.proofs.Multisets.{snoc_sum, every_map}
use Rattle.logic.proofs.Weights.{ups, downs, balanced_is}
use Rattle.logic.proofs.Balance.{plain_decides, plain_counts}
use Rattle.logic.proofs.Conservation.{conserved, EvenHyp, BalancedHyp}
use Rattle.request.specs.declared.Kind.{Kind}
use Rattle.request.specs.declared.Kind.TheVariants.{Linear, Unrestricted}
use Rattle.request.specs.Range.{max_bytes, session, minute, holds as held_range}
use Rattle.request.specs.Request.{Booking, word, issue, withdraw, book, tally, intervals}
use Rattle.request.specs.Read.{request_of}
use Rattle.request.specs.Write.{write}
use Rattle.request.specs.InRange.{◌in_range◌, InRange}
use Rattle.request.proofs.Requests.{write_read, read_in_range, write_short}
use Rattle.ledger.specs.declared.Credential.{Credential}
use Rattle.ledger.specs.Ledger.{Ledger, formula, by_kind, find, held, spend}
use Rattle.ledger.specs.Checks.{steps, checks}
use Rattle.ledger.specs.Calls.{with_live, with_credential, only, open_in, shut_in, open_of, shut_of, places_of}
use Rattle.ledger.specs.Calls.{open_seats, shut_seats, placed}
use Rattle.ledger.specs.Calls.{accept}
use Rattle.ledger.specs.Calls.{call, after}
use Rattle.demands.specs.History.{History, begun, ◌upon◌, note, history_of, formula_in, given_of, given_in}
use Rattle.demands.specs.History.{seats_and_places, issued, withdrawn}
use Rattle.ledger.specs.Bounds.{Rises, Below}
use Rattle.ledger.specs.Statements.{Pass}
use Rattle.ledger.proofs.Answers.{if_none, heard}
use Rattle.ledger.proofs.Firsts.{none_stops, handle_passes, no_intervals, call_read}
use Rattle.ledger.proofs.Walk.{Keeps, walk}
use Rattle.ledger.proofs.Credentials.{linearly, open_shut, splits}
use Rattle.ledger.proofs.Bounds.{same_table}
use Rattle.ledger.proofs.Passed.{FitsKind, fits_kind, passed_word, passed_issue, passed_withdraw}
use Rattle.ledger.proofs.Passed.{PassedBook, passed_book}
use Rattle.snapshot.specs.Snapshot.{credential_rules}
use Rattle.snapshot.specs.InForm.{Lawful}
use Rattle.snapshot.proofs.Lawful.{begins_lawful}
use Rattle.demands.specs.Demands.{Begins, hyp, hyps_of, AddsUp, Demand3}
use Rattle.steps.specs.Limits.{Writable}
use Rattle.demands.proofs.Start.{Ready}
use Rattle.demands.proofs.Demand2.{few_held, writable_steps, steps_derive}
use Rattle.demands.proofs.Agrees.{note_silent}
use Rattle.demands.proofs.Agrees.{Right, seats_and_places_in, Agrees, event, new, given_right}
use Rattle.demands.proofs.Agrees.{word_keeps}
use Rattle.demands.proofs.Agrees.{issue_keeps, withdraw_keeps, tally_keeps}

-- What the hypotheses of the credentials held weigh.

record Weighs (s : ℕ) (R D : List Hyp) (n : ℕ) : Type 0 where
  balanced : Every (BalancedHyp s) R
  even : Every (EvenHyp s) D
  taken : downs s D ≡ 0
  added : ups s D ≡ n

weigh : (t : Ledger) (h : History) (s : ℕ) (cs : List Credential) → Every (Right t h) cs
    → Weighs s (hyps_of t Unrestricted cs) (hyps_of t Linear cs) (sum (linearly (seats_and_places_in t s)) cs)
unfolding sum hyps_of
weigh t h s [] r = record { balanced = tt; even = tt; taken = refl; added = refl }
weigh t h s (c ∷ cs) r = go c.kind r.0.fits (weigh t h s cs r.1)
  where
    go : (k : Kind) → FitsKind k (formula t c.formula)
        → Weighs s (hyps_of t Unrestricted cs) (hyps_of t Linear cs) (sum (linearly (seats_and_places_in t s)) cs)
        → Weighs s
        (elim (by_kind k false true) as (λ z. List Hyp)
        [ true ↦ hyp t c ∷ hyps_of t Unrestricted cs | false ↦ hyps_of t Unrestricted cs ])
        (elim (by_kind k true false) as (λ z. List Hyp)
        [ true ↦ hyp t c ∷ hyps_of t Linear cs | false ↦ hyps_of t Linear cs ])
        (by_kind k (seats_and_places_in t s c) 0 + sum (linearly (seats_and_places_in t s)) cs)
    go Linear f w =
        let p = plain_counts s (formula t c.formula) ((plain_decides (formula t c.formula)).0 f) in
        record {
          balanced = w.balanced;
          even = (p.evens, w.even);
          taken = omega (arith, p.downs, w.taken);
          added = omega (arith, p.ups, w.added);
        }
    go Unrestricted f w = record {
      balanced = ((balanced_is s (formula t c.formula)).0 (f s), w.balanced);
      even = w.even;
      taken = w.taken;
      added = omega (arith, w.added);
    }

-- a plain goal derived from them has as many seats and places as the linear ones among them
booked : (s : ℕ) {R D : List Hyp} {n : ℕ} {a : Formula} {i : Interval} → Derives R D (holds a i) → Weighs s R D n
    → plain a ≡ true → n ≡ seats_and_places s a
booked s {a = a} d w p =
    let c = plain_counts s a ((plain_decides a).0 p) in
    omega (arith, conserved s d w.balanced w.even c.evens, c.ups, c.downs, w.taken, w.added)

book_keeps : (t : Ledger) (h : History) (b : Booking) → Agrees t h → PassedBook t b
    → length b.holds ≤ held_range.last → Every Writable b.steps
    → Agrees
    (with_credential (with_live t (spend t.live (held t.live b.holds))) Linear b.formula b.interval)
    (event (book b) t.next upon h)
unfolding formula_in given_in issued withdrawn
book_keeps t h b a p le w =
    let hs = held t.live b.holds in
    let v = splits (Right t h) t b.holds p.alive p.apart a.credentials in
    let ready : Ready t hs = record {
      tabled = a.tabled;
      lines = a.lines;
      named = every_map (λ c r. omega (arith, r.there, a.lines)) hs v.went;
    } in
    let d = (steps_derive t hs ready (few_held t b.holds le) b.formula (omega (arith, p.there, a.lines))
    b.interval b.steps w p.closes).0 in
    record {
      tabled = same_table t _ _ a.tabled;
      lines = a.lines;
      formulas = a.formulas;
      credentials = given_right t h _ (spend t.live hs) Linear b.formula b.interval refl v.stay
          p.there p.plain;
      totals = λ s. omega (
        arith,
        a.totals s,
        v.sums (seats_and_places_in t s),
        booked s d (weigh t h s hs v.went) p.plain,
        snoc_sum (linearly (seats_and_places_in t s)) (spend t.live hs) (new t Linear b.formula b.interval),
      );
    }

-- Every accepted request keeps ledger and history agreed, so every list of calls does.
accept_keeps : Keeps note Agrees
unfolding accept
accept_keeps t h b (word l) e p a =
    let q = passed_word t l p.rest in word_keeps t h l a q.there q.room
accept_keeps t h b (issue k n i) e p a =
    let q = passed_issue t k n i p.rest in issue_keeps t h k n i a q.there q.fits
accept_keeps t h b (withdraw n) e p a =
    let q = passed_withdraw t n p.rest in withdraw_keeps t h n q.credential q.found a
accept_keeps t h b (book x) e p a =
    let r = read_in_range b (book x) e in
    book_keeps t h x a (passed_book t x p.rest) r.hold_count.most (writable_steps x r p.formed)
accept_keeps t h b (tally s m) e p a = tally_keeps t h s m _ _ _ a

-- A lawful ledger agrees with the history that begins at it: serials rise, so each live credential is found by its own.
-- Those from cs on, all above lo: what is above lo is found among them
begun_right : (t : Ledger) (lo : ℕ) (cs : List Credential) → ((m : ℕ) → lo < m → find t.live m ≡ find cs m)
    → Rises lo cs → Below t.next cs → Every (λ c. Pass (credential_rules t c)) cs → Every (Right t (begun t)) cs
unfolding given_in find
begun_right t lo [] f r b o = tt
begun_right t lo (c ∷ cs) f r b o =
    let above = r.0 in
    let present = o.0.1.1 in (
      record {
        given = ap given_of (f c.serial above) ∙ rw (eq-eqb c.serial c.serial refl, find);
        below = b.0;
        there = leb-false _ _ (if_none 10 _ present.0);
        fits = fits_kind c.kind (formula t c.formula) present.1.1.0;
      },
      begun_right t c.serial cs
          (λ m h. f m (omega arith) ∙ rw (ne_eqb c.serial m (λ e. omega arith), find)) r.1 b.1 o.1,
    )

-- its formulas are the ledger's; issued is what the linear credentials hold, and nothing is withdrawn
begun_formulas : (t : Ledger) → formula_in (begun t) ≡ formula t
unfolding formula_in
begun_formulas t = refl

begun_issued : (t : Ledger) (s : ℕ) → issued s (begun t) ≡ sum (linearly (seats_and_places_in t s)) t.live
unfolding issued
begun_issued t s = refl

begun_withdrawn : (t : Ledger) (s : ℕ) → withdrawn s (begun t) ≡ 0
unfolding withdrawn
begun_withdrawn t s = refl

begun_agrees : (t : Ledger) → Lawful t → Agrees t (begun t)
begun_agrees t w = record {
  tabled = w.bounded.tabled;
  lines = w.bounded.lines;
  formulas = begun_formulas t;
  credentials = begun_right t 0 t.live (λ m h. refl) w.bounded.rises w.bounded.below w.obeys;
  totals = λ s. omega (arith, begun_issued t s, begun_withdrawn t s);
}

pub agrees : (start : Ledger) → Begins start → (bs : List (List ℕ)) → Agrees (after start bs) (history_of start bs)
agrees start g bs =
    walk note Agrees note_silent accept_keeps start (begun start) bs (begun_agrees start (begins_lawful g))

-- The figures of a tally

-- what a linear credential gives to the three figures is what its formula has
figures_sum : (inside : Bool) (k : Kind) (s : ℕ) (a : Formula)
    → by_kind k (open_in inside s a) 0 + by_kind k (shut_in inside s a) 0 + by_kind k (places s a) 0
    ≡ by_kind k (seats_and_places s a) 0
figures_sum inside Linear s a = omega (arith, open_shut inside s a)
figures_sum inside Unrestricted s a = refl

tally_sum : (t : Ledger) (s m : ℕ) (cs : List Credential)
    → sum (open_of t s m) cs + sum (shut_of t s m) cs + sum (places_of t s) cs
    ≡ sum (linearly (seats_and_places_in t s)) cs
unfolding sum
tally_sum t s m [] = refl
tally_sum t s m (c ∷ cs) =
    omega (
      arith,
      tally_sum t s m cs,
      figures_sum (has c.interval m) c.kind s (formula t c.formula),
    )

-- a tally is always accepted
tally_accepted : (t : Ledger) (s m : ℕ) (b : List ℕ) → length b ≤ max_bytes → request_of b ≡ some (tally s m)
    → call t b ≡ accept t (tally s m)
unfolding checks intervals
tally_accepted t s m b le e =
    call_read t b (tally s m) le e ∙ handle_passes t (tally s m) (none_stops (no_intervals t (tally s m) refl))

adds_up : (start : Ledger) (calls : List (List ℕ)) (s m : ℕ) → s in_range session → m in_range minute
    → Agrees (after start calls) (history_of start calls) → AddsUp start calls s m
unfolding accept open_seats shut_seats placed
adds_up start calls s m hs hm a =
    let t = after start calls in
    let r : InRange (tally s m) = record { session = hs; minute = hm } in
    let e = tally_accepted t s m (write (tally s m)) (write_short (tally s m) r) (write_read (tally s m) r) in
    record {
      open_seats = open_seats t s m;
      shut_seats = shut_seats t s m;
      placed = placed t s;
      answer = ap heard e;
      sum = omega (arith, a.totals s, tally_sum t s m t.live);
    }

pub demand_3 : Demand3
demand_3 start g calls s m hs hm = adds_up start calls s m hs hm (agrees start g calls)

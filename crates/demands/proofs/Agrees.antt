-- The ledger is what its history says: kept by each accepted request but the booking, whose part is in Demand3.antt.
use mathlib.Core.Path.{◌≡◌, refl, sym, ap, subst, ◌∙◌, fun_ext}
use mathlib.Core.List.{List, [], ◌∷◌, ◌++◌}
use mathlib.Core.Option.{Option, none, some}
use mathlib.Core.Bool.{true, false}
use Prim.Native.Nat.{ℕ, ◌+◌, ◌<◌, ◌≤◌}
use native.Mathlib.Omega.{arith}
use lib.Dec.{eqb}
use lib.ListN.{length, length-append}
use borrow.Author.Tests.{ne_eqb, eq-eqb}
use Rattle.logic.specs.declared.Interval.{Interval}
use Rattle.logic.specs.Formula.{Formula}
use Rattle.logic.specs.Multiset.{Every, sum}
use Rattle.logic.proofs.Multisets.{ins_sum, snoc_sum, same_sum, every_out, every_snoc, every_map}
use Rattle.request.specs.declared.Kind.{Kind}
use Rattle.request.specs.Request.{Line, Request, word, issue, withdraw, tally}
use Rattle.ledger.specs.declared.Credential.{Credential}
use Rattle.ledger.specs.declared.Answer.TheVariants.{Accepted, Counted, Refused}
use Rattle.ledger.specs.Table.{form, names}
use Rattle.ledger.specs.Ledger.{Ledger, formula, by_kind, find, without_serial}
use Rattle.ledger.specs.Checks.{max_formulas}
use Rattle.ledger.specs.Calls.{with_line, with_live, with_credential}
use Rattle.demands.specs.History.{Event, History, ◌upon◌, note, learn, formula_in, Given, given_in}
use Rattle.demands.specs.History.{seats_and_places, issued}
use Rattle.demands.specs.History.{seats_and_places_of, withdrawn}
use Rattle.ledger.proofs.Credentials.{take_out, linearly}
use Rattle.ledger.specs.Bounds.{There, Tabled}
use Rattle.ledger.proofs.FormulaTable.{formula_snoc, formula_stays, line_tabled}
use Rattle.ledger.proofs.Bounds.{same_table}
use Rattle.ledger.proofs.Passed.{FitsKind}

pub note_silent : (o : Option Request) (n k : ℕ) (h : History) → note o (Refused n k) h ≡ h
note_silent none n k h = refl
note_silent (some r) n k h = refl

-- a live credential is the one that the history gave its serial
pub record Right (t : Ledger) (h : History) (c : Credential) : Type 0 where
  pub given : given_in h c.serial ≡ some (record { kind = c.kind; formula = c.formula })
  pub below : c.serial < t.next
  pub there : c.formula < length t.lines
  pub fits : FitsKind c.kind (formula t c.formula)

-- seats and places of a session in a credential's formula
abbrev pub seats_and_places_in : Ledger → ℕ → Credential → ℕ
seats_and_places_in t s c = seats_and_places s (formula t c.formula)

pub record Agrees (t : Ledger) (h : History) : Type 0 where
  pub tabled : Tabled t
  pub lines : length t.lines ≤ max_formulas
  pub formulas : formula_in h ≡ formula t
  pub credentials : Every (Right t h) t.live
  pub totals : (s : ℕ) → sum (linearly (seats_and_places_in t s)) t.live + withdrawn s h ≡ issued s h

abbrev pub event : Request → ℕ → Event
event r n = record { request = r; answer = Accepted n }

-- A new formula

pub word_keeps : (t : Ledger) (h : History) (l : Line) → Agrees t h → There t (names l)
    → length t.lines < max_formulas
    → Agrees (with_line t l) (event (word l) (length t.lines) upon h)
unfolding formula_in given_in issued withdrawn
word_keeps t h l a r room = record {
  tabled = line_tabled t l a.tabled r;
  lines = omega (arith, length-append t.lines (l ∷ []));
  formulas = fun_ext (λ n.
      ap (λ (T : ℕ → Formula). elim (eqb n (length t.lines)) as (λ z. Formula) [ true ↦ form T l | false ↦ T n ])
      a.formulas
      ∙ sym (formula_snoc t l n));
  credentials = every_map (λ c r. record {
    given = r.given;
    below = r.below;
    there = omega (arith, length-append t.lines (l ∷ []), r.there);
    fits = subst (FitsKind c.kind) (sym (formula_stays t l c.formula r.there)) r.fits;
  }) t.live a.credentials;
  totals = λ s. omega (
    arith,
    a.totals s,
    same_sum (Right t h) (linearly (seats_and_places_in t s)) (linearly (seats_and_places_in (with_line t l) s)) t.live
        (λ c r. ap (λ (f : Formula). by_kind c.kind (seats_and_places s f) 0)
        (sym (formula_stays t l c.formula r.there)))
        a.credentials,
  );
}

-- A new credential, with the next serial

abbrev pub new : Ledger → Kind → ℕ → Interval → Credential
new t k n i = record { serial = t.next; kind = k; formula = n; interval = i }

learned : {A : Type 0} (n : ℕ) (x : A) (f : ℕ → A) → learn (Accepted n) x f n ≡ x
learned n x f = rw (eq-eqb n n refl, learn)

unlearned : {A : Type 0} (n k : ℕ) (x : A) (f : ℕ → A) → n < k → learn (Accepted k) x f n ≡ f n
unlearned n k x f lt = rw (ne_eqb n k (λ e. omega arith), learn)

pub given_right : (t : Ledger) (h : History) (e : Event) (cs : List Credential) (k : Kind) (n : ℕ) (i : Interval)
    → given_in (e upon h) ≡ learn (Accepted t.next) (some (record { kind = k; formula = n })) (given_in h)
    → Every (Right t h) cs → n < length t.lines → FitsKind k (formula t n)
    → Every (Right (with_credential (with_live t cs) k n i) (e upon h)) (cs ++ (new t k n i ∷ []))
given_right t h e cs k n i q r lt f =
    every_snoc _ cs (new t k n i)
    (every_map (λ c r. record {
      given = ap (λ (g : ℕ → Option Given). g c.serial) q
          ∙ unlearned c.serial t.next _ (given_in h) r.below ∙ r.given;
      below = omega (arith, r.below);
      there = r.there;
      fits = r.fits;
    }) cs r)
    (record {
      given = ap (λ (g : ℕ → Option Given). g t.next) q ∙ learned t.next _ (given_in h);
      below = omega arith;
      there = lt;
      fits = f;
    })

pub issue_keeps : (t : Ledger) (h : History) (k : Kind) (n : ℕ) (i : Interval) → Agrees t h → n < length t.lines
    → FitsKind k (formula t n) → Agrees (with_credential t k n i) (event (issue k n i) t.next upon h)
unfolding formula_in given_in issued withdrawn
issue_keeps t h k n i a lt f = record {
  tabled = same_table t _ _ a.tabled;
  lines = a.lines;
  formulas = a.formulas;
  credentials = given_right t h _ t.live k n i refl a.credentials lt f;
  totals = λ s. omega (
    arith,
    a.totals s,
    snoc_sum (linearly (seats_and_places_in t s)) t.live (new t k n i),
    ap (λ (T : ℕ → Formula). by_kind k (seats_and_places s (T n)) 0) a.formulas,
  );
}

-- A credential withdrawn: what the history counts for a serial whose credential is live

withdrawn_is : (t : Ledger) (h : History) (s : ℕ) (c : Credential) → Agrees t h → Right t h c
    → seats_and_places_of s h (given_in h c.serial) ≡ linearly (seats_and_places_in t s) c
withdrawn_is t h s c a r =
    ap (seats_and_places_of s h) r.given
    ∙ ap (λ (T : ℕ → Formula). by_kind c.kind (seats_and_places s (T c.formula)) 0) a.formulas

-- the history knows what it knew, if the new event gives no serial
known : (t t' : Ledger) (h h' : History) (cs : List Credential) → t'.next ≡ t.next → t'.lines ≡ t.lines
    → given_in h' ≡ given_in h → Every (Right t h) cs → Every (Right t' h') cs
known t t' h h' cs n l g = every_map (λ c q. record {
  given = ap (λ (f : ℕ → Option Given). f c.serial) g ∙ q.given;
  below = omega (arith, q.below);
  there = omega (arith, q.there, ap length l);
  fits = subst
      (λ (ls : List Line). FitsKind c.kind (formula (record { lines = ls; live = []; next = 0 }) c.formula))
      (sym l) q.fits;
}) cs

pub withdraw_keeps : (t : Ledger) (h : History) (n : ℕ) (c : Credential) → find t.live n ≡ some c → Agrees t h
    → Agrees (with_live t (without_serial t.live n)) (event (withdraw n) n upon h)
unfolding formula_in given_in issued withdrawn
withdraw_keeps t h n c e a =
    let out = take_out t.live n e in
    let r = every_out (Right t h) out.1 a.credentials in
    record {
      tabled = same_table t _ _ a.tabled;
      lines = a.lines;
      formulas = a.formulas;
      credentials = known t _ h _ (without_serial t.live n) refl refl refl r.1;
      totals = λ s. omega (
        arith,
        a.totals s,
        ins_sum (linearly (seats_and_places_in t s)) out.1,
        withdrawn_is t h s c a r.0,
        ap (λ (m : ℕ). seats_and_places_of s h (given_in h m)) out.0,
      );
    }

-- A tally

pub tally_keeps : (t : Ledger) (h : History) (s m x y z : ℕ) → Agrees t h
    → Agrees t (record { request = tally s m; answer = Counted x y z } upon h)
unfolding formula_in given_in issued withdrawn
tally_keeps t h s m x y z a = record {
  tabled = a.tabled;
  lines = a.lines;
  formulas = a.formulas;
  credentials = known t t h _ t.live refl refl refl a.credentials;
  totals = λ s. omega (arith, a.totals s);
}

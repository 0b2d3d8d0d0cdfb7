-- What becomes of every serial when a call is accepted.
use mathlib.Core.Path.{◌≡◌, refl, sym, ap, subst, ◌∙◌}
use mathlib.Core.List.{List, [], ◌∷◌, ◌++◌}
use mathlib.Core.Option.{Option, none, some}
use mathlib.Core.Bool.{Bool, true, false, ◌&&◌, ◌||◌}
use Prim.Native.Nat.{ℕ, ◌+◌, ◌≤◌}
use native.Mathlib.Omega.{arith}
use lib.Dec.{eqb}
use lib.ListN.{length}
use borrow.Author.Tests.{eqb-true, eqb-false, eq-eqb, ne_eqb}
use Rattle.request.specs.declared.Kind.{Kind}
use Rattle.request.specs.declared.Kind.TheVariants.{Linear, Unrestricted}
use Rattle.request.specs.Request.{Request, word, issue, withdraw, book, tally}
use Rattle.ledger.specs.declared.Credential.{Credential}
use Rattle.ledger.specs.Ledger.{Ledger, by_kind, find, without_serial, held, spend}
use Rattle.ledger.specs.Checks.{any_of}
use Rattle.ledger.specs.Calls.{Reply, told, accept, call}
use Rattle.ledger.proofs.Answers.{some_inj}
use Rattle.demands.specs.History.{History, begun, note}
use Rattle.demands.proofs.Agrees.{note_silent}
use Rattle.ledger.proofs.Walk.{Keeps, walk}
use Rattle.ledger.specs.Bounds.{Rises, Below, Bounded}
use Rattle.ledger.proofs.Bounds.{rises_without}
use Rattle.snapshot.proofs.Lawful.{lawful}
use Rattle.demands.specs.Effects.{EffectOf, Effects, spent, serials, CountUp, SerialsOnce}
use Rattle.demands.proofs.Demand1.{call_accepts}

abbrev Found : Bool → Option Credential → Option Credential → Option Credential
Found b x y = elim b as (λ z. Option Credential) [ true ↦ x | false ↦ y ]

-- a serial below all
find_rising : (lo : ℕ) (cs : List Credential) (m : ℕ) → m ≤ lo → Rises lo cs → find cs m ≡ none
unfolding find
find_rising lo [] m le r = refl
find_rising lo (c ∷ cs) m le r =
    let l = r.0 in
    rw (ne_eqb c.serial m (λ e. omega arith), find) (find_rising c.serial cs m (omega arith) r.1)

-- one credential more, with a serial above all
find_snoc : (n : ℕ) (cs : List Credential) (c : Credential) (m : ℕ) → c.serial ≡ n → Below n cs
    → find (cs ++ (c ∷ [])) m ≡ Found (eqb m n) (some c) (find cs m)
unfolding find
find_snoc n [] c m e b = go (eqb m n) refl
  where
    go : (x : Bool) → eqb m n ≡ x
        → Found (eqb c.serial m) (some c) none ≡ Found x (some c) none
    go true q = rw (eq-eqb c.serial m (e ∙ sym (eqb-true m n q)))
    go false q = rw (ne_eqb c.serial m (λ z. eqb-false m n q (sym z ∙ e)))
find_snoc n (d ∷ cs) c m e b = go (eqb d.serial m) refl (find_snoc n cs c m e b.1)
  where
    go : (x : Bool) → eqb d.serial m ≡ x
        → find (cs ++ (c ∷ [])) m ≡ Found (eqb m n) (some c) (find cs m)
        → Found x (some d) (find (cs ++ (c ∷ [])) m) ≡ Found (eqb m n) (some c) (Found x (some d) (find cs m))
    go true q ih =
        let l = b.0 in
        let z = eqb-true d.serial m q in
        rw (ne_eqb m n (λ y. omega arith))
    go false q ih = ih

-- one taken out: it is gone, the others stay
find_without : (lo : ℕ) (cs : List Credential) (n m : ℕ) → Rises lo cs
    → find (without_serial cs n) m ≡ Found (eqb m n) none (find cs m)
unfolding find without_serial
find_without lo [] n m r = go (eqb m n)
  where
    go : (x : Bool) → none ≡ Found x none none
    go true = refl
    go false = refl
find_without lo (d ∷ cs) n m r =
    go (eqb d.serial n) refl (eqb d.serial m) refl (eqb m n) refl (find_without d.serial cs n m r.1)
  where
    go : (x : Bool) → eqb d.serial n ≡ x → (y : Bool) → eqb d.serial m ≡ y → (z : Bool) → eqb m n ≡ z
        → find (without_serial cs n) m ≡ Found (eqb m n) none (find cs m)
        → find (elim x as (λ z. List Credential) [ true ↦ cs | false ↦ d ∷ without_serial cs n ]) m
        ≡ Found z none (Found y (some d) (find cs m))
    go true p true q true w ih = find_rising d.serial cs m (omega (arith, eqb-true d.serial m q)) r.1
    go true p true q false w ih = absurd (eqb-false m n w (sym (eqb-true _ _ q) ∙ eqb-true _ _ p))
    go true p false q true w ih =
        find_rising d.serial cs m (omega (arith, eqb-true d.serial n p, eqb-true m n w)) r.1
    go true p false q false w ih = refl
    go false p true q true w ih = absurd (eqb-false d.serial n p (eqb-true _ _ q ∙ eqb-true _ _ w))
    go false p true q false w ih = rw (q, find)
    go false p false q true w ih = rw (q, find) (ih ∙ rw w)
    go false p false q false w ih = rw (q, find) (ih ∙ rw w)

below_without : (n k : ℕ) (cs : List Credential) → Below n cs → Below n (without_serial cs k)
unfolding without_serial
below_without n k [] b = tt
below_without n k (c ∷ cs) b = go (eqb c.serial k) (below_without n k cs b.1)
  where
    go : (x : Bool) → Below n (without_serial cs k)
        → Below n (elim x as (λ z. List Credential) [ true ↦ cs | false ↦ c ∷ without_serial cs k ])
    go true h = b.1
    go false h = (b.0, h)

below_spend : (n : ℕ) (cs hs : List Credential) → Below n cs → Below n (spend cs hs)
unfolding spend
below_spend n cs [] b = b
below_spend n cs (h ∷ hs) b = below_spend n (by_kind h.kind (without_serial cs h.serial) cs) hs (go h.kind)
  where
    go : (k : Kind) → Below n (by_kind k (without_serial cs h.serial) cs)
    go Linear = below_without n h.serial cs b
    go Unrestricted = b

-- twice taken out is once
twice_out : (x y : Bool) (o : Option Credential) → Found x none (Found y none o) ≡ Found (y || x) none o
twice_out true true o = refl
twice_out true false o = refl
twice_out false true o = refl
twice_out false false o = refl

eqb_sym : (m n : ℕ) → eqb m n ≡ eqb n m
eqb_sym m n = go (eqb n m) refl
  where
    go : (b : Bool) → eqb n m ≡ b → eqb m n ≡ b
    go true e = eq-eqb m n (sym (eqb-true n m e))
    go false e = ne_eqb m n (λ q. eqb-false n m e (sym q))

-- the linear ones of a list taken out
find_spend : (lo : ℕ) (cs hs : List Credential) (m : ℕ) → Rises lo cs
    → find (spend cs hs) m ≡ Found (spent hs m) none (find cs m)
unfolding spend spent any_of
find_spend lo cs [] m r = refl
find_spend lo cs (h ∷ hs) m r = go h.kind (λ ds. find_spend lo ds hs m)
  where
    go : (k : Kind)
        → ((ds : List Credential) → Rises lo ds → find (spend ds hs) m ≡ Found (spent hs m) none (find ds m))
        → find (spend (by_kind k (without_serial cs h.serial) cs) hs) m
        ≡ Found (by_kind k true false && eqb h.serial m || spent hs m) none (find cs m)
    go Linear ih =
        ih (without_serial cs h.serial) (rises_without lo h.serial cs r)
        ∙ ap (Found (spent hs m) none) (find_without lo cs h.serial m r)
        ∙ twice_out (spent hs m) (eqb m h.serial) (find cs m)
        ∙ ap (λ (b : Bool). Found (b || spent hs m) none (find cs m)) (eqb_sym m h.serial)
    go Unrestricted ih = ih cs r

effect : (t : Ledger) → Bounded t → (r : Request) → EffectOf t r (told (accept t r).answer) (accept t r).ledger
unfolding accept
effect t b (word l) = record { answer = refl; ledger = refl }
effect t b (issue k n i) = record {
  answer = refl;
  lines = refl;
  next = refl;
  live = λ m. find_snoc t.next t.live _ m refl b.below;
}
effect t b (withdraw n) = record {
  answer = refl;
  lines = refl;
  next = refl;
  live = λ m. find_without 0 t.live n m b.rises;
}
effect t b (book x) = record {
  answer = refl;
  lines = refl;
  next = refl;
  live = λ m.
      find_snoc t.next (spend t.live (held t.live x.holds)) _ m refl
      (below_spend t.next t.live (held t.live x.holds) b.below)
      ∙ ap (Found (eqb m t.next) _) (find_spend 0 t.live (held t.live x.holds) m b.rises);
}
effect t b (tally s m) = record { answer = refl; ledger = refl }

pub effects : Effects
effects t reached bytes r e a =
    let c = call_accepts t bytes a in
    let same : c.0 ≡ r = some_inj (sym c.1 ∙ e) in
    subst (λ (d : Reply). EffectOf t r (told d.answer) d.ledger) (sym (c.2 ∙ ap (accept t) same))
    (effect t (lawful t reached).bounded r)

-- Serials, in order

record InOrder (lo : ℕ) (t : Ledger) (h : History) : Type 0 where
  up : CountUp lo (serials h)
  next : t.next ≡ length (serials h) + lo

accept_in_order : (lo : ℕ) → Keeps note (InOrder lo)
unfolding accept serials
accept_in_order lo t h b (word l) e p o = record { up = o.up; next = o.next }
accept_in_order lo t h b (issue k n i) e p o = record { up = (o.next, o.up); next = omega (arith, o.next) }
accept_in_order lo t h b (withdraw n) e p o = record { up = o.up; next = o.next }
accept_in_order lo t h b (book x) e p o = record { up = (o.next, o.up); next = omega (arith, o.next) }
accept_in_order lo t h b (tally s m) e p o = record { up = o.up; next = o.next }

pub serials_once : SerialsOnce
unfolding serials
serials_once start calls =
    (walk note (InOrder start.next) note_silent (accept_in_order start.next) start (begun start) calls
    (record { up = tt; next = omega arith })).up

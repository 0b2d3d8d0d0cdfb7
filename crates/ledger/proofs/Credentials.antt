-- Lists of credentials: what is found, what is taken out, what is spent.
use mathlib.Core.Path.{◌≡◌, refl, sym, ap, subst, ◌∙◌}
use mathlib.Core.List.{List, [], ◌∷◌}
use mathlib.Core.Option.{Option, none, some}
use mathlib.Core.Bool.{Bool, true, false, ◌||◌}
use Prim.Native.Nat.{ℕ, suc, ◌+◌, ◌≤◌}
use native.Mathlib.Omega.{arith}
use lib.Dec.{eqb}
use lib.ListN.{length}
use borrow.Author.Tests.{eqb-true, eqb-false}
use Rattle.logic.specs.Formula.{Formula, seats}
use Rattle.logic.specs.Multiset.{Ins, here, there, Every, sum}
use Rattle.logic.proofs.Tests.{no_truth}
use Rattle.logic.proofs.Multisets.{ins_length, ins_sum, every_out}
use Rattle.logic.proofs.Houses.{house_seats_holds}
use Rattle.request.specs.declared.Kind.{Kind}
use Rattle.request.specs.declared.Kind.TheVariants.{Linear, Unrestricted}
use Rattle.ledger.specs.declared.Credential.{Credential}
use Rattle.ledger.specs.Ledger.{Ledger, by_kind, find, without_serial, is_none, cons_some, held, linear_count, spend}
use Rattle.ledger.specs.Checks.{any_of, dead, twice}
use Rattle.ledger.specs.Calls.{open_in, shut_in}
use Rattle.ledger.proofs.Answers.{some_none, some_inj}

-- What is found can be taken out.
pub take_out : (cs : List Credential) (n : ℕ) {c : Credential} → find cs n ≡ some c
    → (c.serial ≡ n) × Ins c (without_serial cs n) cs
unfolding find without_serial
take_out [] n e = absurd (some_none (sym e))
take_out (d ∷ cs) n {c} e = go (eqb d.serial n) refl e (take_out cs n)
  where
    go : (b : Bool) → eqb d.serial n ≡ b
        → elim b as (λ x. Option Credential) [ true ↦ some d | false ↦ find cs n ] ≡ some c
        → (find cs n ≡ some c → (c.serial ≡ n) × Ins c (without_serial cs n) cs)
        → (c.serial ≡ n)
        × Ins c (elim b as (λ x. List Credential) [ true ↦ cs | false ↦ d ∷ without_serial cs n ]) (d ∷ cs)
    go true q e ih =
        let p : c ≡ d = sym (some_inj e) in (ap (λ (x : Credential). x.serial) p ∙ eqb-true _ _ q, here p)
    go false q e ih = let w = ih e in (w.0, there w.1)

-- Another is still found.
abbrev pub Other : ℕ → ℕ → Type 0
Other n m = eqb n m ≡ false

still : (cs : List Credential) (n m : ℕ) → Other n m → find (without_serial cs n) m ≡ find cs m
unfolding find without_serial
still [] n m h = refl
still (d ∷ cs) n m h = go (eqb d.serial n) refl (eqb d.serial m) refl (still cs n m h)
  where
    go : (b : Bool) → eqb d.serial n ≡ b → (x : Bool) → eqb d.serial m ≡ x
        → find (without_serial cs n) m ≡ find cs m
        → find (elim b as (λ x. List Credential) [ true ↦ cs | false ↦ d ∷ without_serial cs n ]) m
        ≡ elim x as (λ x. Option Credential) [ true ↦ some d | false ↦ find cs m ]
    go true p true q ih = absurd (eqb-false n m h (sym (eqb-true _ _ p) ∙ eqb-true _ _ q))
    go true p false q ih = refl
    go false p true q ih = rw (q, find)
    go false p false q ih = rw (q, find) ih

pub any_none : {A : Type 0} (f : A → Bool) (xs : List A) → any_of f xs ≡ false → Every (λ x. f x ≡ false) xs
unfolding any_of
any_none f [] e = tt
any_none f (x ∷ xs) e = go (f x) refl e (any_none f xs)
  where
    go : (b : Bool) → f x ≡ b → (b || any_of f xs) ≡ false → (any_of f xs ≡ false → Every (λ x. f x ≡ false) xs)
        → (f x ≡ false) × Every (λ x. f x ≡ false) xs
    go true q e ih = absurd (no_truth (sym e))
    go false q e ih = (q, ih e)

pub none_any : {A : Type 0} (f : A → Bool) (xs : List A) → Every (λ x. f x ≡ false) xs → any_of f xs ≡ false
unfolding any_of
none_any f [] h = refl
none_any f (x ∷ xs) h = rw h.0 (none_any f xs h.1)

held_still : (cs : List Credential) (n : ℕ) (ms : List ℕ) → Every (Other n) ms
    → held (without_serial cs n) ms ≡ held cs ms
unfolding held
held_still cs n [] h = refl
held_still cs n (m ∷ ms) h = rw (still cs n m h.0, held_still cs n ms h.1)

abbrev pub Alive : List Credential → ℕ → Type 0
Alive cs n = is_none (find cs n) ≡ false

alive_still : (cs : List Credential) (n : ℕ) (ms : List ℕ) → Every (Other n) ms → Every (Alive cs) ms
    → Every (Alive (without_serial cs n)) ms
alive_still cs n [] h a = tt
alive_still cs n (m ∷ ms) h a = (ap is_none (still cs n m h.0) ∙ a.0, alive_still cs n ms h.1 a.1)

-- no serial twice
abbrev pub Apart : List ℕ → Type 0
Apart [] = Unit {0}
Apart (n ∷ ns) = Every (Other n) ns × Apart ns

pub twice_apart : (ns : List ℕ) → twice ns ≡ false → Apart ns
unfolding twice
twice_apart [] e = tt
twice_apart (n ∷ ns) e = go (any_of (eqb n) ns) refl e (twice_apart ns)
  where
    go : (b : Bool) → any_of (eqb n) ns ≡ b → (b || twice ns) ≡ false → (twice ns ≡ false → Apart ns) → Apart (n ∷ ns)
    go true q e ih = absurd (no_truth (sym e))
    go false q e ih = (any_none (eqb n) ns q, ih e)

pub held_length : (cs : List Credential) (ns : List ℕ) → length (held cs ns) ≤ length ns
unfolding held
held_length cs [] = omega arith
held_length cs (n ∷ ns) = go (find cs n) (held_length cs ns)
  where
    go : (o : Option Credential) → length (held cs ns) ≤ length ns
        → length (cons_some o (held cs ns)) ≤ suc (length ns)
    go none le = omega arith
    go (some c) le = omega arith

-- what every credential has, those held have
pub every_held : (P : Credential → Type 0) (cs : List Credential) (ns : List ℕ) → Every P cs → Every P (held cs ns)
unfolding held
every_held P cs [] e = tt
every_held P cs (n ∷ ns) e = go (find cs n) refl (every_held P cs ns e)
  where
    go : (o : Option Credential) → find cs n ≡ o → Every P (held cs ns) → Every P (cons_some o (held cs ns))
    go none q h = h
    go (some c) q h = ((every_out P (take_out cs n q).1 e).0, h)

-- all that are live are found
pub held_all : (cs : List Credential) (ns : List ℕ) → Every (Alive cs) ns → length (held cs ns) ≡ length ns
unfolding held
held_all cs [] a = refl
held_all cs (n ∷ ns) a = go (find cs n) a.0 (held_all cs ns a.1)
  where
    go : (o : Option Credential) → is_none o ≡ false → length (held cs ns) ≡ length ns
        → length (cons_some o (held cs ns)) ≡ suc (length ns)
    go none e q = absurd (no_truth (sym e))
    go (some c) e q = ap suc q

-- what counts for linear credentials alone
abbrev pub linearly : (Credential → ℕ) → Credential → ℕ
linearly f c = by_kind c.kind (f c) 0

-- what is open and what is shut of a formula's seats is all of them
pub open_shut : (inside : Bool) (s : ℕ) (a : Formula) → open_in inside s a + shut_in inside s a ≡ seats s a
open_shut true s a = omega (arith, house_seats_holds false s a)
open_shut false s a = omega arith

-- what is left of the credentials once c is held
abbrev left : Credential → List Credential → List Credential
left c cs = by_kind c.kind (without_serial cs c.serial) cs

module _ (c : Credential) (cs : List Credential) (i : Ins c (without_serial cs c.serial) cs) where
  left_sum : (f : Credential → ℕ) → sum (linearly f) cs ≡ linearly f c + sum (linearly f) (left c cs)
  left_sum f = go c.kind refl
    where
      go : (k : Kind) → c.kind ≡ k
          → sum (linearly f) cs ≡ by_kind k (f c) 0 + sum (linearly f) (by_kind k (without_serial cs c.serial) cs)
      go Linear q = omega (arith, ins_sum (linearly f) i, ap (λ (k : Kind). by_kind k (f c) 0) q)
      go Unrestricted q = omega arith

  left_length : length cs ≡ by_kind c.kind 1 0 + length (left c cs)
  left_length = go c.kind
    where
      go : (k : Kind) → length cs ≡ by_kind k 1 0 + length (by_kind k (without_serial cs c.serial) cs)
      go Linear = omega (arith, ins_length i)
      go Unrestricted = omega arith

left_keeps : (Q : List Credential → Type 0) (c : Credential) (cs : List Credential) → Q cs
    → Q (without_serial cs c.serial)
    → Q (left c cs)
left_keeps Q c cs x y = go c.kind
  where
    go : (k : Kind) → Q (by_kind k (without_serial cs c.serial) cs)
    go Linear = y
    go Unrestricted = x

-- the first hold is spent, and then the others from what is left
module _ (cs : List Credential) (n : ℕ) (ms : List ℕ) (a : Alive cs n) (o : Every (Other n) ms) where
  abbrev once : List Credential
  once = spend cs (held cs (n ∷ []))

  after_first : (Q : List Credential → Type 0) → Q cs → Q (without_serial cs n) → Q once
  unfolding held spend
  after_first Q x y = go (find cs n) refl a
    where
      go : (p : Option Credential) → find cs n ≡ p → is_none p ≡ false → Q (spend cs (cons_some p []))
      go none e q = absurd (no_truth (sym q))
      go (some c) e q = left_keeps Q c cs x (subst (λ (m : ℕ). Q (without_serial cs m)) (sym (take_out cs n e).0) y)

  pub spend_first : spend cs (held cs (n ∷ ms)) ≡ spend once (held once ms)
  unfolding held spend
  spend_first = go (find cs n) a ∙ ap (spend once) (sym (after_first (λ ds. held ds ms ≡ held cs ms) refl
      (held_still cs n ms o)))
    where
      go : (p : Option Credential) → is_none p ≡ false
          → spend cs (cons_some p (held cs ms)) ≡ spend (spend cs (cons_some p [])) (held cs ms)
      go none q = absurd (no_truth (sym q))
      go (some c) q = refl

  pub alive_after : Every (Alive cs) ms → Every (Alive once) ms
  alive_after h = after_first (λ ds. Every (Alive ds) ms) h (alive_still cs n ms o h)

-- The linear ones held and what is left once they are spent add up to what was there; all were there.
pub record Splits (P : Credential → Type 0) (cs hs rest : List Credential) : Type 0 where
  pub sums : (f : Credential → ℕ) → sum (linearly f) cs ≡ sum (linearly f) hs + sum (linearly f) rest
  pub lengths : length cs ≡ linear_count hs + length rest
  pub went : Every P hs
  pub stay : Every P rest

split_held : (P : Credential → Type 0) (ns : List ℕ) (cs : List Credential) → Every (Alive cs) ns → Apart ns
    → Every P cs → Splits P cs (held cs ns) (spend cs (held cs ns))
unfolding held spend sum linear_count
split_held P [] cs a h p = record { sums = λ f. omega arith; lengths = omega arith; went = tt; stay = p }
split_held P (n ∷ ns) cs a h p = go (find cs n) refl a.0 (split_held P ns)
  where
    go : (o : Option Credential) → find cs n ≡ o → is_none o ≡ false
        → ((ds : List Credential) → Every (Alive ds) ns → Apart ns → Every P ds
        → Splits P ds (held ds ns) (spend ds (held ds ns)))
        → Splits P cs (held cs (n ∷ ns)) (spend cs (held cs (n ∷ ns)))
    go none e q ih = absurd (no_truth (sym q))
    go (some c) e q ih =
        let out = take_out cs n e in
        let i : Ins c (without_serial cs c.serial) cs =
        subst (λ (m : ℕ). Ins c (without_serial cs m) cs) (sym out.0) out.1 in
        let o : Every (Other c.serial) ns = subst (λ (m : ℕ). Every (Other m) ns) (sym out.0) h.0 in
        let d = every_out P i p in
        let w = ih (left c cs)
        (left_keeps (λ ds. Every (Alive ds) ns) c cs a.1 (alive_still cs c.serial ns o a.1))
        h.1 (left_keeps (Every P) c cs p d.1) in
        let v = subst (λ (hs : List Credential). Splits P (left c cs) hs (spend (left c cs) hs))
        (left_keeps (λ ds. held ds ns ≡ held cs ns) c cs refl (held_still cs c.serial ns o)) w in
        rw (e, held) (record {
          sums = λ f. omega (arith, left_sum c cs i f, v.sums f);
          lengths = omega (arith, left_length c cs i, v.lengths);
          went = (d.0, v.went);
          stay = v.stay;
        })

pub splits : (P : Credential → Type 0) (t : Ledger) (ns : List ℕ) → any_of (dead t) ns ≡ false → twice ns ≡ false
    → Every P t.live → Splits P t.live (held t.live ns) (spend t.live (held t.live ns))
splits P t ns a h = split_held P ns t.live (any_none (dead t) ns a) (twice_apart ns h)

-- Laws of intervals: the tests decide, ⊇ is an order, a set of minutes has one spelling.
use mathlib.Core.Path.{◌≡◌, refl, ap}
use mathlib.Core.Bool.{Bool, true, false, ◌&&◌, ◌||◌}
use mathlib.Core.Logic.{◌↔◌, ◌⊎◌, inl, inr}
use Prim.Native.Nat.{ℕ, ◌+◌, ◌-◌, min, max, ◌≤◌, ◌<◌}
use native.Mathlib.Omega.{arith}
use lib.Dec.{eqb, leb, ltb}
use borrow.Author.Tests.{ltb-false, le-ltb, eqb-true, eqb-false}
use Rattle.logic.specs.declared.Interval.{Interval}
use Rattle.logic.specs.Choice.{pick}
use Rattle.logic.specs.Interval.{span, in_break, has, ◌⊇◌, covers, contains, same_interval}
use Rattle.logic.specs.Interval.{Ordered, reversed, Inside, Parted, broken, WellFormed}
use Rattle.logic.specs.Statements.{SameTest, SameSet, AsBefore}
use Rattle.logic.proofs.Tests.{Decides, not_false, and_decides, and₃_decides, or_decides, not_decides}
use Rattle.logic.proofs.Tests.{eq_decides, le_decides, lt_decides, not_not, same_test, decides_so}

-- What an interval has

pub record InBreak (i : Interval) (m : ℕ) : Type 0 where
  pub some : 0 < i.last
  pub from : i.first ≤ m
  pub to : m ≤ i.last

pub record Has (i : Interval) (m : ℕ) : Type 0 where
  pub from : i.from ≤ m
  pub to : m ≤ i.to
  pub apart : InBreak i m → ⊥

pub break_decides : (i : Interval) (m : ℕ) → Decides (in_break i m) (InBreak i m)
unfolding in_break
break_decides i m =
    let d = and₃_decides (lt_decides 0 i.last) (le_decides i.first m) (le_decides m i.last) in
    (λ e. let h = d.0 e in record { some = h.0; from = h.1; to = h.2 }, λ r. d.1 (r.some, r.from, r.to))

pub has_decides : (i : Interval) (m : ℕ) → Decides (has i m) (Has i m)
unfolding has
has_decides i m =
    let d = and_decides (and_decides (le_decides i.from m) (le_decides m i.to))
    (not_decides (break_decides i m)) in (
      λ e. let h = d.0 e in record { from = h.0.0; to = h.0.1; apart = h.1 },
      λ r. d.1 ((r.from, r.to), r.apart),
    )

-- What it covers

abbrev Covers : Interval → ℕ → ℕ → Type 0
Covers i p q = (m : ℕ) → p ≤ m → m < q → Has i m

-- the break leaves the minutes from p to before q alone
abbrev Clear : Interval → ℕ → ℕ → Type 0
Clear i p q = (i.last ≡ 0) ⊎ ((i.last < i.first) ⊎ ((i.last < p) ⊎ (q ≤ i.first)))

abbrev Test : Interval → ℕ → ℕ → Type 0
Test i p q = (q ≤ p) ⊎ ((i.from ≤ p) × ((q ≤ i.to + 1) × Clear i p q))

clear_decides : (i : Interval) (p q : ℕ)
    → Decides (eqb i.last 0 || (ltb i.last i.first || (ltb i.last p || leb q i.first))) (Clear i p q)
clear_decides i p q =
    or_decides (eq_decides i.last 0) (or_decides (lt_decides i.last i.first)
    (or_decides (lt_decides i.last p) (le_decides q i.first)))

test_decides : (i : Interval) (p q : ℕ) → Decides (covers i p q) (Test i p q)
unfolding covers
test_decides i p q =
    or_decides (le_decides q p)
    (and_decides (le_decides i.from p) (and_decides (le_decides q (i.to + 1)) (clear_decides i p q)))

clear_apart : (i : Interval) (p q m : ℕ) → Clear i p q → p ≤ m → m < q → InBreak i m → ⊥
clear_apart i p q m (inl e) a b r = omega (arith, r.some)
clear_apart i p q m (inr (inl l)) a b r = omega (arith, r.from, r.to)
clear_apart i p q m (inr (inr (inl l))) a b r = omega (arith, r.to)
clear_apart i p q m (inr (inr (inr l))) a b r = omega (arith, r.from)

test_covers : (i : Interval) (p q : ℕ) → Test i p q → Covers i p q
test_covers i p q (inl e) m a b = absurd (omega (arith, e, a, b))
test_covers i p q (inr t) m a b = record {
  from = omega (arith, t.0);
  to = omega (arith, t.1.0);
  apart = clear_apart i p q m t.1.1 a b;
}

below : {m n : ℕ} → (n ≤ m → ⊥) → m < n
below h = omega (arith, h)

up_to : {m n : ℕ} → (n < m → ⊥) → m ≤ n
up_to h = omega (arith, h)

-- a break that does not leave them alone has one of them: its first, or p where it began before
covers_test : (i : Interval) (p q : ℕ) → Covers i p q → Test i p q
covers_test i p q h = not_not (test_decides i p q) (λ n.
    let l : p < q = below (λ e. n (inl e)) in
    let a = h p (omega arith) l in
    let b = h (q - 1) (omega arith) (omega arith) in
    n (inr (
      a.from,
      (
        omega (arith, b.to),
        not_not (clear_decides i p q) (λ k.
            let s : 0 < i.last = below (λ e. k (inl (omega arith))) in
            let t : i.first ≤ i.last = up_to (λ e. k (inr (inl e))) in
            let u : p ≤ i.last = up_to (λ e. k (inr (inr (inl e)))) in
            let v : i.first < q = below (λ e. k (inr (inr (inr e)))) in
            (h (max p i.first) (omega arith) (omega arith)).apart
            (record { some = s; from = omega arith; to = omega arith })),
      ),
    )))

covers_decides : (i : Interval) (p q : ℕ) → Decides (covers i p q) (Covers i p q)
covers_decides i p q =
    (λ e. test_covers i p q ((test_decides i p q).0 e), λ h. (test_decides i p q).1 (covers_test i p q h))

-- Of J what lies before its break and what lies after it

module _ (i j : Interval) where
  abbrev All : Type 0
  All = (m : ℕ) → Has j m → Has i m

  both_pieces : (j.last ≡ 0 → ⊥) → Covers i j.from (min (j.to + 1) j.first)
      → Covers i (max j.from (j.last + 1)) (j.to + 1) → All
  both_pieces n c d m h = not_not (has_decides i m) (λ o. h.apart (record {
    some = omega (arith, n);
    from = up_to (λ e. o (c m h.from (omega (arith, h.to))));
    to = up_to (λ e. o (d m (omega (arith, h.from)) (omega (arith, h.to))));
  }))

  all_decides : Decides (contains i j) All
  unfolding contains
  all_decides = go (eqb j.last 0) refl
    where
      go : (t : Bool) → eqb j.last 0 ≡ t → Decides (pick t (covers i j.from (j.to + 1))
          (covers i j.from (min (j.to + 1) j.first) && covers i (max j.from (j.last + 1)) (j.to + 1))) All
      go true e =
          let d = covers_decides i j.from (j.to + 1) in
          let z = eqb-true j.last 0 e in (
            λ c m h. d.0 c m h.from (omega (arith, h.to)),
            λ f. d.1 (λ m a b. f m (record { from = a; to = omega arith; apart = λ r. omega (arith, r.some) })),
          )
      go false e =
          let d = and_decides (covers_decides i j.from (min (j.to + 1) j.first))
          (covers_decides i (max j.from (j.last + 1)) (j.to + 1)) in (
            λ c. let w = d.0 c in both_pieces (eqb-false j.last 0 e) w.0 w.1,
            λ f. d.1 (
              λ m a b. f m (record { from = a; to = omega arith; apart = λ r. omega (arith, r.from) }),
              λ m a b. f m (record { from = omega arith; to = omega arith; apart = λ r. omega (arith, r.to) }),
            ),
          )

-- The test decides ⊇, for any four numbers of both.
pub contains_decides : (i j : Interval) → Decides (contains i j) (i ⊇ j)
contains_decides i j =
    let d = all_decides i j in (
      λ e. record { minute = λ m h. (has_decides i m).1 (d.0 e m ((has_decides j m).0 h)) },
      λ c. d.1 (λ m h. (has_decides i m).0 (c.minute m ((has_decides j m).1 h))),
    )

pub ⊇-refl : (i : Interval) → i ⊇ i
⊇-refl i = record { minute = λ m h. h }

pub ⊇-trans : {i j k : Interval} → i ⊇ j → j ⊇ k → i ⊇ k
⊇-trans c d = record { minute = λ m h. c.minute m (d.minute m h) }

-- a minute of a contained interval is one of the containing
pub has_contained : {i j : Interval} → i ⊇ j → (m : ℕ) → Has j m → Has i m
has_contained {i} {j} c m h = (has_decides i m).0 (c.minute m ((has_decides j m).1 h))

-- What a request may name

pub ordered_decides : (i : Interval) → (reversed i ≡ false) ↔ Ordered i
unfolding reversed
ordered_decides i = (ltb-false i.to i.from, le-ltb i.to i.from)

inside_decides : (i : Interval)
    → Decides (ltb i.from i.first && (leb i.first i.last && ltb i.last i.to)) (Inside i)
inside_decides i =
    let d = and₃_decides (lt_decides i.from i.first) (le_decides i.first i.last)
    (lt_decides i.last i.to) in (
      λ e. let h = d.0 e in record { begins = h.0; lasts = h.1; ends = h.2 },
      λ h. d.1 (h.begins, h.lasts, h.ends),
    )

pub broken_decides : (i : Interval) → (broken i ≡ false) ↔ Parted i
unfolding broken
broken_decides i =
    not_false (or_decides (and_decides (eq_decides i.first 0) (eq_decides i.last 0)) (inside_decides i))

pub formed_decides : (i : Interval) → ((reversed i ≡ false) × (broken i ≡ false)) ↔ WellFormed i
formed_decides i = (
  λ e. record { ordered = (ordered_decides i).0 e.0; parted = (broken_decides i).0 e.1 },
  λ w. ((ordered_decides i).1 w.ordered, (broken_decides i).1 w.parted),
)

-- The same four numbers

pub same_decides : SameTest
unfolding same_interval
same_decides i j =
    let d = and_decides (and_decides (eq_decides i.from j.from) (eq_decides i.to j.to))
    (and_decides (eq_decides i.first j.first) (eq_decides i.last j.last)) in (
      λ e. let h = d.0 e in rw (h.0.0, h.0.1, h.1.0, h.1.1),
      λ e. d.1 (
        (ap (λ (k : Interval). k.from) e, ap (λ (k : Interval). k.to) e),
        (ap (λ (k : Interval). k.first) e, ap (λ (k : Interval). k.last) e),
      ),
    )

-- Its first and its last minute are its own, and its break ends before it does.

module _ (j : Interval) (w : WellFormed j) where
  first_minute : Has j j.from
  first_minute = go w.parted
    where
      go : Parted j → Has j j.from
      go (inl e) = record { from = omega arith; to = w.ordered; apart = λ r. omega (arith, r.some, e.1) }
      go (inr s) = record { from = omega arith; to = w.ordered; apart = λ r. omega (arith, r.from, s.begins) }

  last_minute : Has j j.to
  last_minute = go w.parted
    where
      go : Parted j → Has j j.to
      go (inl e) = record { from = w.ordered; to = omega arith; apart = λ r. omega (arith, r.some, e.1) }
      go (inr s) = record { from = w.ordered; to = omega arith; apart = λ r. omega (arith, r.to, s.ends) }

  pub within_ends : (i : Interval) → i ⊇ j → (i.from ≤ j.from) × (j.to ≤ i.to)
  within_ends i c = ((has_contained c j.from first_minute).from, (has_contained c j.to last_minute).to)

  pub break_within : (j.first ≤ j.to) × (j.last ≤ j.to)
  break_within = go w.parted
    where
      go : Parted j → (j.first ≤ j.to) × (j.last ≤ j.to)
      go (inl e) = (omega (arith, e.0), omega (arith, e.1))
      go (inr s) = (omega (arith, s.lasts, s.ends), omega (arith, s.ends))

-- A set of minutes has one spelling

-- within J, what I misses J misses too
missed : {i j : Interval} → i ⊇ j → (m : ℕ) → InBreak i m → j.from ≤ m → m ≤ j.to → InBreak j m
missed {i} {j} c m r a b = not_not (break_decides j m) (λ n.
    (has_contained c m (record { from = a; to = b; apart = n })).apart r)

-- J has a break, and I's lies in it
wider_break : {i j : Interval} → i ⊇ j → i.from ≡ j.from → i.to ≡ j.to → Inside i
    → (0 < j.last) × ((j.first ≤ i.first) × (i.last ≤ j.last))
wider_break {i} {j} c f t s =
    let p = missed c i.first (record { some = omega (arith, s); from = omega arith; to = s.lasts })
    (omega (arith, s)) (omega (arith, s)) in
    let q = missed c i.last (record { some = omega (arith, s); from = s.lasts; to = omega arith })
    (omega (arith, s)) (omega (arith, s)) in
    (p.some, (p.from, q.to))

same_break : {i j : Interval} → i ⊇ j → j ⊇ i → i.from ≡ j.from → i.to ≡ j.to → Parted i → Parted j
    → (i.first ≡ j.first) × (i.last ≡ j.last)
same_break c d f t (inl a) (inl b) = (omega (arith, a.0, b.0), omega (arith, a.1, b.1))
same_break c d f t (inl a) (inr b) = absurd (omega (arith, a.1, (wider_break d (omega arith) (omega arith) b).0))
same_break c d f t (inr a) (inl b) = absurd (omega (arith, b.1, (wider_break c f t a).0))
same_break c d f t (inr a) (inr b) =
    let x = (wider_break c f t a).1 in
    let y = (wider_break d (omega arith) (omega arith) b).1 in
    (omega (arith, x.0, y.0), omega (arith, x.1, y.1))

pub same_set : SameSet
same_set i j wi wj c d =
    let x = within_ends j wj i c in
    let y = within_ends i wi j d in
    let f : i.from ≡ j.from = omega (arith, x.0, y.0) in
    let t : i.to ≡ j.to = omega (arith, x.1, y.1) in
    let s = same_break c d f t wi.parted wj.parted in
    rw (f, t, s.0, s.1)

-- Without breaks

unbroken_has : (a b m : ℕ) → Has (span a b 0 0) m ↔ ((a ≤ m) × (m ≤ b))
unbroken_has a b m = (
  λ h. (h.from, h.to),
  λ h. record { from = h.0; to = h.1; apart = λ r. omega (arith, r.some) },
)

unbroken-⊇ : (a b c d : ℕ) → c ≤ d → (span a b 0 0 ⊇ span c d 0 0) ↔ ((a ≤ c) × (d ≤ b))
unbroken-⊇ a b c d l = (
  within_ends (span c d 0 0) (record { ordered = l; parted = inl (refl, refl) }) (span a b 0 0),
  λ h. record {
    minute = λ m e.
        let k = (has_decides (span c d 0 0) m).0 e in
        (has_decides (span a b 0 0) m).1
        ((unbroken_has a b m).1 (omega (arith, h.0, k.from), omega (arith, h.1, k.to)));
  },
)

pub as_before : AsBefore
as_before = record {
  contains = λ a b c d l.
      same_test (decides_so (contains_decides (span a b 0 0) (span c d 0 0)) (unbroken-⊇ a b c d l))
      (and_decides (le_decides a c) (le_decides d b));
  has = λ a b m.
      same_test (decides_so (has_decides (span a b 0 0) m) (unbroken_has a b m))
      (and_decides (le_decides a m) (le_decides m b));
  unbroken = λ a b. (broken_decides (span a b 0 0)).1 (inl (refl, refl));
}

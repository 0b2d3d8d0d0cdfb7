-- The lengths of lines, from those of their numbers.
use mathlib.Core.Path.{◌≡◌, refl, sym, ◌∙◌}
use mathlib.Core.List.{List, [], ◌∷◌, ◌++◌}
use Prim.Native.Nat.{ℕ, ◌+◌}
use native.Mathlib.Omega.{arith}
use lib.ListN.{length}
use Rattle.logic.specs.declared.Interval.{Interval}
use Rattle.request.specs.declared.Kind.{Kind}
use Rattle.request.specs.declared.Kind.TheVariants.{Linear, Unrestricted}
use Rattle.request.specs.Text.{bytes}
use Rattle.request.specs.Write.{digits, minutes, kind_field}
use Rattle.ledger.specs.declared.Credential.{Credential}
use Rattle.snapshot.specs.declared.Edition.{Edition}
use Rattle.snapshot.specs.declared.Edition.TheVariants.{First, Second}
use Rattle.snapshot.specs.declared.Title.{Title}
use Rattle.snapshot.specs.Snapshot.{edition_field, edition_fields, title_fields, credential_fields}
use Rattle.text_write.specs.declared.Shape.TheVariants.{One, Single, Pair, At, Superset, Triple}
use Rattle.text_write.specs.Put.{Measured, ended, shape_fields}
use Rattle.text_write.proofs.Puts.{Some, ended_length, ended_size}

pub measured_as : {x y : List ℕ} {m r : ℕ} → x ≡ y → Measured x m r → Measured y m r
measured_as {m = m} {r = r} e w = rw e at w

-- what another byte ends is as long
minutes_length : (v : Interval) (s t : ℕ) → length (ended s (minutes v)) ≡ length (ended t (minutes v))
unfolding minutes
minutes_length v s t = ended_size _ _ s ∙ sym (ended_size _ _ t)

pub interval_measured : (v : Interval) {a b c d : ℕ} → Measured (digits v.from) 10 a → Measured (digits v.to) 10 b
    → Measured (digits v.first) 10 c → Measured (digits v.last) 10 d
    → Measured (ended 10 (minutes v)) 44 (a + b + c + d + 4)
unfolding minutes
interval_measured v a b c d = record {
  exact = omega (
    arith,
    a.exact,
    b.exact,
    c.exact,
    d.exact,
    ended_size (digits v.from) (digits v.to ∷ digits v.first ∷ digits v.last ∷ []) 10,
  );
  small = omega (arith, a.small, b.small, c.small, d.small);
}

-- fields before an interval's, and two intervals
before_minutes : (xs : List (List ℕ)) (v : Interval) (s : ℕ) → Some xs
    → length (ended s (xs ++ minutes v)) ≡ length (ended 44 xs) + length (ended s (minutes v))
unfolding minutes
before_minutes xs v s h = ended_length xs (minutes v) s h tt

two_minutes : (x : List ℕ) (v w : Interval) (s : ℕ)
    → length (ended s (x ∷ minutes v ++ minutes w))
    ≡ length x + 1 + (length (ended 44 (minutes v)) + length (ended s (minutes w)))
unfolding minutes
two_minutes x v w s =
    omega (
      arith,
      ended_length (x ∷ []) (minutes v ++ minutes w) s tt tt,
      ended_length (minutes v) (minutes w) s tt tt,
      ended_size x [] 44,
    )

-- Formula lines, by their shape

pub one_measured : Measured (ended 10 (shape_fields One)) 90 2
one_measured = record { exact = sym (ended_size _ [] 10); small = omega arith }

pub single_measured : (x n : ℕ) {a : ℕ} → Measured (digits n) 10 a
    → Measured (ended 10 (shape_fields (Single x n))) 90 (a + 3)
single_measured x n a = record {
  exact = omega (arith, a.exact, ended_size (x ∷ []) (digits n ∷ []) 10);
  small = omega (arith, a.small);
}

pub pair_measured : (x m n : ℕ) {a b : ℕ} → Measured (digits m) 10 a → Measured (digits n) 10 b
    → Measured (ended 10 (shape_fields (Pair x m n))) 90 (a + b + 4)
pair_measured x m n a b = record {
  exact = omega (arith, a.exact, b.exact, ended_size (x ∷ []) (digits m ∷ digits n ∷ []) 10);
  small = omega (arith, a.small, b.small);
}

pub triple_measured : (l m n : ℕ) {a b c : ℕ} → Measured (digits l) 10 a → Measured (digits m) 10 b
    → Measured (digits n) 10 c → Measured (ended 10 (shape_fields (Triple l m n))) 90 (a + b + c + 5)
triple_measured l m n a b c = record {
  exact =
      omega (arith, a.exact, b.exact, c.exact, ended_size (110 ∷ []) (digits l ∷ digits m ∷ digits n ∷ []) 10);
  small = omega (arith, a.small, b.small, c.small);
}

pub at_measured : (n : ℕ) (w : Interval) {a b : ℕ} → Measured (digits n) 10 a → Measured (ended 10 (minutes w)) 44 b
    → Measured (ended 10 (shape_fields (At n w))) 90 (a + b + 3)
at_measured n w a b = record {
  exact = omega (
    arith,
    a.exact,
    b.exact,
    before_minutes ((104 ∷ []) ∷ digits n ∷ []) w 10 tt,
    ended_size (104 ∷ []) (digits n ∷ []) 44,
  );
  small = omega (arith, a.small, b.small);
}

pub superset_measured : (v w : Interval) {a b : ℕ} → Measured (ended 10 (minutes v)) 44 a
    → Measured (ended 10 (minutes w)) 44 b → Measured (ended 10 (shape_fields (Superset v w))) 90 (a + b + 2)
superset_measured v w a b = record {
  exact = omega (arith, a.exact, b.exact, two_minutes (103 ∷ []) v w 10, minutes_length v 10 44);
  small = omega (arith, a.small, b.small);
}

-- Credential lines

kind_length : (k : Kind) → length (kind_field k) ≡ 1
unfolding kind_field bytes
kind_length Linear = refl
kind_length Unrestricted = refl

pub credential_measured : (c : Credential) {a b i : ℕ} → Measured (digits c.serial) 10 a
    → Measured (digits c.formula) 10 b → Measured (ended 10 (minutes c.interval)) 44 i
    → Measured (ended 10 (credential_fields c)) 68 (a + b + i + 4)
unfolding credential_fields
credential_measured c a b i = record {
  exact = omega (
    arith,
    a.exact,
    b.exact,
    i.exact,
    kind_length c.kind,
    before_minutes (digits c.serial ∷ kind_field c.kind ∷ digits c.formula ∷ []) c.interval 10 tt,
    ended_size (digits c.serial) (kind_field c.kind ∷ digits c.formula ∷ []) 44,
  );
  small = omega (arith, a.small, b.small, i.small);
}

-- The first line

one_byte : (e : Edition) → length (edition_field e) ≡ 1
unfolding bytes
one_byte First = refl
one_byte Second = refl

pub title_measured : (t : Title) {a b c : ℕ} → Measured (digits t.next) 10 a → Measured (digits t.lines) 10 b
    → Measured (digits t.live) 10 c → Measured (ended 10 (title_fields t)) 40 (a + b + c + 10)
unfolding title_fields edition_fields bytes
title_measured t a b c = record {
  exact = omega (
    arith,
    a.exact,
    b.exact,
    c.exact,
    one_byte t.edition,
    ended_size (bytes "till") (edition_field t.edition ∷ digits t.next ∷ digits t.lines ∷ digits t.live ∷ []) 10,
  );
  small = omega (arith, a.small, b.small, c.small);
}

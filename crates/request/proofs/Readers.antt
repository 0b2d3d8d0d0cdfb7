-- Laws of readers: from which texts they read a value, and that they read it from no others.
use mathlib.Core.Path.{◌≡◌, refl, sym, ap, subst, ◌∙◌}
use mathlib.Core.Logic.{◌↔◌}
use mathlib.Core.List.{List, [], ◌∷◌, ◌++◌, map, append_assoc, append-nil}
use mathlib.Core.Option.{Option, none, some}
use mathlib.Core.Bool.{Bool, true, false, ◌&&◌, and-eq-true_iff}
use Prim.Native.Nat.{ℕ, zero, suc, ◌+◌, ◌*◌, ◌≤◌, ◌<◌}
use Prim.Native.String.{String}
use native.Mathlib.Omega.{arith}
use lib.Dec.{eqb, leb}
use lib.ListN.{length}
use borrow.Author.Tests.{eqb-true, leb-true}
use Rattle.logic.specs.Multiset.{Every}
use Rattle.logic.specs.Counts.{all_of}
use Rattle.logic.proofs.Tests.{no_truth}
use Rattle.request.specs.Text.{bytes, same_bytes, and_then, fields}
use Rattle.request.specs.Reader.{Reader, return, ◌>>=◌, next, many, named, choose, ended, whole, line}
use Rattle.request.specs.Write.{joined}
use Rattle.request.proofs.Gives.{Gives, nothing, just, given, gives_then, gives_so}
use Rattle.request.proofs.Digits.{Plain, every_append}
use Rattle.request.proofs.Texts.{size, fields_joined, joined_fields, joined_plain, joined_size}

abbrev pub Texts : Type 0
Texts = List (List ℕ)

-- r reads a from the texts ws, all of bytes from lo on, at most n bytes with those that end the texts
pub record Reads {A : Type 0} (lo : ℕ) (r : Reader A) (a : A) (ws : Texts) (n : ℕ) : Type 0 where
  pub back : (ts : Texts) → r (ws ++ ts) ≡ some (a, ts)
  pub plain : Every (Plain lo) ws
  pub short : size ws ≤ n

-- whatever r reads has P, and its texts w are those that were read, after those before
pub record Only {A : Type 0} (P : A → Type 0) (w : A → Texts) (before : Texts) (r : Reader A) : Type 0 where
  pub from : (ts : Texts) → Gives (λ x. P x.0 × (w x.0 ++ x.1 ≡ before ++ ts)) (r ts)

-- r reads just the values with P, each from its texts w
pub record Exact {A : Type 0} (lo : ℕ) (r : Reader A) (P : A → Type 0) (w : A → Texts) (n : ℕ) : Type 0 where
  pub reads : (a : A) → P a → Reads lo r a (w a) n
  pub only : Only P w [] r

-- the same values in other words
pub exact_as : {A : Type 0} {lo n : ℕ} {r : Reader A} {P Q : A → Type 0} {w : A → Texts} → ((a : A) → Q a ↔ P a)
    → Exact lo r P w n → Exact lo r Q w n
exact_as f e = record {
  reads = λ a h. e.reads a ((f a).0 h);
  only = record { from = λ ts. gives_so (e.only.from ts) (λ x p. ((f x.0).1 p.0, p.1)) };
}

size_append : (ss ts : Texts) → size (ss ++ ts) ≡ size ss + size ts
size_append [] ts = omega arith
size_append (s ∷ ss) ts = omega (arith, size_append ss ts)

-- Return and bind

pub only_return : {A : Type 0} {P : A → Type 0} {w : A → Texts} {before : Texts} (a : A)
    → P a → w a ≡ before → Only P w before (return a)
unfolding return
only_return a h e = record { from = λ ts. just (h, ap (λ (ws : Texts). ws ++ ts) e) }

-- the texts before count among its own
pub only_after : {A : Type 0} {P : A → Type 0} {w : A → Texts} {r : Reader A} {before : Texts}
    → Only P w [] r → Only P (λ a. before ++ w a) before r
only_after {w} {before} h = record {
  from = λ ts. gives_so (h.from ts) (λ x p.
      (p.0, append_assoc before (w x.0) x.1 ∙ ap (λ (us : Texts). before ++ us) p.1));
}

pub reads_return : {A : Type 0} (lo : ℕ) (a : A) → Reads lo (return a) a [] 0
unfolding return
reads_return lo a = record { back = λ ts. refl; plain = tt; short = omega arith }

module _ {A B : Type 0} {r : Reader A} (k : A → Reader B) where
  pub only_then : {P : A → Type 0} {w : A → Texts} {Q : B → Type 0} {v : B → Texts} {before : Texts}
      → Only P w [] r → ((a : A) → P a → Only Q v (before ++ w a) (k a)) → Only Q v before (r >>= k)
  unfolding ◌>>=◌
  only_then {w} {before} h f = record {
    from = λ ts. gives_then (h.from ts) (λ x p.
        gives_so ((f x.0 p.0).from x.1) (λ y q.
        (q.0, q.1 ∙ append_assoc before (w x.0) x.1 ∙ ap (λ (us : Texts). before ++ us) p.1)));
  }

  pub reads_then : {lo : ℕ} {a : A} {b : B} {ws vs : Texts} {m n : ℕ}
      → Reads lo r a ws m → Reads lo (k a) b vs n → Reads lo (r >>= k) b (ws ++ vs) (m + n)
  unfolding ◌>>=◌ and_then
  reads_then {ws} {vs} s t = record {
    back = λ ts. rw (append_assoc ws vs ts, s.back (vs ++ ts), and_then) (t.back ts);
    plain = every_append _ ws vs s.plain t.plain;
    short = omega (arith, size_append ws vs, s.short, t.short);
  }

-- the last of several
pub reads_last : {A B : Type 0} {r : Reader A} (f : A → B) {lo : ℕ} {a : A} {ws : Texts} {n : ℕ}
    → Reads lo r a ws n → Reads lo (r >>= (λ x. return (f x))) (f a) ws n
unfolding ◌>>=◌ and_then return
reads_last f s = record { back = λ ts. rw (s.back ts, and_then); plain = s.plain; short = s.short }

-- a longer bound
pub reads_within : {A : Type 0} {lo : ℕ} {r : Reader A} {a : A} {ws : Texts} {m n : ℕ}
    → m ≤ n → Reads lo r a ws m → Reads lo r a ws n
reads_within h s = record { back = s.back; plain = s.plain; short = omega (arith, s.short) }

-- The next text, and lines

pub next_reads : {A : Type 0} (read : List ℕ → Option A) {a : A} {t : List ℕ} {lo n : ℕ}
    → read t ≡ some a → Plain lo t → length t < n → Reads lo (next read) a (t ∷ []) n
unfolding next and_then
next_reads read back plain short = record { back = λ ts. rw (back, and_then); plain = (plain, tt); short = omega arith }

module _ {A : Type 0} {read : List ℕ → Option A} {P : A → Type 0} {t : A → List ℕ} {lo n : ℕ} where
  pub next_exact : ((a : A) → P a → read (t a) ≡ some a) → ((a : A) → P a → Plain lo (t a))
      → ((a : A) → P a → length (t a) < n) → ((x : List ℕ) → Gives (λ a. P a × (t a ≡ x)) (read x))
      → Exact lo (next read) P (λ a. t a ∷ []) n
  unfolding next and_then
  next_exact back plain short only = record {
    reads = λ a h. next_reads read (back a h) (plain a h) (short a h);
    only = record { from = go };
  }
    where
      go : (ts : Texts) → Gives (λ x. P x.0 × ((t x.0 ∷ []) ++ x.1 ≡ ts)) (next read ts)
      go [] = nothing
      go (x ∷ ts) = gives_then (only x) (λ a p. just (p.0, ap (λ (y : List ℕ). y ∷ ts) p.1))

-- all texts, and no more
module _ {A : Type 0} {r : Reader A} where
  pub whole_back : {lo : ℕ} {a : A} {ws : Texts} {n : ℕ} → Reads lo r a ws n → whole r ws ≡ some a
  unfolding whole and_then ended
  whole_back {a} {ws} s = let e : r ws ≡ some (a, []) = rw append-nil at (s.back []) in rw (e, whole, and_then, ended)

  pub whole_only : {P : A → Type 0} {w : A → Texts} → Only P w [] r
      → (ts : Texts) → Gives (λ a. P a × (w a ≡ ts)) (whole r ts)
  unfolding whole ended
  whole_only {P} {w} h ts = gives_then (h.from ts) (λ x p. go x.0 x.1 p.0 p.1)
    where
      go : (a : A) (us : Texts) → P a → w a ++ us ≡ ts → Gives (λ a. P a × (w a ≡ ts)) (ended a us)
      go a [] h e = just (h, sym (append-nil (w a)) ∙ e)
      go a (u ∷ us) h e = nothing

-- a line, whose fields a reader reads that reads nothing from no field
module _ {A : Type 0} {r : Reader A} (none_read : r [] ≡ none) where
  nothing_read : {a : A} {n : ℕ} → Reads 48 r a [] n → ⊥
  nothing_read s = given {P = λ x. ⊥} nothing (sym none_read ∙ s.back [])

  line_back : {a : A} {ws : Texts} {n : ℕ} → Reads 48 r a ws n → whole r (fields (joined ws)) ≡ some a
  line_back {ws = []} s = absurd (nothing_read s)
  line_back {ws = t ∷ ts} s = rw (fields_joined t ts s.plain) (whole_back s)

  line_short : {a : A} {ws : Texts} {n : ℕ} → Reads 48 r a ws n → length (joined ws) < n
  line_short {ws = []} s = absurd (nothing_read s)
  line_short {ws = t ∷ ts} s = omega (arith, joined_size t ts, s.short)

  pub line_reads : {a : A} {ws : Texts} {n : ℕ} → Reads 48 r a ws n → Reads 44 (line r) a (joined ws ∷ []) n
  unfolding line
  line_reads {ws} s = next_reads _ (line_back s) (joined_plain ws s.plain) (line_short s)

  pub line_exact : {P : A → Type 0} {w : A → Texts} {n : ℕ}
      → Exact 48 r P w n → Exact 44 (line r) P (λ a. joined (w a) ∷ []) n
  unfolding line
  line_exact {w} s = next_exact
      (λ a h. line_back (s.reads a h)) (λ a h. joined_plain (w a) (s.reads a h).plain)
      (λ a h. line_short (s.reads a h))
      (λ l. gives_so (whole_only s.only (fields l)) (λ a p. (p.0, ap joined p.1 ∙ joined_fields l)))

-- Tables of words

pub same_bytes_holds : (s t : List ℕ) → same_bytes s t ≡ true → t ≡ s
unfolding same_bytes
same_bytes_holds [] [] e = refl
same_bytes_holds [] (y ∷ ys) e = absurd (no_truth e)
same_bytes_holds (x ∷ xs) [] e = absurd (no_truth e)
same_bytes_holds (x ∷ xs) (y ∷ ys) e =
    let h = (and-eq-true_iff (eqb x y) (same_bytes xs ys)).0 e in
    rw (same_bytes_holds xs ys h.1, eqb-true x y h.0)

-- for each word of a table, what its reader reads
infixr 20 ◌also◌
pub data Rows {A : Type 0} (P : A → Type 0) (w : A → Texts) : List (String × Reader A) → Type 0 where
  done : Rows P w []
  ◌also◌ : {t : String} {r : Reader A} {es : List (String × Reader A)}
      → Only P w (bytes t ∷ []) r → Rows P w es → Rows P w ((t, r) ∷ es)

module _ {A : Type 0} {P : A → Type 0} {w : A → Texts} where
  named_only : {table : List (String × Reader A)} → Rows P w table → (x : List ℕ) → Only P w (x ∷ []) (named table x)
  unfolding named
  named_only done x = record { from = λ ts. nothing }
  named_only (◌also◌ {t = t} {r = r} {es = es} h hs) x = go (same_bytes x (bytes t)) refl (named_only hs x)
    where
      go : (b : Bool) → same_bytes x (bytes t) ≡ b → Only P w (x ∷ []) (named es x)
          → Only P w (x ∷ []) (elim b as (λ z. Reader A) [ true ↦ r | false ↦ named es x ])
      go true e k = subst (λ (y : List ℕ). Only P w (y ∷ []) r) (same_bytes_holds x (bytes t) e) h
      go false e k = k

  pub choose_only : {table : List (String × Reader A)} → Rows P w table → Only P w [] (choose table)
  unfolding choose
  choose_only {table} hs = record { from = go }
    where
      go : (ts : Texts) → Gives (λ x. P x.0 × (w x.0 ++ x.1 ≡ ts)) (choose table ts)
      go [] = nothing
      go (t ∷ ts) = (named_only hs t).from ts

-- a word, of bytes from 48 on, and the fields after it, at most n bytes
abbrev pub fits : String → ℕ → ℕ → Bool
fits t m n = all_of (leb 48) (bytes t) && leb (suc (length (bytes t)) + m) n

all_plain : (t : List ℕ) → all_of (leb 48) t ≡ true → Plain 48 t
unfolding all_of
all_plain [] e = tt
all_plain (x ∷ t) e =
    let h = (and-eq-true_iff (leb 48 x) (all_of (leb 48) t)).0 e in
    (leb-true 48 x h.0, all_plain t h.1)

-- a table that goes on with the word's reader
pub word_reads : {A : Type 0} {r table : Reader A} {a : A} {ws : Texts} {m n : ℕ} (t : String)
    → fits t m n ≡ true → ((us : Texts) → table (bytes t ∷ us) ≡ r us)
    → Reads 48 r a ws m → Reads 48 table a (bytes t ∷ ws) n
word_reads {ws} {m} {n} t e f s =
    let h = (and-eq-true_iff (all_of (leb 48) (bytes t)) (leb (suc (length (bytes t)) + m) n)).0 e in
    record {
      back = λ ts. f (ws ++ ts) ∙ s.back ts;
      plain = (all_plain (bytes t) h.0, s.plain);
      short = omega (arith, leb-true (suc (length (bytes t)) + m) n h.1, s.short);
    }

-- A value made of one field, or of two, after a word

module _ {A B : Type 0} {r : Reader A} {P : A → Type 0} {u : A → Texts} {m : ℕ} (e : Exact 48 r P u m)
    (make : A → B) where
  pub one_reads : {table : Reader B} {n : ℕ} (t : String) (a : A) → P a → fits t m n ≡ true
      → ((us : Texts) → table (bytes t ∷ us) ≡ (r >>= (λ a. return (make a))) us)
      → Reads 48 table (make a) (bytes t ∷ u a) n
  one_reads t a h b f = word_reads t b f (reads_last make (e.reads a h))

  pub one_only : {Q : B → Type 0} {w : B → Texts} {before : Texts}
      → ((a : A) → P a → Q (make a) × (w (make a) ≡ before ++ u a)) → Only Q w before (r >>= (λ a. return (make a)))
  one_only f = only_then _ e.only (λ a h. let p = f a h in only_return _ p.0 p.1)

module _ {A B C : Type 0} {r : Reader A} {s : Reader B} {P : A → Type 0} {Q : B → Type 0} {u : A → Texts}
    {v : B → Texts} {l m : ℕ} (d : Exact 48 r P u l) (e : Exact 48 s Q v m) (make : A → B → C) where
  pub two_reads : {table : Reader C} {n : ℕ} (t : String) (a : A) (b : B) → P a → Q b → fits t (l + m) n ≡ true
      → ((us : Texts) → table (bytes t ∷ us) ≡ (r >>= (λ a. s >>= (λ b. return (make a b)))) us)
      → Reads 48 table (make a b) (bytes t ∷ u a ++ v b) n
  two_reads t a b h k c f = word_reads t c f (reads_then _ (d.reads a h) (reads_last (make a) (e.reads b k)))

  pub two_only : {R : C → Type 0} {w : C → Texts} {before : Texts}
      → ((a : A) (b : B) → P a → Q b → R (make a b) × (w (make a b) ≡ before ++ (u a ++ v b)))
      → Only R w before (r >>= (λ a. s >>= (λ b. return (make a b))))
  two_only {before} f =
      only_then _ d.only (λ a h. one_only e (make a) (λ b k.
      let p = f a b h k in
      (p.0, p.1 ∙ sym (append_assoc before (u a) (v b)))))

-- Several of a kind, each one text

module _ {A : Type 0} {r : Reader A} {P : A → Type 0} {t : A → List ℕ} {lo n : ℕ}
    (s : Exact lo r P (λ a. t a ∷ []) n) where
  pub many_read : (xs : List A) → Every P xs → Reads lo (many (length xs) r) xs (map t xs) (length xs * n)
  unfolding many return
  many_read [] h = record { back = λ ts. refl; plain = tt; short = omega arith }
  many_read (x ∷ xs) h =
      reads_within (omega arith)
      (reads_then _ (s.reads x h.0) (reads_last _ (many_read xs h.1)))

  pub many_only : (m : ℕ) → Only (λ xs. (length xs ≡ m) × Every P xs) (map t) [] (many m r)
  unfolding many
  many_only zero = only_return [] (refl, tt) refl
  many_only (suc m) =
      only_then _ s.only (λ a p. only_then _ (many_only m) (λ xs q.
      only_return (a ∷ xs) (ap suc q.0, (p, q.1)) refl))

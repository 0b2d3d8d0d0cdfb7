-- What is known of a row from the numbers ns of its parts.
use mathlib.Core.Path.{◌≡◌, refl, sym, ap, ap₂, subst, ◌∙◌}
use mathlib.Core.List.{List, [], ◌∷◌}
use mathlib.Core.Bool.{Bool, true, false, ◌&&◌, ◌||◌, not}
use Prim.Native.Nat.{ℕ, ◌+◌, ◌<◌, ◌≤◌}
use native.Mathlib.Omega.{arith}
use Prim.Native.Char.{code}
use native.Mathlib.Decide.{dec_lt}
use lib.Dec.{eqb, ltb, leb}
use lib.ListN.{length}
use borrow.Author.Tests.{lt-ltb, le-ltb, le-leb, lt-leb, leb-false}
use Rattle.logic.specs.Formula.{Formula, size, plain, unbound, quantified}
use Rattle.logic.specs.Counts.{all_of}
use Rattle.logic.specs.Multiset.{sum}
use Rattle.logic.proofs.Multisets.{every_map}
use Rattle.steps.specs.declared.Row.{Row}
use Rattle.ledger.specs.Table.{form, names, row_of}
use Rattle.ledger.specs.Ledger.{Ledger, formula}
use Rattle.ledger.specs.Checks.{any_of, missing, nests}
use Rattle.ledger.proofs.Credentials.{any_none}
use Rattle.ledger.specs.Bounds.{There}
use Rattle.store.specs.Store.{line_of, ledger_of, Canonical}
use Rattle.formula_parts.specs.declared.Parts.{Parts}
use Rattle.formula_parts.specs.Parts.{among, plains, parts_of, numbers}
use Rattle.formula_parts.proofs.PartsOfRows.{size_row, plain_row, unbound_row, quantified_row, parts_row}
use Rattle.formula_parts.proofs.PartsOfRows.{size_row_holds}
use Rattle.formula_parts.proofs.PartsOfRows.{plain_row_holds, unbound_row_holds, quantified_row_holds}
use Rattle.formula_facts.specs.Facts.{Formable}

there_not : (i n : ℕ) → ltb i n ≡ not (leb n i)
there_not i n = go (dec_lt i n)
  where
    go : Dec (i < n) → ltb i n ≡ not (leb n i)
    go (yes h) = simp (lt-ltb i n h, lt-leb n i h)
    go (no h) = let q : n ≤ i = omega arith in simp (le-ltb i n q, le-leb n i q)

not_or : (x y : Bool) → not (x || y) ≡ (not x && not y)
not_or true y = refl
not_or false y = refl

-- all are below the count, or some is missing
all_there : (t : Ledger) (ns : List ℕ) → all_of (λ i. ltb i (length t.lines)) ns ≡ not (any_of (missing t) ns)
unfolding all_of any_of
all_there t [] = refl
all_there t (i ∷ ns) = rw (not_or, there_not i (length t.lines), all_there t ns)

pub other_letter : (T : ℕ → Formula) (r : Row) → Canonical r → among r.letter plains ≡ false
    → false ≡ plain (form T (line_of r))
unfolding plain_row
other_letter T r c e = sym (plain_row_holds T (line_of r) ∙ rw (c, e))

-- where none is missing, all are there
pub none_missing : (t : Ledger) (ns : List ℕ) → any_of (missing t) ns ≡ false → There t ns
none_missing t ns e = every_map (λ k q. leb-false _ _ q) ns (any_none (missing t) ns e)

module _ (r : Row) (p q : Parts) (e : numbers p ≡ parts_of r) (g : p ≡ q) where
  pub parts_are : numbers q ≡ parts_of r
  parts_are = ap numbers (sym g) ∙ e

  pub parts_names : Canonical r → numbers q ≡ names (line_of r)
  parts_names c = parts_are ∙ ap parts_of (sym c) ∙ parts_row (line_of r)

  pub all_below : (l : List ℕ) (n : ℕ) → n ≡ length (ledger_of l).lines → Canonical r
      → all_of (λ i. ltb i n) (numbers q) ≡ not (any_of (missing (ledger_of l)) (names (line_of r)))
  all_below l n h c =
      rw h
      (all_there (ledger_of l) (numbers q)
      ∙ ap (λ (ns : List ℕ). not (any_of (missing (ledger_of l)) ns)) (parts_names c))

  module _ (l : List ℕ) (f : Formable l r) where
    pub parts_there : There (ledger_of l) (numbers q)
    parts_there = subst (There (ledger_of l)) (sym (parts_names f.canonical)) f.there

    pub parts_size : 1 + sum (λ k. size (formula (ledger_of l) k)) (numbers q)
        ≡ size (form (formula (ledger_of l)) (line_of r))
    unfolding size_row
    parts_size = sym (size_row_holds (formula (ledger_of l)) (line_of r) ∙ rw (f.canonical, parts_are))

    pub parts_plain : among r.letter plains ≡ true
        → all_of (λ k. plain (formula (ledger_of l) k)) (numbers q) ≡ plain (form (formula (ledger_of l)) (line_of r))
    unfolding plain_row
    parts_plain k = sym (plain_row_holds (formula (ledger_of l)) (line_of r) ∙ rw (f.canonical, parts_are, k))

    -- holders: what is asked of some part, of the numbers that the code has and of those that the line names
    pub any_part : (p : ℕ → Bool) → any_of p (numbers q) ≡ any_of p (names (line_of r))
    any_part p = ap (any_of p) (parts_names f.canonical)

-- the holders of a formula, from its letter and those of its parts
module _ (l : List ℕ) (r : Row) (c : Canonical r) where
  abbrev any : (Formula → Bool) → Bool
  any f = any_of (λ k. f (formula (ledger_of l) k)) (names (line_of r))

  asked : (f : Formula → Bool) → any_of (λ k. f (formula (ledger_of l) k)) (parts_of (row_of (line_of r))) ≡ any f
  asked f = ap (any_of (λ k. f (formula (ledger_of l) k))) (parts_row (line_of r))

  pub unbound_is : unbound (form (formula (ledger_of l)) (line_of r))
      ≡ ((eqb r.letter (code "n") && eqb r.holder 0) || (not (eqb r.letter (code "q")) && any unbound))
  unfolding unbound_row
  unbound_is =
      unbound_row_holds (formula (ledger_of l)) (line_of r)
      ∙ rw (asked unbound)
      (ap (λ (x : Row). (eqb x.letter (code "n") && eqb x.holder 0)
      || (not (eqb x.letter (code "q")) && any unbound)) c)

  pub quantified_is : quantified (form (formula (ledger_of l)) (line_of r))
      ≡ (eqb r.letter (code "q") || any quantified)
  unfolding quantified_row
  quantified_is =
      quantified_row_holds (formula (ledger_of l)) (line_of r)
      ∙ rw (asked quantified) (ap (λ (x : Row). eqb x.letter (code "q") || any quantified) c)

  pub nests_is : nests (ledger_of l) (line_of r) ≡ (eqb r.letter (code "q") && any quantified)
  nests_is = ap (λ (x : Row). eqb x.letter (code "q") && any quantified) c

-- the line of a `q` names its part alone
pub every_part : (r : Row) → Canonical r → r.letter ≡ code "q" → names (line_of r) ≡ (r.a ∷ [])
unfolding parts_of
every_part r c e = sym (parts_row (line_of r)) ∙ ap parts_of c ∙ rw e

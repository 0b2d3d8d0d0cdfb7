-- The walk down a formula's tree: a formula's parts are smaller than it, and it gives what they give.
use mathlib.Core.Path.{◌≡◌, sym, ap, subst, ◌∙◌}
use mathlib.Core.List.{List, [], ◌∷◌}
use mathlib.Core.Bool.{Bool}
use Prim.Native.Nat.{ℕ, ◌+◌, ◌*◌, ◌≤◌, ◌<◌}
use native.Mathlib.Omega.{arith}
use lib.ListN.{length}
use Rattle.logic.specs.Formula.{size}
use Rattle.logic.specs.Multiset.{Every, sum}
use Rattle.logic.specs.Packed.{place_unit, house_unit}
use Rattle.steps.specs.declared.Row.{Row}
use Rattle.ledger.specs.Table.{row_of}
use Rattle.ledger.specs.Ledger.{formula}
use Rattle.ledger.specs.Checks.{max_size}
use Rattle.ledger.specs.Bounds.{line_at, There}
use Rattle.store_cells.specs.Layout.{row_at}
use Rattle.store.specs.Store.{ledger_of, Good}
use Rattle.store.proofs.Views.{row_is}
use Rattle.formula_parts.specs.declared.Parts.{Parts}
use Rattle.formula_parts.specs.Parts.{parts_of, numbers}
use Rattle.formula_parts.proofs.PartsOfRows.{size_row, parts_row, size_row_holds}
use Rattle.formula_tally.specs.Gives.{gives_under, atom_gives, nearest}
use Rattle.formula_tally.proofs.Giving.{gives_le, or_parts, row_gives}

-- What is asked before part k of a formula of size m is walked: it is smaller, and it is there.
abbrev pub Part : List ℕ → ℕ → ℕ → Type 0
Part l m k = (size (formula (ledger_of l) k) < m) × (Good l × (k < length (ledger_of l).lines))

each_part : (l : List ℕ) {m : ℕ} → Good l → (ks : List ℕ) → There (ledger_of l) ks
    → sum (λ k. size (formula (ledger_of l) k)) ks < m → Every (Part l m) ks
unfolding sum
each_part l g [] h s = tt
each_part l g (k ∷ ks) h s = ((omega arith, (g, h.0)), each_part l g ks h.1 (omega arith))

-- Formula n of size m: ks are its parts, a is what it gives where it has none, and v tells whether the nearest ⟨K⟩
-- above its parts is the house's.
pub record Parted (l : List ℕ) (m n : ℕ) (under : Bool) (s a : ℕ) (v : Bool) (ks : List ℕ) : Type 0 where
  pub each : Every (Part l m) ks
  pub gives : or_parts a (λ k. gives_under v s (formula (ledger_of l) k)) ks
      ≡ gives_under under s (formula (ledger_of l) n)
  pub small : gives_under under s (formula (ledger_of l) n) ≤ (1 + place_unit + house_unit) * max_size

module _ (l : List ℕ) (g : Good l) (n : ℕ) (under : Bool) (s : ℕ) (r : Row) (er : r ≡ row_at l n) where
  pub parted : {m : ℕ} {v : Bool} {p q : Parts} → size (formula (ledger_of l) n) ≡ m → v ≡ nearest under r
      → numbers p ≡ parts_of r → p ≡ q → Parted l m n under s (atom_gives under s r) v (numbers q)
  unfolding size_row
  parted {q = q} em ev ep e =
      let b = g.bounded in
      let t = ledger_of l in
      let T = formula t in
      let line = line_at t n in
      let row : row_of line ≡ r = row_is l g n ∙ sym er in
      let ks : parts_of r ≡ numbers q = sym ep ∙ ap numbers e in
      let sizes : List ℕ → ℕ = sum (λ k. size (T k)) in
      let reads = b.tabled.reads n in
      record {
        each = each_part l g (numbers q)
            (subst (There t) (sym (parts_row line) ∙ ap parts_of row ∙ ks) (b.tabled.refs n))
            (omega (arith, em, ap size reads ∙ size_row_holds T line, ap sizes (ap parts_of row ∙ ks)));
        gives = rw (ev, ← ks, ← row, reads) (row_gives T under s line);
        small = omega (arith, gives_le under s (T n), b.sizes n);
      }

-- What adding a formula row does to the ledger that a store stands for. Of the array only the laws of
-- cells/proofs/Rows are used.
use mathlib.Core.Path.{◌≡◌, sym, ap, ap₂, subst, ◌∙◌}
use mathlib.Core.List.{List, [], ◌∷◌, ◌++◌}
use mathlib.Core.Bool.{Bool, true, false}
use Prim.Native.Nat.{ℕ, ◌+◌, ◌*◌, ◌/◌, ◌%◌, ◌≤◌, ◌<◌}
use native.Mathlib.Omega.{arith}
use native.Mathlib.Decide.{ℕ_discrete}
use borrow.Author.Tests.{eq-eqb}
use lib.ListN.{get_or}
use Rattle.logic.specs.Formula.{Formula, size, plain, bit, unbound, quantified}
use Rattle.logic.specs.Counts.{balanced}
use Rattle.steps.specs.declared.Row.{Row}
use Rattle.ledger.specs.Table.{form}
use Rattle.ledger.specs.Ledger.{Ledger, formula}
use Rattle.ledger.specs.Checks.{max_formulas}
use Rattle.ledger.specs.Calls.{with_line}
use Rattle.ledger.proofs.FormulaTable.{formula_snoc, formula_stays}
use Rattle.ledger.specs.Bounds.{Bounded}
use Rattle.ledger.proofs.Bounds.{line_bounded}
use Rattle.store.specs.Tab.{tab}
use Rattle.store_cells.specs.declared.lines.Facts.{Facts}
use Rattle.store_cells.specs.Layout.{line_count, line_cell, row_at, size_at, plain_at, balanced_at, line_cells}
use Rattle.store_cells.specs.Layout.{put_line_count}
use Rattle.store_cells.specs.Layout.{put_line, size_cell, plain_cell, balanced_cell, line_width, unbound_at}
use Rattle.store_cells.specs.Layout.{quantified_at}
use Rattle.store_cells.specs.Layout.{unbound_cell, quantified_cell, low_cell, high_cell, gives_cell, low_at, high_at}
use Rattle.store_cells.specs.Layout.{gives_at, groups, set_lines, set_width, group_at}
use Rattle.logic.specs.Packed.{counts}
use Rattle.labels.specs.Labels.{member, ◌∋◌}
use Rattle.store.specs.Groups.{Near, Filled, Grouped}
use Rattle.store_formulas.specs.Marked.{Marked}
use Rattle.logic.specs.Span.{Spans}
use Rattle.logic.proofs.Spans.{spans_same}
use Rattle.store.specs.Store.{line_of, ledger_of, Canonical, StandsFor, Wordable}
use Rattle.store.proofs.Tabs.{tab_append}
use Rattle.store_cells.proofs.CellWrites.{row_ext, row_below, SameLive, count_live, head_same, head_line, line_same}
use Rattle.store_cells.proofs.CellWrites.{line_other}
use Rattle.store_cells.proofs.CellWrites.{line_live, line_group, head_group, live_again, below_line, outside_live}
use Rattle.store.proofs.Views.{lines_length}
use Rattle.store.proofs.Live.{same_live, same_ordered}

-- what is kept of row i is right
record Right (m : List ℕ) (i : ℕ) : Type 0 where
  canonical : Canonical (row_at m i)
  sized : size_at m i ≡ size (formula (ledger_of m) i)
  plain_kept : plain_at m i ≡ bit (plain (formula (ledger_of m) i))
  balancedly : balanced_at m i ≡ bit (balanced (formula (ledger_of m) i))
  unbound_kept : unbound_at m i ≡ bit (unbound (formula (ledger_of m) i))
  quantified_kept : quantified_at m i ≡ bit (quantified (formula (ledger_of m) i))
  spanned : Spans (formula (ledger_of m) i) (low_at m i) (high_at m i)
  given : gives_at m i ≡ counts (low_at m i) (formula (ledger_of m) i)

module _ (l : List ℕ) (r : Row) (v : Facts) (a : Wordable l r v) where
  abbrev n : ℕ
  n = line_count l

  abbrev rowed : List ℕ
  rowed = put_line l n r v

  abbrev t : Ledger
  t = ledger_of l

  room : n < max_formulas
  room = omega (arith, lines_length l, a.room)

  rowed_live : SameLive l rowed
  rowed_live = line_live l n r v a.good.long room

  -- the line joins its sets, and is counted
  module _ (joined : List ℕ) (j : Marked rowed joined n v.low v.high) where
    abbrev m : List ℕ
    m = put_line_count joined (n + 1)

    joined_live : SameLive l joined
    joined_live = live_again rowed_live (outside_live rowed joined j.only.long j.only.below j.only.above)

    live : SameLive l m
    live = count_live l joined (n + 1) joined_live

    count : line_count m ≡ n + 1
    count = head_same joined 0 (n + 1) j.only.long (omega arith)

    joined_cell : (k f : ℕ) → k < max_formulas → f < line_width → line_cell m k f ≡ line_cell rowed k f
    joined_cell k f h q =
        head_line joined 0 (n + 1) k f (omega arith) ∙ below_line rowed joined j.only.long j.only.below k f h q

    new_cell : (f : ℕ) → f < line_width → line_cell m n f ≡ get_or (line_cells r v) f 0
    new_cell f q = joined_cell n f room q ∙ line_same l n r v a.good.long room f q

    old_cell : (k f : ℕ) → k < n → f < line_width → line_cell m k f ≡ line_cell l k f
    old_cell k f h q =
        joined_cell k f (omega (arith, room)) q ∙ line_other l n r v k f (omega arith) q

    -- a set's number, before and after
    old_group : (g w : ℕ) → group_at rowed g w ≡ group_at l g w
    old_group g w = line_group l n r v room g w

    new_group : (g w : ℕ) → group_at m g w ≡ group_at joined g w
    new_group g w = head_group joined 0 (n + 1) g w (omega arith)

    -- of another line
    member_same : (g w i : ℕ) → g < groups → w < set_width → i < set_lines → (w * set_lines + i ≡ n → ⊥)
        → member (group_at m g w) i ≡ member (group_at l g w) i
    member_same g w i x y z d =
        ap (λ (v : ℕ). member v i) (new_group g w) ∙ j.only.others g w i x y z d
        ∙ ap (λ (v : ℕ). member v i) (old_group g w)

    filled_all : Filled m
    filled_all =
        let z = j.only.filled rowed_filled in
        record {
          numbers = λ g w x e. z.numbers g w x (rw (new_group g set_width) at e);
          others = λ g w x y e. new_group g w ∙ z.others g w x y (rw (new_group g set_width) at e);
        }
      where
        rowed_filled : Filled rowed
        rowed_filled = record {
          numbers = λ g w x e. a.good.grouped.filled.numbers g w x (rw (old_group g set_width) at e);
          others = λ g w x y e. old_group g w
              ∙ a.good.grouped.filled.others g w x y (rw (old_group g set_width) at e);
        }

    grouped : Grouped m
    unfolding low_at high_at
    grouped = record {
      within = λ g w i x y z e. within_in g w i x y z e (ℕ_discrete (w * set_lines + i) n);
      near = λ k i h x y. near_in k i h x y (ℕ_discrete k n);
      filled = filled_all;
    }
      where
        within_in : (g w i : ℕ) → g < groups → w < set_width → i < set_lines → group_at m g w ∋ i
            → Dec (w * set_lines + i ≡ n) → w * set_lines + i < line_count m
        within_in g w i x y z e (yes d) = omega (arith, count)
        within_in g w i x y z e (no d) =
            omega (arith, count, a.good.grouped.within g w i x y z (sym (member_same g w i x y z d) ∙ e))

        near_in : (k i : ℕ) → k < line_count m → low_at m k ≤ i → i ≤ high_at m k → Dec (k ≡ n) → Near m i k
        near_in k i h x y (yes d) =
            subst (Near m i) (sym d)
            (ap (λ (v : ℕ). member v (n % set_lines)) (new_group (i % groups) (n / set_lines))
            ∙ j.near i (rw (d, new_cell low_cell (omega arith)) at x) (rw (d, new_cell high_cell (omega arith)) at y))
        near_in k i h x y (no d) =
            let q : k < n = omega (arith, count) in
            member_same (i % groups) (k / set_lines) (k % set_lines) (omega arith) (omega (arith, room)) (omega arith)
            (λ e. d (omega arith))
            ∙ a.good.grouped.near k i q (rw (old_cell k low_cell q (omega arith)) at x)
            (rw (old_cell k high_cell q (omega arith)) at y)

    new_row : row_at m n ≡ r
    new_row =
        row_below m n (omega (arith, count)) room
        ∙ row_ext (line_cell m n) (λ f. get_or (line_cells r v) f 0)
        (λ f q. new_cell f (omega arith))

    old_row : (k : ℕ) → k < n → row_at m k ≡ row_at l k
    old_row k h =
        row_below m k (omega (arith, count)) (omega (arith, room))
        ∙ row_ext (line_cell m k) (line_cell l k) (λ f q. old_cell k f h (omega arith))
        ∙ sym (row_below l k h (omega (arith, room)))

    added_lines : tab (line_count m) (λ i. line_of (row_at m i)) ≡ t.lines ++ (line_of r ∷ [])
    unfolding ledger_of
    added_lines =
        rw count (tab_append n (λ i. line_of (row_at l i)) (λ i. line_of (row_at m i)) (line_of r)
        (λ i q. ap line_of (old_row i q)) (ap line_of new_row))

    ledger : ledger_of m ≡ with_line t (line_of r)
    unfolding ledger_of
    ledger j = record { lines = added_lines j; live = same_live l m live a.good.ordered j; next = live.next j }

    new_formula : formula (ledger_of m) n ≡ form (formula t) (line_of r)
    new_formula =
        ap (λ (x : Ledger). formula x n) ledger ∙ formula_snoc t (line_of r) n
        ∙ ap (λ (z : Bool). elim z as (λ _. Formula) [ true ↦ form (formula t) (line_of r) | false ↦ formula t n ])
        (eq-eqb n _ (sym (lines_length l)))

    old_formula : (k : ℕ) → k < n → formula (ledger_of m) k ≡ formula t k
    old_formula k h =
        ap (λ (x : Ledger). formula x k) ledger ∙ formula_stays t (line_of r) k (omega (arith, lines_length l))

    new_right : Right m n
    unfolding size_at plain_at balanced_at unbound_at quantified_at low_at high_at gives_at
    new_right = record {
      canonical = subst Canonical (sym new_row) a.canonical;
      sized = new_cell size_cell (omega arith) ∙ a.facts.sized ∙ ap size (sym new_formula);
      plain_kept = new_cell plain_cell (omega arith) ∙ ap bit (a.facts.plain_kept ∙ ap plain (sym new_formula));
      balancedly = new_cell balanced_cell (omega arith) ∙ ap bit (a.facts.balancedly ∙ ap balanced (sym new_formula));
      unbound_kept = new_cell unbound_cell (omega arith) ∙ ap bit (a.facts.unbound_kept ∙ ap unbound (sym new_formula));
      quantified_kept = new_cell quantified_cell (omega arith)
          ∙ ap bit (a.facts.quantified_kept ∙ ap quantified (sym new_formula));
      spanned = spans_same new_formula (new_cell low_cell (omega arith)) (new_cell high_cell (omega arith))
          a.facts.spanned;
      given = new_cell gives_cell (omega arith) ∙ a.facts.given
          ∙ ap₂ counts (sym (new_cell low_cell (omega arith))) (sym new_formula);
    }

    old_right : (k : ℕ) → k < n → Right m k
    unfolding size_at plain_at balanced_at unbound_at quantified_at low_at high_at gives_at
    old_right k h = record {
      canonical = subst Canonical (sym (old_row k h)) (a.good.canonical k h);
      sized = old_cell k size_cell h (omega arith) ∙ a.good.sizes k h ∙ ap size (sym (old_formula k h));
      plain_kept = old_cell k plain_cell h (omega arith) ∙ a.good.plains k h
          ∙ ap (λ x. bit (plain x)) (sym (old_formula k h));
      balancedly = old_cell k balanced_cell h (omega arith) ∙ a.good.balances k h
          ∙ ap (λ x. bit (balanced x)) (sym (old_formula k h));
      unbound_kept = old_cell k unbound_cell h (omega arith) ∙ a.good.unbounds k h
          ∙ ap (λ x. bit (unbound x)) (sym (old_formula k h));
      quantified_kept = old_cell k quantified_cell h (omega arith) ∙ a.good.quantifieds k h
          ∙ ap (λ x. bit (quantified x)) (sym (old_formula k h));
      spanned = spans_same (old_formula k h) (old_cell k low_cell h (omega arith))
          (old_cell k high_cell h (omega arith))
          (a.good.spans k h);
      given = old_cell k gives_cell h (omega arith) ∙ a.good.givens k h
          ∙ ap₂ counts (sym (old_cell k low_cell h (omega arith))) (sym (old_formula k h));
    }

    right : (k : ℕ) → k < line_count m → Right m k
    right k h = go (ℕ_discrete k n)
      where
        go : Dec (k ≡ n) → Right m k
        go (yes e) = subst (Right m) (sym e) new_right
        go (no e) = old_right k (omega (arith, count))

    added : StandsFor m (with_line t (line_of r))
    added = record {
      good = record {
        long = live.long;
        lines = omega (arith, count, room);
        ordered = same_ordered l m live a.good.ordered (omega (arith, count));
        canonical = λ k h. (right k h).canonical;
        sizes = λ k h. (right k h).sized;
        plains = λ k h. (right k h).plain_kept;
        balances = λ k h. (right k h).balancedly;
        unbounds = λ k h. (right k h).unbound_kept;
        quantifieds = λ k h. (right k h).quantified_kept;
        spans = λ k h. (right k h).spanned;
        givens = λ k h. (right k h).given;
        grouped = grouped;
        bounded = subst Bounded (sym ledger) (line_bounded t a.good.bounded (line_of r) a.room a.there
            (omega (arith, a.facts.sized, a.small)));
      };
      ledger = ledger;
    }

  -- by the stores that make it
  pub add_done : {m₀ m₁ m₂ : List ℕ} {i : ℕ} → i ≡ line_count l → m₀ ≡ put_line l i r v
      → Marked m₀ m₁ i v.low v.high → m₂ ≡ put_line_count m₁ (i + 1)
      → StandsFor m₂ (with_line (ledger_of l) (line_of r))
  add_done {m₀} {m₁} e e₀ k e₂ = rw (e₂, e) (added m₁ (rw (e₀, e) at k))

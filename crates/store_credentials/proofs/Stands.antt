-- What work on credentials leaves: the formula lines, with what is kept beside them.
use mathlib.Core.Path.{◌≡◌, sym, ap, ap₂, subst, ◌∙◌}
use mathlib.Core.List.{List}
use Prim.Native.Nat.{ℕ, ◌/◌, ◌%◌, ◌<◌}
use native.Mathlib.Omega.{arith}
use Rattle.logic.specs.Formula.{size, plain, bit, unbound, quantified}
use Rattle.logic.specs.Counts.{balanced}
use Rattle.logic.specs.Packed.{counts}
use Rattle.request.specs.Request.{Line}
use Rattle.ledger.specs.declared.Credential.{Credential}
use Rattle.ledger.specs.Table.{nth, formulas}
use Rattle.ledger.specs.Ledger.{Ledger, formula}
use Rattle.ledger.specs.Checks.{max_formulas}
use Rattle.ledger.specs.Bounds.{Bounded}
use Rattle.store.specs.Tab.{tab, present}
use Rattle.store_cells.specs.Layout.{line_count, next_serial, row_count, entry_at, put_hint, groups, set_lines}
use Rattle.store_cells.specs.Layout.{set_width}
use Rattle.store.specs.Store.{line_of, ledger_of, Canonical, RowsOrdered, Good, StandsFor}
use Rattle.store.proofs.Tabs.{tab_ext}
use Rattle.store_cells.proofs.CellWrites.{SameLines, lines_self, same_row_holds, same_size, same_plain, same_balanced}
use Rattle.store_cells.proofs.CellWrites.{same_unbound, same_quantified, same_low, same_high, same_gives, same_group}
use Rattle.logic.proofs.Spans.{spans_same}
use Rattle.store_cells.proofs.CredentialRows.{hint_lines, hint_live}
use Rattle.store.proofs.Live.{same_live, same_ordered}

-- m has l's formula rows
module _ (l m : List ℕ) (g : Good l) (s : SameLines l m) where
  same_lines : (ledger_of m).lines ≡ (ledger_of l).lines
  unfolding ledger_of
  same_lines = rw s.count (tab_ext (line_count l) _ _ (λ k h. ap line_of (same_row_holds l m s k)))

  same_formula : (n : ℕ) → formula (ledger_of m) n ≡ formula (ledger_of l) n
  same_formula n = ap (λ (ls : List Line). nth (formulas ls) n) same_lines

  good_live : RowsOrdered m → Bounded (ledger_of m) → Good m
  good_live c b =
      let below : (i : ℕ) → i < line_count m → i < line_count l = λ i h. rw s.count at h in
      let small : (i : ℕ) → i < line_count l → i < max_formulas = λ i h. omega (arith, g.lines) in
      record {
        long = s.long;
        lines = rw s.count g.lines;
        ordered = c;
        canonical = λ i h. subst Canonical (sym (same_row_holds l m s i)) (g.canonical i (below i h));
        sizes = λ i h. same_size l m s i (small i (below i h)) ∙ g.sizes i (below i h)
            ∙ ap size (sym (same_formula i));
        plains = λ i h. same_plain l m s i (small i (below i h)) ∙ g.plains i (below i h)
            ∙ ap (λ a. bit (plain a)) (sym (same_formula i));
        balances = λ i h. same_balanced l m s i (small i (below i h)) ∙ g.balances i (below i h)
            ∙ ap (λ a. bit (balanced a)) (sym (same_formula i));
        unbounds = λ i h. same_unbound l m s i (small i (below i h)) ∙ g.unbounds i (below i h)
            ∙ ap (λ a. bit (unbound a)) (sym (same_formula i));
        quantifieds = λ i h. same_quantified l m s i (small i (below i h)) ∙ g.quantifieds i (below i h)
            ∙ ap (λ a. bit (quantified a)) (sym (same_formula i));
        spans = λ i h. spans_same (same_formula i) (same_low l m s i (small i (below i h)))
            (same_high l m s i (small i (below i h))) (g.spans i (below i h));
        givens = λ i h. same_gives l m s i (small i (below i h)) ∙ g.givens i (below i h)
            ∙ ap₂ counts (sym (same_low l m s i (small i (below i h)))) (sym (same_formula i));
        grouped = record {
          within = λ f w j p q r e. rw s.count
              (g.grouped.within f w j p q r (rw (same_group l m s f w p (omega arith)) at e));
          near = λ n t h a c.
              rw (same_group l m s (t % groups) (n / set_lines) (omega arith) (omega (arith, small n (below n h))))
              (g.grouped.near n t (below n h) (rw (same_low l m s n (small n (below n h))) at a)
              (rw (same_high l m s n (small n (below n h))) at c));
          filled = record {
            numbers = λ f w p e.
                g.grouped.filled.numbers f w p (rw (same_group l m s f set_width p (omega arith)) at e);
            others = λ f w p q e. same_group l m s f w p (omega arith)
                ∙ g.grouped.filled.others f w p q (rw (same_group l m s f set_width p (omega arith)) at e);
          };
        };
        bounded = b;
      }

  -- m stands for t, whose lines are l's
  pub stands_live : (t : Ledger) → RowsOrdered m → ledger_of m ≡ t → Bounded t → StandsFor m t
  stands_live t c e b = record { good = good_live c (subst Bounded (sym e) b); ledger = e }

  pub ledger_live : (cs : List Credential) (k : ℕ) → present (tab (row_count m) (entry_at m)) ≡ cs → next_serial m ≡ k
      → ledger_of m ≡ record { lines = (ledger_of l).lines; live = cs; next = k }
  unfolding ledger_of
  ledger_live cs k e q j = record { lines = same_lines j; live = e j; next = q j }

-- A hint changes nothing.
pub hint_stands : (m : List ℕ) (s v : ℕ) {t : Ledger} → StandsFor m t → StandsFor (put_hint m s v) t
unfolding ledger_of
hint_stands m s v {t} w =
    let g = w.good in
    let b = hint_live m s v g.long in
    let a = hint_lines m s v m (lines_self m g.long) in
    rw (← w.ledger) (stands_live m (put_hint m s v) g a (ledger_of m) (same_ordered m (put_hint m s v) b g.ordered
    (omega (arith, a.count)))
    (ledger_live m (put_hint m s v) g a _ _ (same_live m (put_hint m s v) b g.ordered) b.next) g.bounded)

-- What another next serial does to the ledger that a store stands for.
use mathlib.Core.Path.{◌≡◌, sym, ap, ◌∙◌}
use mathlib.Core.List.{List}
use Prim.Native.Nat.{ℕ, ◌<◌}
use native.Mathlib.Omega.{arith}
use lib.ListN.{length}
use Rattle.logic.proofs.Multisets.{every_map}
use Rattle.ledger.specs.declared.Credential.{Credential}
use Rattle.ledger.specs.Ledger.{Ledger}
use Rattle.ledger.specs.Bounds.{Bounded}
use Rattle.store.specs.Tab.{tab, present}
use Rattle.store_cells.specs.Layout.{next_serial, row_count, credential_at, entry_at, put_next}
use Rattle.store.specs.Store.{ledger_of, RowsOrdered, StandsFor}
use Rattle.store.proofs.Tabs.{tab_ext}
use Rattle.store_cells.proofs.CellWrites.{SameLines, lines_self, head_lines, head_same, Stays, stays_entry}
use Rattle.store_cells.proofs.CellWrites.{stays_serial, stays_credential, head_other, head_stays, head_links}
use Rattle.store.proofs.Chains.{chain_stays}
use Rattle.store_credentials.specs.NextSerial.{with_next, Raisable}
use Rattle.store_credentials.proofs.Stands.{stands_live, ledger_live}

module _ (l : List ℕ) (n : ℕ) (r : Raisable l n) where
  abbrev m : List ℕ
  m = put_next l n

  raised_lines : SameLines l m
  raised_lines = head_lines l l 2 n (omega arith) (omega arith) (lines_self l r.good.long)

  raised_used : row_count m ≡ row_count l
  raised_used = head_other l 2 n 3 (omega arith)

  raised_next : next_serial m ≡ n
  raised_next = head_same l 2 n r.good.long (omega arith)

  raised_stays : (i : ℕ) → Stays l m i
  raised_stays i = head_stays l 2 n i (omega arith)

  raised_serial : (i : ℕ) → (credential_at m i).serial ≡ (credential_at l i).serial
  raised_serial i = stays_serial l m i (raised_stays i)

  raised_live : present (tab (row_count m) (entry_at m)) ≡ (ledger_of l).live
  unfolding ledger_of
  raised_live =
      rw raised_used (ap present (tab_ext (row_count l) _ _ (λ i q. stays_entry l m i (raised_stays i))))

  raised_ledger : ledger_of m ≡ with_next (ledger_of l) n
  unfolding ledger_of
  raised_ledger = ledger_live l m r.good raised_lines _ _ raised_live raised_next

  raised_ordered : RowsOrdered m
  unfolding ledger_of
  raised_ordered =
      let o = r.good.ordered in
      record {
        few = omega (arith, raised_used, o.few);
        counted = head_other l 2 n 1 (omega arith) ∙ o.counted
            ∙ ap (λ (t : Ledger). length t.live) (sym raised_ledger);
        between = λ i j p q.
            omega (arith, raised_serial i, raised_serial j, o.between i j p (omega (arith, raised_used)));
        below = λ i q. omega (
          arith,
          raised_serial i,
          raised_next,
          r.above,
          o.below i (omega (arith, raised_used)),
        );
        named = λ i q.
            let e = ap (λ (c : Credential). c.formula) (stays_credential l m i (raised_stays i)) in
            omega (arith, e, raised_lines.count, o.named i (omega (arith, raised_used)));
        chained = rw raised_used (chain_stays l m (row_count l) o.chained (λ i q. raised_stays i)
            (λ k. head_links l 2 n k (omega arith)));
      }

  raised_bounded : Bounded (with_next (ledger_of l) n)
  raised_bounded =
      let b = r.good.bounded in
      record {
        tabled = record { reads = b.tabled.reads; refs = b.tabled.refs };
        rises = b.rises;
        below = every_map {P = λ c. c.serial < (ledger_of l).next} (λ c h. omega (arith, r.above)) (ledger_of l).live
            b.below;
        lines = b.lines;
        live = b.live;
        first = omega (arith, b.first, r.above);
        last = omega (arith, r.most);
        sizes = b.sizes;
      }

  pub raised : {k : List ℕ} → k ≡ m → StandsFor k (with_next (ledger_of l) n)
  raised e = rw e (stands_live l m r.good raised_lines _ raised_ordered raised_ledger raised_bounded)

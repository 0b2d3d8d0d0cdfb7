-- The live credentials of a store: none in the empty one, what another store with the same rows has of them, and sums
-- over them.
use mathlib.Core.Path.{◌≡◌, refl, sym, ap, subst, ◌∙◌}
use mathlib.Core.List.{List, []}
use mathlib.Core.Option.{none, some}
use mathlib.Core.Bool.{Bool, true, false}
use Prim.Native.Nat.{ℕ, ◌/◌, ◌%◌, ◌^◌, ◌<◌, ◌≤◌}
use native.Mathlib.Omega.{arith}
use native.Mathlib.Nat.{zero-div}
use borrow.Author.Tests.{eqb-true}
use lib.ListN.{length}
use Rattle.logic.specs.Choice.{pick}
use Rattle.logic.specs.Multiset.{sum}
use Rattle.request.specs.declared.Kind.TheVariants.{Unrestricted}
use Rattle.ledger.specs.declared.Credential.{Credential}
use Rattle.ledger.specs.Ledger.{Ledger, empty, cons_some}
use Rattle.ledger.specs.Bounds.{Bounded}
use Rattle.ledger.specs.Checks.{max_formulas}
use Rattle.ledger.proofs.Bounds.{empty_bounded}
use Rattle.store.specs.Tab.{tab, present}
use Rattle.store_cells.specs.Layout.{cells, line_count, live_count, next_serial, row_count, credential_at, gap_at}
use Rattle.store_cells.specs.Layout.{entry_at}
use Rattle.store_cells.specs.Layout.{formula_link, link_at, set_width, group_at}
use Rattle.labels.specs.Labels.{◌∋◌}
use Rattle.store.specs.Store.{ledger_of, RowsOrdered, StandsFor}
use Rattle.store.proofs.Tabs.{tab_ext, present_sum}
use Rattle.store.proofs.Chains.{chain_none, chain_stays}
use Rattle.store_cells.proofs.CellWrites.{stays_entry, stays_credential, stays_serial, SameLive}
use Rattle.store_cells.proofs.CredentialRows.{gap_kind_holds}

-- an empty set has nothing
no_member : {d : ℕ} (j : ℕ) → d ≡ 0 → d ∋ j → ⊥
no_member {d} j e m =
    let x = eqb-true (d / 2 ^ j % 2) 1 m in
    let y : d / 2 ^ j ≡ 0 = ap (λ (n : ℕ). n / 2 ^ j) e ∙ zero-div (2 ^ j) in
    omega arith

-- The empty ledger.
pub empty_stands : (l : List ℕ) → length l ≡ cells → line_count l ≡ 0 → live_count l ≡ 0 → next_serial l ≡ 1
    → row_count l ≡ 0 → ((n : ℕ) → n < max_formulas → link_at l (formula_link n) ≡ 0) → ((g w : ℕ) → group_at l g w ≡ 0)
    → StandsFor l empty
unfolding ledger_of tab present
empty_stands l h a b c d z y =
    let e : ledger_of l ≡ empty = rw (a, c, d) in
    record {
      good = record {
        long = h;
        lines = omega arith;
        ordered = record {
          few = omega arith;
          counted = b ∙ ap (λ (t : Ledger). length t.live) (sym e);
          between = λ i j p q. absurd (omega arith);
          below = λ i q. absurd (omega arith);
          named = λ i q. absurd (omega arith);
          chained = rw d (chain_none l z);
        };
        canonical = λ i q. absurd (omega arith);
        sizes = λ i q. absurd (omega arith);
        plains = λ i q. absurd (omega arith);
        balances = λ i q. absurd (omega arith);
        unbounds = λ i q. absurd (omega arith);
        quantifieds = λ i q. absurd (omega arith);
        spans = λ i q. absurd (omega arith);
        givens = λ i q. absurd (omega arith);
        grouped = record {
          within = λ g w j p q r e. absurd (no_member j (y g w) e);
          near = λ n s q. absurd (omega arith);
          filled = record {
            numbers = λ g w p e. absurd (no_member w (y g set_width) e);
            others = λ g w p q e. y g w;
          };
        };
        bounded = subst Bounded (sym e) empty_bounded;
      };
      ledger = e;
    }

-- The rows of another store that has the same ones.
module _ (l m : List ℕ) (s : SameLive l m) (o : RowsOrdered l) where
  pub same_live : (ledger_of m).live ≡ (ledger_of l).live
  unfolding ledger_of
  same_live =
      rw s.used (ap present (tab_ext (row_count l) _ _
      (λ i q. stays_entry l m i (s.rows i (omega (arith, o.few))))))

  same_serial : (i : ℕ) → i < row_count m → (credential_at m i).serial ≡ (credential_at l i).serial
  same_serial i q = stays_serial l m i (s.rows i (omega (arith, s.used, o.few)))

  same_of : (i : ℕ) → i < row_count m → (credential_at m i).formula ≡ (credential_at l i).formula
  same_of i q =
      ap (λ (c : Credential). c.formula) (stays_credential l m i (s.rows i (omega (arith, s.used, o.few))))

  pub same_ordered : line_count l ≤ line_count m → RowsOrdered m
  same_ordered a = record {
    few = omega (arith, s.used, o.few);
    counted = s.count ∙ o.counted ∙ ap length (sym same_live);
    between = λ i j p q. omega (
      arith,
      same_serial i (omega arith),
      same_serial j q,
      s.used,
      o.between i j p (omega (arith, s.used)),
    );
    below = λ i q. omega (arith, same_serial i q, s.next, s.used, o.below i (omega (arith, s.used)));
    named = λ i q. omega (arith, same_of i q, s.used, o.named i (omega (arith, s.used)));
    chained = rw s.used
        (chain_stays l m (row_count l) o.chained (λ i q. s.rows i (omega (arith, o.few))) s.links);
  }

-- A tally over the live credentials is one over all rows, where it sees no unrestricted credential: a gap reads as one.
module _ (f : Credential → ℕ) (none_seen : (c : Credential) → c.kind ≡ Unrestricted → f c ≡ 0) (l : List ℕ) where
  entry_sum : (i : ℕ) → sum f (cons_some (entry_at l i) []) ≡ f (credential_at l i)
  unfolding entry_at sum
  entry_sum i = go (gap_at l i) refl
    where
      go : (b : Bool) → gap_at l i ≡ b
          → sum f (cons_some (pick b none (some (credential_at l i))) []) ≡ f (credential_at l i)
      go true e = sym (none_seen _ (gap_kind_holds l i e))
      go false e = omega arith

  pub live_sum : sum f (ledger_of l).live ≡ sum f (tab (row_count l) (credential_at l))
  unfolding ledger_of
  live_sum = present_sum f (row_count l) (entry_at l) (credential_at l) entry_sum

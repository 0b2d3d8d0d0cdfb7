-- Moving the live credentials together, one row a turn.
use Prim.Native.Nat.{ℕ, ◌+◌, ◌<◌, ◌≤◌}
use mathlib.Core.Path.{◌≡◌, refl, sym, ap, subst, ◌∙◌}
use mathlib.Core.List.{List, [], ◌∷◌, ◌++◌, append-nil}
use mathlib.Core.Option.{none, some}
use mathlib.Core.Bool.{Bool, true, false}
use native.Mathlib.Omega.{arith}
use native.Mathlib.Decide.{dec_lt, ℕ_discrete}
use lib.ListN.{length}
use Rattle.logic.specs.Choice.{pick}
use Rattle.logic.specs.Multiset.{Every}
use Rattle.ledger.specs.declared.Credential.{Credential}
use Rattle.ledger.specs.Ledger.{Ledger}
use Rattle.ledger.proofs.Answers.{some_none, some_inj}
use Rattle.ledger.specs.Bounds.{Rises, Below}
use Rattle.store.specs.Tab.{tab, present}
use Rattle.store_cells.specs.Layout.{max_rows, line_count, live_count, next_serial, row_count, credential_at, gap_at}
use Rattle.store_cells.specs.Layout.{entry_at}
use Rattle.store_cells.specs.Layout.{put_credential, put_row_count, put_hint, cell, credential_place, link_at, put_link}
use Rattle.store_cells.specs.Layout.{of_at, formula_link}
use Rattle.store.specs.Store.{ledger_of, RowsOrdered, Good, Compacted}
use Rattle.store.proofs.Tabs.{length_tab, tab_ext, tab_append, every_tab, every_present, present_next, present_all}
use Rattle.store_credentials.proofs.RowSerials.{rises_between}
use Rattle.store_cells.proofs.CellWrites.{SameLines, lines_self, Stays, stays_credential, stays_gap, stays_entry}
use Rattle.store_cells.proofs.CellWrites.{head_lines, head_same, head_other, head_stays, head_links}
use Rattle.store_cells.proofs.CredentialRows.{entry_gap, entry_there, credential_same, credential_there}
use Rattle.store_cells.proofs.CredentialRows.{credential_stays}
use Rattle.store_cells.proofs.CredentialRows.{credential_before, credential_lines, hint_before, hint_lines, hint_stays}
use Rattle.store_cells.proofs.CredentialRows.{hint_links, link_same, link_other, link_before, link_lines}
use Rattle.ledger.specs.Checks.{max_formulas}
use Rattle.store.specs.Chain.{Chained}
use Rattle.store.proofs.Chains.{last_none, chain_none, chain_stays, chain_put}
use Rattle.store_credentials.specs.Unlinked.{UnlinkedTo, Unlinked}
use Rattle.store_credentials.proofs.Stands.{stands_live, ledger_live}

-- Every live credential is of a formula of the ledger.
live_named : (l : List ℕ) → RowsOrdered l → Every (λ c. c.formula < line_count l) (ledger_of l).live
unfolding ledger_of entry_at
live_named l o = every_present _ (row_count l) (entry_at l) (λ i c q. go i c q (gap_at l i))
  where
    go : (i : ℕ) (c : Credential) → i < row_count l → (b : Bool)
        → pick b none (some (credential_at l i)) ≡ some c → c.formula < line_count l
    go i c q true e = absurd (some_none (sym e))
    go i c q false e = subst (λ (d : Credential). d.formula < line_count l) (some_inj e) (o.named i q)

-- l is the store at the start, m when row i is next: the live ones of the rows before it stand in the first k rows
pub record Gathering (l m : List ℕ) (i k : ℕ) : Type 0 where
  pub lines : SameLines l m
  pub count : live_count m ≡ live_count l
  pub next : next_serial m ≡ next_serial l
  pub low : k ≤ i
  pub moved : tab k (credential_at m) ≡ present (tab i (entry_at l))
  pub full : (j : ℕ) → j < k → gap_at m j ≡ false
  pub rest : (j : ℕ) → i ≤ j → j < max_rows → Stays l m j
  pub chained : Chained m k

-- Chains are left, one by one: k is the link of formula i.
pub unlink_next : (l m : List ℕ) (i k : ℕ) → UnlinkedTo l m i → i < max_formulas → k ≡ formula_link i
    → UnlinkedTo l (put_link m k 0) (i + 1)
unlink_next l m i k u h e = rw e record {
  long = (link_lines m (formula_link i) 0 m (lines_self m u.long)).long;
  rest = λ k q. link_before m (formula_link i) 0 k q ∙ u.rest k q;
  none = λ n q. go n q (ℕ_discrete n i);
  others = λ n q. link_other m (formula_link i) 0 (formula_link n) (omega arith) ∙ u.others n (omega arith);
}
  where
    go : (n : ℕ) → n < i + 1 → Dec (n ≡ i) → link_at (put_link m (formula_link i) 0) (formula_link n) ≡ 0
    go n q (yes e) =
        ap (λ (x : ℕ). link_at (put_link m (formula_link i) 0) (formula_link x)) e
        ∙ link_same m (formula_link i) 0 u.long (omega arith)
    go n q (no e) = link_other m (formula_link i) 0 (formula_link n) (omega arith) ∙ u.none n (omega arith)

-- One that leads nowhere is passed.
pub unlink_pass : (l m : List ℕ) (i k : ℕ) → UnlinkedTo l m i → link_at m k ≡ 0 → k ≡ formula_link i
    → UnlinkedTo l m (i + 1)
unlink_pass l m i k u z e = record {
  long = u.long;
  rest = u.rest;
  none = λ n q. go n q (ℕ_discrete n i);
  others = λ n q. u.others n (omega arith);
}
  where
    go : (n : ℕ) → n < i + 1 → Dec (n ≡ i) → link_at m (formula_link n) ≡ 0
    go n q (yes d) = let x : formula_link n ≡ k = omega arith in ap (link_at m) x ∙ z
    go n q (no d) = u.none n (omega arith)

-- A number that no line has yet has no chain.
pub unlink_done : {l m : List ℕ} {i : ℕ} → Good l → i ≡ line_count l → UnlinkedTo l m i → Unlinked l m
unlink_done {l} {m} {i} g e u = record {
  long = u.long;
  rest = u.rest;
  none = λ n q. go n q (dec_lt n i);
  others = λ n q. u.others n (omega (arith, g.lines));
}
  where
    go : (n : ℕ) → n < max_formulas → Dec (n < i) → link_at m (formula_link n) ≡ 0
    go n q (yes z) = u.none n z
    go n q (no z) =
        u.others n (omega arith) ∙ g.ordered.chained.last n q
        ∙ last_none (of_at l) n (row_count l) (λ j p x. omega (arith, g.ordered.named j p))

-- u is l without chains
module _ {l u : List ℕ} (w : Unlinked l u) where
  pub gather_start : Gathering u u 0 0
  unfolding tab present
  gather_start = record {
    lines = lines_self u w.long;
    count = refl;
    next = refl;
    low = omega arith;
    moved = refl;
    full = λ j q. absurd (omega arith);
    rest = λ j q h f p. refl;
    chained = chain_none u w.none;
  }

  unlinked_stays : (j : ℕ) → j < max_rows → Stays l u j
  unfolding cell
  unlinked_stays j h f p = w.rest (credential_place j f) (omega arith)

  pub gather_from : {m : List ℕ} {i k : ℕ} → i ≤ max_rows → Gathering u m i k → Gathering l m i k
  gather_from {m} {i} {k} h v = record {
    lines = record {
      long = v.lines.long;
      count = v.lines.count ∙ w.rest 0 (omega arith);
      rows = λ j a b. v.lines.rows j a b ∙ w.rest j (omega arith);
    };
    count = v.count ∙ w.rest 1 (omega arith);
    next = v.next ∙ w.rest 2 (omega arith);
    low = v.low;
    moved = v.moved ∙ ap present (tab_ext i (entry_at u) (entry_at l) (λ j q.
        stays_entry l u j (unlinked_stays j (omega arith))));
    full = v.full;
    rest = λ j q z f p. v.rest j q z f p ∙ unlinked_stays j z f p;
    chained = v.chained;
  }

module _ (l : List ℕ) where
  module _ (m : List ℕ) (i k : ℕ) (v : Gathering l m i k) where
    -- a gap is passed
    pub gather_gap : i < max_rows → gap_at m i ≡ true → Gathering l m (i + 1) k
    gather_gap h e = record {
      lines = v.lines;
      count = v.count;
      next = v.next;
      low = omega (arith, v.low);
      moved = v.moved ∙ sym (present_next i (entry_at l)
          ∙ rw (entry_gap l i (sym (stays_gap l m i (v.rest i (omega arith) h)) ∙ e)) (append-nil _));
      full = v.full;
      rest = λ j q. v.rest j (omega arith);
      chained = v.chained;
    }

    -- a row's formula is one of the ledger's
    pub gather_named : Good l → i < row_count l → (c : Credential) → c ≡ credential_at m i → c.formula < max_formulas
    gather_named g q c e =
        let z = v.rest i (omega arith) (omega (arith, g.ordered.few)) in
        let d = ap (λ (x : Credential). x.formula) (e ∙ stays_credential l m i z) in
        omega (arith, d, g.ordered.named i q, g.lines)

    -- a credential moves to row k
    module _ (c : Credential) (h : i < max_rows) (e : gap_at m i ≡ false) (d : c ≡ credential_at m i)
        (b : c.formula < max_formulas) where
      abbrev m' : List ℕ
      m' = put_credential m k c

      few : k < max_rows
      few = omega (arith, v.low)

      moved_stays : (j : ℕ) → j < max_rows → (j ≡ k → ⊥) → Stays m m' j
      moved_stays j q x = credential_stays m k c j q x

      full_next : (j : ℕ) → j < k + 1 → Dec (j < k) → gap_at m' j ≡ false
      full_next j q (yes z) = stays_gap m m' j (moved_stays j (omega (arith, few)) (omega arith)) ∙ v.full j z
      full_next j q (no z) =
          let x : j ≡ k = omega arith in
          rw x (credential_there m k c v.lines.long few)

      entry_moved : entry_at l i ≡ some c
      entry_moved =
          entry_there l i (sym (stays_gap l m i (v.rest i (omega arith) h)) ∙ e)
          ∙ ap some (sym (d ∙ stays_credential l m i (v.rest i (omega arith) h)))

      moved_next : tab (k + 1) (credential_at m') ≡ present (tab (i + 1) (entry_at l))
      moved_next =
          tab_append k (credential_at m) (credential_at m') c
          (λ j q. stays_credential m m' j (moved_stays j (omega (arith, few)) (omega arith)))
          (credential_same m k c v.lines.long few)
          ∙ ap (λ (cs : List Credential). cs ++ (c ∷ [])) v.moved
          ∙ sym (rw (present_next i (entry_at l), entry_moved))

      pub gather_move : Gathering l (put_credential m k c) (i + 1) (k + 1)
      gather_move = record {
        lines = credential_lines m k c l v.lines;
        count = credential_before m k c 1 (omega arith) ∙ v.count;
        next = credential_before m k c 2 (omega arith) ∙ v.next;
        low = omega (arith, v.low);
        moved = moved_next;
        full = λ j q. full_next j q (dec_lt j k);
        rest = λ j q z f p. moved_stays j z (omega (arith, v.low)) f p ∙ v.rest j (omega arith) z f p;
        chained = chain_put m k c v.lines.long few b v.chained;
      }

    -- a hint changes nothing
    pub gather_hint : k ≤ max_rows → (s r : ℕ) → Gathering l (put_hint m s r) i k
    gather_hint h s r =
        let x = put_hint m s r in
        let z : (j : ℕ) → j < k → Stays m x j = λ j q. hint_stays m s r j (omega arith) in
        record {
          lines = hint_lines m s r l v.lines;
          count = hint_before m s r 1 (omega arith) ∙ v.count;
          next = hint_before m s r 2 (omega arith) ∙ v.next;
          low = v.low;
          moved = tab_ext k (credential_at x) (credential_at m) (λ j q. stays_credential m x j (z j q)) ∙ v.moved;
          full = λ j q. stays_gap m x j (z j q) ∙ v.full j q;
          rest = λ j q y f p. hint_stays m s r j y f p ∙ v.rest j q y f p;
          chained = chain_stays m x k v.chained z (hint_links m s r);
        }

  -- when all rows are passed
  module _ (m : List ℕ) (k : ℕ) (g : Good l) (v : Gathering l m (row_count l) k) where
    abbrev done : List ℕ
    done = put_row_count m k

    done_lines : SameLines l done
    done_lines = head_lines l m 3 k (omega arith) (omega arith) v.lines

    done_used : row_count done ≡ k
    done_used = head_same m 3 k v.lines.long (omega arith)

    done_next : next_serial done ≡ next_serial l
    done_next = head_other m 3 k 2 (omega arith) ∙ v.next

    done_stays : (j : ℕ) → Stays m done j
    done_stays j = head_stays m 3 k j (omega arith)

    done_rows : tab k (credential_at done) ≡ (ledger_of l).live
    unfolding ledger_of
    done_rows =
        tab_ext k (credential_at done) (credential_at m) (λ j q. stays_credential m done j (done_stays j)) ∙ v.moved

    done_live : present (tab (row_count done) (entry_at done)) ≡ (ledger_of l).live
    done_live =
        rw done_used (present_all k (entry_at done) (credential_at done)
        (λ j q. entry_there done j (stays_gap m done j (done_stays j) ∙ v.full j q)))
        ∙ done_rows

    done_ledger : ledger_of done ≡ ledger_of l
    unfolding ledger_of
    done_ledger = ledger_live l done g done_lines _ _ done_live done_next

    done_length : k ≡ length (ledger_of l).live
    done_length = sym (length_tab k (credential_at done)) ∙ ap length done_rows

    rises : Rises 0 (tab k (credential_at done))
    rises = subst (Rises 0) (sym done_rows) g.bounded.rises

    below : Below (ledger_of l).next (tab k (credential_at done))
    below = subst (Below (ledger_of l).next) (sym done_rows) g.bounded.below

    done_ordered : RowsOrdered done
    unfolding ledger_of
    done_ordered = record {
      few = omega (arith, done_used, v.low, g.ordered.few);
      counted = head_other m 3 k 1 (omega arith) ∙ v.count ∙ g.ordered.counted
          ∙ ap (λ (t : Ledger). length t.live) (sym done_ledger);
      between = λ i j p q. rises_between 0 k (credential_at done) i j rises p (omega (arith, done_used));
      below = λ i q. omega (arith, done_next, every_tab _ k (credential_at done) below i (omega (arith, done_used)));
      named = λ i q. omega (
        arith,
        done_lines.count,
        every_tab _ k (credential_at done) (subst (Every _) (sym done_rows) (live_named l g.ordered)) i
            (omega (arith, done_used)),
      );
      chained = rw done_used (chain_stays m done k v.chained (λ j q. done_stays j)
          (λ j. head_links m 3 k j (omega arith)));
    }

    done_compact : Compacted l done
    done_compact = record {
      stands = stands_live l done g done_lines _ done_ordered done_ledger g.bounded;
      rows = done_used ∙ done_length;
    }

  -- by the stores that make it
  pub compact_done : {m m₁ : List ℕ} {i k : ℕ} → Good l → i ≡ row_count l → Gathering l m i k → m₁ ≡ put_row_count m k
      → Compacted l m₁
  compact_done {m} {m₁} {i} {k} g e v q = rw q (done_compact m k g (subst (λ (x : ℕ). Gathering l m x k) e v))

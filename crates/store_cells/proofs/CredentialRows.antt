-- What a store in a credential row or a hint does to what can be read, as Rows for the rest: the formula
-- rows stay, and so do the other credential rows.
use mathlib.Core.Path.{◌≡◌, refl, sym, ap, ◌∙◌}
use mathlib.Core.List.{List}
use mathlib.Core.Bool.{Bool, true, false}
use Rattle.std.specs.Prelude.{Option as Maybe, Some, None, is_some, not}
use Rattle.std.specs.Option.{option_eq}
use Rattle.logic.specs.Choice.{pick}
use mathlib.Core.Option.{none, some}
use Prim.Native.Nat.{ℕ, ◌+◌, ◌%◌, ◌<◌}
use native.Mathlib.Omega.{arith}
use borrow.Author.Tests.{eqb-true}
use lib.Dec.{eqb}
use lib.ListN.{length, get_or, length-set}
use lib.Seq.{get_or-set_same, get_or-set_other}
use Rattle.request.specs.declared.Kind.{Kind}
use Rattle.request.specs.declared.Kind.TheVariants.{Linear, Unrestricted}
use Rattle.ledger.specs.declared.Credential.{Credential}
use Rattle.ledger.specs.Ledger.{is_kind}
use Rattle.ledger.specs.Checks.{max_formulas}
use Rattle.store_cells.specs.Layout.{cells, max_rows, cell, kind_from, kind_number, kind_at, credential_at, gap_at}
use Rattle.store_cells.specs.Layout.{entry_at}
use Rattle.store_cells.specs.Layout.{credential_base, credential_width, hint_base, gap_kind, credential_cell}
use Rattle.store_cells.specs.Layout.{credential_place}
use Rattle.store_cells.specs.Layout.{credential_cells, put_credential, put_gap, put_hint, links, link_base, link_at}
use Rattle.store_cells.specs.Layout.{put_link, put_row, row_link, formula_link, credential_numbers}
use Rattle.store_cells.proofs.Cells.{length_put_row, row_same, row_other, put_below, put_above}
use Rattle.store_cells.proofs.CellWrites.{credential_ext, SameLines, lines_self, Stays, SameLive}

kind_number_holds : (k : Kind) → kind_from (kind_number k) ≡ k
kind_number_holds Linear = refl
kind_number_holds Unrestricted = refl

kind_stands : (k : Kind) → eqb (kind_number k) gap_kind ≡ false
kind_stands Linear = refl
kind_stands Unrestricted = refl

module _ (l : List ℕ) (i : ℕ) where
  pub entry_gap : gap_at l i ≡ true → entry_at l i ≡ none
  unfolding entry_at
  entry_gap e = rw e

  -- a gap reads as unrestricted
  pub gap_kind_holds : gap_at l i ≡ true → (credential_at l i).kind ≡ Unrestricted
  unfolding gap_at credential_at
  gap_kind_holds e = rw (eqb-true (credential_cell l i 1) gap_kind e)

  pub entry_there : gap_at l i ≡ false → entry_at l i ≡ some (credential_at l i)
  unfolding entry_at
  entry_there e = rw e

-- The kind of a row: whether the credential has left, and whether it is linear.
module _ (l : List ℕ) (i : ℕ) {r : Maybe Kind} (e : r ≡ kind_at l i) where
  abbrev kept : ℕ
  kept = credential_cell l i 1

  some_kind : gap_at l i ≡ not (is_some r)
  unfolding kind_at gap_at
  some_kind = go (eqb kept gap_kind) ∙ sym (ap (λ (k : Maybe Kind). not (is_some k)) e)
    where
      go : (b : Bool) → b ≡ not (is_some (pick b None (Some (kind_from kept))))
      go true = refl
      go false = refl

  -- what `is_some` answers of it, and `is_none`
  module _ {b : Bool} where
    pub row_there : b ≡ is_some r → gap_at l i ≡ not b
    row_there f = some_kind ∙ sym (ap not f)

    pub row_left : is_some r ≡ not b → gap_at l i ≡ b
    row_left f = some_kind ∙ ap not f ∙ twice b
      where
        twice : (b : Bool) → not (not b) ≡ b
        twice true = refl
        twice false = refl

  -- it is some linear kind, by a comparison that tells the two apart
  module _ (same : Kind → Kind → Bool) (p : same Linear Linear ≡ true) (q : same Unrestricted Linear ≡ false) where
    abbrev is_linear : Maybe Kind → Bool
    is_linear k = option_eq same k (Some Linear)

    pub linear_kind : is_linear r ≡ is_kind Linear (credential_at l i).kind
    unfolding kind_at credential_at
    linear_kind = ap is_linear e ∙ go (eqb kept gap_kind) refl
      where
        one : (b : Bool) → same (pick b Linear Unrestricted) Linear ≡ is_kind Linear (pick b Linear Unrestricted)
        one true = p
        one false = q

        go : (b : Bool) → eqb kept gap_kind ≡ b
            → is_linear (pick b None (Some (kind_from kept))) ≡ is_kind Linear (kind_from kept)
        go true z = sym (ap (λ (n : ℕ). is_kind Linear (kind_from n)) (eqb-true kept gap_kind z))
        go false z = one (eqb kept 0)

-- A link is put: all else stays, the other links too.
module _ (m : List ℕ) (k v : ℕ) where
  pub link_same : length m ≡ cells → k < links → link_at (put_link m k v) k ≡ v
  unfolding link_at put_link
  link_same n h = get_or-set_same m (link_base + k) v 0 (omega arith)

  pub link_other : (j : ℕ) → (j ≡ k → ⊥) → link_at (put_link m k v) j ≡ link_at m j
  unfolding link_at put_link
  link_other j h = get_or-set_other m (link_base + k) (link_base + j) v 0 (omega arith)

  pub link_before : (j : ℕ) → j < link_base → get_or (put_link m k v) j 0 ≡ get_or m j 0
  unfolding put_link
  link_before j h = get_or-set_other m (link_base + k) j v 0 (omega arith)

  pub link_lines : (l : List ℕ) → SameLines l m → SameLines l (put_link m k v)
  unfolding put_link
  link_lines l w = record {
    long = length-set m (link_base + k) v ∙ w.long;
    count = link_before 0 (omega arith) ∙ w.count;
    rows = λ j a b. link_before j (omega arith) ∙ w.rows j a b;
  }

  pub link_stays : (i : ℕ) → i < max_rows → Stays m (put_link m k v) i
  unfolding cell
  link_stays i h f q = link_before (credential_place i f) (omega arith)

-- A credential is put, and its row before the chain of its formula.
module _ (m : List ℕ) (i : ℕ) (c : Credential) where
  abbrev last : ℕ
  last = formula_link c.formula

  abbrev numbers : List ℕ
  numbers = credential_cells c

  abbrev linked : List ℕ
  linked = put_link m (row_link i) (link_at m last)

  abbrev led : List ℕ
  led = put_link linked last (row_link i)

  linked_long : length linked ≡ length m
  unfolding put_link
  linked_long = length-set m (link_base + row_link i) (link_at m last)

  led_long : length led ≡ length m
  unfolding put_link
  led_long = length-set linked (link_base + last) (row_link i) ∙ linked_long

  pub credential_before : (k : ℕ) → k < credential_base → get_or (put_credential m i c) k 0 ≡ get_or m k 0
  unfolding put_credential
  credential_before k h =
      put_below led credential_base credential_width i numbers k h
      ∙ link_before linked last (row_link i) k (omega arith)
      ∙ link_before m (row_link i) (link_at m last) k (omega arith)

  pub credential_long : length (put_credential m i c) ≡ length m
  unfolding put_credential
  credential_long = length_put_row led credential_base credential_width i numbers ∙ led_long

  pub credential_lines : (l : List ℕ) → SameLines l m → SameLines l (put_credential m i c)
  credential_lines l s = record {
    long = credential_long ∙ s.long;
    count = credential_before 0 (omega arith) ∙ s.count;
    rows = λ k a b. credential_before k b ∙ s.rows k a b;
  }

  pub credential_stays : (k : ℕ) → k < max_rows → (k ≡ i → ⊥) → Stays m (put_credential m i c) k
  unfolding put_credential
  credential_stays k p h f q =
      row_other led credential_base credential_width i numbers (omega arith) k f h (omega arith)
      ∙ link_stays linked last (row_link i) k p f q ∙ link_stays m (row_link i) (link_at m last) k p f q

  -- a link, which no row reaches
  row_links : i < max_rows → (k : ℕ) → link_at (put_credential m i c) k ≡ link_at led k
  unfolding put_credential link_at
  row_links h k = put_above led credential_base credential_width i numbers (link_base + k) (omega arith)

  module _ (n : length m ≡ cells) (h : i < max_rows) where
    put_cell : (f : ℕ) → f < credential_numbers → credential_cell (put_credential m i c) i f ≡ get_or numbers f 0
    unfolding put_credential
    put_cell f q =
        row_same led credential_base credential_width i numbers f (omega (arith, led_long)) (omega arith)

    pub credential_same : credential_at (put_credential m i c) i ≡ c
    unfolding credential_at
    credential_same =
        credential_ext (credential_cell (put_credential m i c) i) (λ f. get_or numbers f 0) put_cell
        ∙ rw (kind_number_holds c.kind)

    pub credential_there : gap_at (put_credential m i c) i ≡ false
    unfolding gap_at
    credential_there = ap (λ (n : ℕ). eqb n gap_kind) (put_cell 1 (omega arith)) ∙ kind_stands c.kind

    -- its row leads to the one that its formula led to, and the formula to the row
    pub credential_link : link_at (put_credential m i c) (row_link i) ≡ link_at m (formula_link c.formula)
    credential_link =
        row_links h (row_link i) ∙ link_other linked last (row_link i) (row_link i) (omega arith)
        ∙ link_same m (row_link i) (link_at m last) n (omega arith)

    pub credential_last : c.formula < max_formulas → link_at (put_credential m i c) (formula_link c.formula)
        ≡ row_link i
    credential_last q = row_links h last ∙ link_same linked last (row_link i) (linked_long ∙ n) (omega arith)

  pub credential_links : i < max_rows → (k : ℕ) → (k ≡ row_link i → ⊥) → (k ≡ formula_link c.formula → ⊥)
      → link_at (put_credential m i c) k ≡ link_at m k
  credential_links h k p q =
      row_links h k ∙ link_other linked last (row_link i) k q ∙ link_other m (row_link i) (link_at m last) k p

-- A credential leaves: its serial and the other rows stay.
module _ (m : List ℕ) (i : ℕ) where
  pub gap_here : length m ≡ cells → i < max_rows → gap_at (put_gap m i) i ≡ true
  unfolding gap_at put_gap cell
  gap_here n h = ap (λ (x : ℕ). eqb x gap_kind) (get_or-set_same m (credential_place i 1) gap_kind 0 (omega arith))

  pub gap_stays : (k : ℕ) → (k ≡ i → ⊥) → Stays m (put_gap m i) k
  unfolding put_gap cell
  gap_stays k h f q = get_or-set_other m (credential_place i 1) (credential_place k f) gap_kind 0 (omega arith)

  pub gap_serial : (k : ℕ) → (credential_at (put_gap m i) k).serial ≡ (credential_at m k).serial
  unfolding credential_at put_gap cell
  gap_serial k = get_or-set_other m (credential_place i 1) (credential_place k 0) gap_kind 0 (omega arith)

  pub gap_of : (k : ℕ) → (credential_at (put_gap m i) k).formula ≡ (credential_at m k).formula
  unfolding credential_at put_gap cell
  gap_of k = get_or-set_other m (credential_place i 1) (credential_place k 2) gap_kind 0 (omega arith)

  pub gap_before : (k : ℕ) → k < credential_base → get_or (put_gap m i) k 0 ≡ get_or m k 0
  unfolding put_gap
  gap_before k h = get_or-set_other m (credential_place i 1) k gap_kind 0 (omega arith)

  pub gap_links : i < max_rows → (k : ℕ) → link_at (put_gap m i) k ≡ link_at m k
  unfolding put_gap link_at
  gap_links h k = get_or-set_other m (credential_place i 1) (link_base + k) gap_kind 0 (omega arith)

  pub gap_lines : (l : List ℕ) → SameLines l m → SameLines l (put_gap m i)
  unfolding put_gap
  gap_lines l s = record {
    long = length-set m (credential_place i 1) gap_kind ∙ s.long;
    count = gap_before 0 (omega arith) ∙ s.count;
    rows = λ k a b. gap_before k b ∙ s.rows k a b;
  }

-- A hint is put: all else stays.
module _ (m : List ℕ) (s v : ℕ) where
  pub hint_before : (k : ℕ) → k < hint_base → get_or (put_hint m s v) k 0 ≡ get_or m k 0
  unfolding put_hint
  hint_before k h = get_or-set_other m (hint_base + s % max_rows) k v 0 (omega arith)

  pub hint_lines : (l : List ℕ) → SameLines l m → SameLines l (put_hint m s v)
  unfolding put_hint
  hint_lines l w = record {
    long = length-set m (hint_base + s % max_rows) v ∙ w.long;
    count = hint_before 0 (omega arith) ∙ w.count;
    rows = λ k a b. hint_before k (omega arith) ∙ w.rows k a b;
  }

  pub hint_stays : (i : ℕ) → i < max_rows → Stays m (put_hint m s v) i
  unfolding cell
  hint_stays i h f q = hint_before (credential_place i f) (omega arith)

  pub hint_links : (k : ℕ) → link_at (put_hint m s v) k ≡ link_at m k
  unfolding put_hint link_at
  hint_links k = get_or-set_other m (hint_base + s % max_rows) (link_base + k) v 0 (omega arith)

  pub hint_live : length m ≡ cells → SameLive m (put_hint m s v)
  hint_live n = record {
    long = (hint_lines m (lines_self m n)).long;
    count = hint_before 1 (omega arith);
    next = hint_before 2 (omega arith);
    used = hint_before 3 (omega arith);
    rows = hint_stays;
    links = hint_links;
  }

-- What each store of numbers does to what can be read: the laws by which the other proofs go, so that none of them sees
-- where a table stands. The formula rows and the credential rows do not meet: work on the one leaves the other. Here
-- are the head's numbers and the formula rows; CredentialRows has what is put in credential rows and hints.
use mathlib.Core.Path.{◌≡◌, refl, ap, ◌∙◌}
use mathlib.Core.List.{List}
use mathlib.Core.Bool.{Bool}
use Prim.Native.Nat.{ℕ, ◌+◌, ◌*◌, ◌≤◌, ◌<◌}
use native.Mathlib.Omega.{arith}
use native.Mathlib.Decide.{dec_lt}
use borrow.Author.Tests.{lt-ltb, le-ltb}
use lib.Dec.{eqb}
use lib.ListN.{length, get_or, set, length-set}
use lib.Seq.{get_or-set_same, get_or-set_other}
use Rattle.request.specs.Request.{Line}
use Rattle.steps.specs.declared.Row.{Row}
use Rattle.ledger.specs.declared.Credential.{Credential}
use Rattle.ledger.specs.Table.{row_of}
use Rattle.ledger.specs.Checks.{max_formulas}
use Rattle.store_cells.specs.Layout.{line_base, size_cell, plain_cell, balanced_cell, line_width, credential_base}
use Rattle.store_cells.specs.Layout.{credential_numbers, gap_kind}
use Rattle.store_cells.specs.Layout.{unbound_cell, quantified_cell, unbound_at, quantified_at}
use Rattle.store_cells.specs.Layout.{credential_cell, credential_place}
use Rattle.store_cells.specs.Layout.{cells, max_rows, cell, line_count, live_count, next_serial, row_count, row_from}
use Rattle.store_cells.specs.Layout.{line_cell, row_at, size_at, plain_at, balanced_at, line_cells, put_line, kind_from}
use Rattle.store_cells.specs.Layout.{credential_from, credential_at, gap_at, entry_at, link_base, link_at}
use Rattle.store_cells.specs.Layout.{low_cell, high_cell, gives_cell, low_at, high_at, gives_at}
use Rattle.store_cells.specs.Layout.{group_base, groups, group_width, group_at}
use Rattle.store_cells.specs.declared.lines.Facts.{Facts}
use Rattle.store_cells.proofs.Cells.{length_put_row, row_same, row_other, put_below, put_above}

-- a row is known by its cells
pub row_ext : (g h : ℕ → ℕ) → ((f : ℕ) → f < size_cell → g f ≡ h f) → row_from g ≡ row_from h
row_ext g h e j = record {
  letter = e 0 (omega arith) j;
  a = e 1 (omega arith) j;
  b = e 2 (omega arith) j;
  holder = e 3 (omega arith) j;
  first = record {
    from = e 4 (omega arith) j;
    to = e 5 (omega arith) j;
    first = e 6 (omega arith) j;
    last = e 7 (omega arith) j;
  };
  second = record {
    from = e 8 (omega arith) j;
    to = e 9 (omega arith) j;
    first = e 10 (omega arith) j;
    last = e 11 (omega arith) j;
  };
}

pub credential_ext : (g h : ℕ → ℕ) → ((f : ℕ) → f < credential_numbers → g f ≡ h f)
    → credential_from g ≡ credential_from h
credential_ext g h e j = record {
  serial = e 0 (omega arith) j;
  kind = kind_from (e 1 (omega arith) j);
  formula = e 2 (omega arith) j;
  interval = record {
    from = e 3 (omega arith) j;
    to = e 4 (omega arith) j;
    first = e 5 (omega arith) j;
    last = e 6 (omega arith) j;
  };
}

-- the row of a number that names a formula
pub row_below : (l : List ℕ) (n : ℕ) → n < line_count l → n < max_formulas → row_at l n ≡ row_from (line_cell l n)
unfolding row_at
row_below l n h q = rw (lt-ltb _ _ q, lt-ltb _ _ h)

-- a number that names none reads as 1
pub row_wide : (l : List ℕ) (n : ℕ) → max_formulas ≤ n → row_at l n ≡ row_of Line.one
unfolding row_at
row_wide l n q = rw (le-ltb _ _ q)

pub row_past : (l : List ℕ) (n : ℕ) → line_count l ≤ n → row_at l n ≡ row_of Line.one
unfolding row_at
row_past l n h = go (dec_lt n max_formulas)
  where
    go : Dec (n < max_formulas) → row_at l n ≡ row_of Line.one
    go (yes q) = rw (lt-ltb _ _ q, le-ltb _ _ h)
    go (no q) = row_wide l n (omega arith)

-- m has l's formula rows and their count: all that no work on credentials changes
pub record SameLines (l m : List ℕ) : Type 0 where
  pub long : length m ≡ cells
  pub count : line_count m ≡ line_count l
  pub rows : (k : ℕ) → line_base ≤ k → k < credential_base → get_or m k 0 ≡ get_or l k 0

pub lines_self : (l : List ℕ) → length l ≡ cells → SameLines l l
lines_self l h = record { long = h; count = refl; rows = λ k p q. refl }

module _ (l m : List ℕ) (s : SameLines l m) where
  same_cell : (i f : ℕ) → i < max_formulas → f < line_width → line_cell m i f ≡ line_cell l i f
  unfolding line_cell cell
  same_cell i f h q = s.rows (line_base + i * line_width + f) (omega arith) (omega arith)

  pub same_row_holds : (n : ℕ) → row_at m n ≡ row_at l n
  unfolding row_at
  same_row_holds n = go (dec_lt n max_formulas)
    where
      go : Dec (n < max_formulas) → row_at m n ≡ row_at l n
      go (yes h) = rw (s.count, row_ext (line_cell m n) (line_cell l n) (λ f q. same_cell n f h (omega arith)))
      go (no h) = rw (le-ltb n max_formulas (omega arith))

  pub same_size : (n : ℕ) → n < max_formulas → size_at m n ≡ size_at l n
  unfolding size_at
  same_size n h = same_cell n size_cell h (omega arith)

  pub same_plain : (n : ℕ) → n < max_formulas → plain_at m n ≡ plain_at l n
  unfolding plain_at
  same_plain n h = same_cell n plain_cell h (omega arith)

  pub same_balanced : (n : ℕ) → n < max_formulas → balanced_at m n ≡ balanced_at l n
  unfolding balanced_at
  same_balanced n h = same_cell n balanced_cell h (omega arith)

  pub same_unbound : (n : ℕ) → n < max_formulas → unbound_at m n ≡ unbound_at l n
  unfolding unbound_at
  same_unbound n h = same_cell n unbound_cell h (omega arith)

  pub same_quantified : (n : ℕ) → n < max_formulas → quantified_at m n ≡ quantified_at l n
  unfolding quantified_at
  same_quantified n h = same_cell n quantified_cell h (omega arith)

  pub same_low : (n : ℕ) → n < max_formulas → low_at m n ≡ low_at l n
  unfolding low_at
  same_low n h = same_cell n low_cell h (omega arith)

  pub same_high : (n : ℕ) → n < max_formulas → high_at m n ≡ high_at l n
  unfolding high_at
  same_high n h = same_cell n high_cell h (omega arith)

  pub same_gives : (n : ℕ) → n < max_formulas → gives_at m n ≡ gives_at l n
  unfolding gives_at
  same_gives n h = same_cell n gives_cell h (omega arith)

  pub same_group : (g w : ℕ) → g < groups → w < group_width → group_at m g w ≡ group_at l g w
  unfolding group_at cell
  same_group g w h q = s.rows (group_base + g * group_width + w) (omega arith) (omega arith)

-- row i of the credentials stands in m as in l
abbrev pub Stays : List ℕ → List ℕ → ℕ → Type 0
Stays l m i = (f : ℕ) → f < credential_numbers → credential_cell m i f ≡ credential_cell l i f

module _ (l m : List ℕ) (i : ℕ) (s : Stays l m i) where
  pub stays_credential : credential_at m i ≡ credential_at l i
  unfolding credential_at
  stays_credential = credential_ext (credential_cell m i) (credential_cell l i) s

  pub stays_gap : gap_at m i ≡ gap_at l i
  unfolding gap_at
  stays_gap = ap (λ (n : ℕ). eqb n gap_kind) (s 1 (omega arith))

  pub stays_entry : entry_at m i ≡ entry_at l i
  unfolding entry_at
  stays_entry = rw (stays_gap, stays_credential)

  pub stays_serial : (credential_at m i).serial ≡ (credential_at l i).serial
  stays_serial = ap (λ (c : Credential). c.serial) stays_credential

-- m has l's credential rows, their counts and the next serial: all that no work on formulas changes
pub record SameLive (l m : List ℕ) : Type 0 where
  pub long : length m ≡ cells
  pub count : live_count m ≡ live_count l
  pub next : next_serial m ≡ next_serial l
  pub used : row_count m ≡ row_count l
  pub rows : (i : ℕ) → i < max_rows → Stays l m i
  pub links : (k : ℕ) → link_at m k ≡ link_at l k

pub live_again : {l m k : List ℕ} → SameLive l m → SameLive m k → SameLive l k
live_again s t = record {
  long = t.long;
  count = t.count ∙ s.count;
  next = t.next ∙ s.next;
  used = t.used ∙ s.used;
  rows = λ i q f p. t.rows i q f p ∙ s.rows i q f p;
  links = λ k. t.links k ∙ s.links k;
}

-- One of the numbers before the tables is put.
module _ (l m : List ℕ) (h v : ℕ) where
  pub head_lines : 0 < h → h < line_base → SameLines l m → SameLines l (set m h v)
  head_lines p q s = record {
    long = length-set m h v ∙ s.long;
    count = get_or-set_other m h 0 v 0 (omega arith) ∙ s.count;
    rows = λ k a b. get_or-set_other m h k v 0 (omega arith) ∙ s.rows k a b;
  }

pub head_same : (m : List ℕ) (h v : ℕ) → length m ≡ cells → h < line_base → get_or (set m h v) h 0 ≡ v
head_same m h v e q = get_or-set_same m h v 0 (omega arith)

pub head_other : (m : List ℕ) (h v k : ℕ) → (k ≡ h → ⊥) → get_or (set m h v) k 0 ≡ get_or m k 0
head_other m h v k n = get_or-set_other m h k v 0 n

pub head_stays : (m : List ℕ) (h v i : ℕ) → h < line_base → Stays m (set m h v) i
unfolding cell
head_stays m h v i q f p = get_or-set_other m h (credential_place i f) v 0 (omega arith)

pub head_line : (m : List ℕ) (h v i f : ℕ) → h < line_base → line_cell (set m h v) i f ≡ line_cell m i f
unfolding line_cell cell
head_line m h v i f q = get_or-set_other m h (line_base + i * line_width + f) v 0 (omega arith)

pub head_group : (m : List ℕ) (h v g w : ℕ) → h < line_base → group_at (set m h v) g w ≡ group_at m g w
unfolding group_at cell
head_group m h v g w q = get_or-set_other m h (group_base + g * group_width + w) v 0 (omega arith)

pub head_links : (m : List ℕ) (h v k : ℕ) → h < line_base → link_at (set m h v) k ≡ link_at m k
unfolding link_at
head_links m h v k q = get_or-set_other m h (link_base + k) v 0 (omega arith)

pub count_live : (l m : List ℕ) (v : ℕ) → SameLive l m → SameLive l (set m 0 v)
count_live l m v s = record {
  long = length-set m 0 v ∙ s.long;
  count = head_other m 0 v 1 (omega arith) ∙ s.count;
  next = head_other m 0 v 2 (omega arith) ∙ s.next;
  used = head_other m 0 v 3 (omega arith) ∙ s.used;
  rows = λ i q f p. head_stays m 0 v i (omega arith) f p ∙ s.rows i q f p;
  links = λ k. head_links m 0 v k (omega arith) ∙ s.links k;
}

-- A formula row is put.
module _ (m : List ℕ) (i : ℕ) (r : Row) (v : Facts) where
  pub line_same : length m ≡ cells → i < max_formulas → (f : ℕ) → f < line_width
      → line_cell (put_line m i r v) i f ≡ get_or (line_cells r v) f 0
  unfolding line_cell put_line
  line_same n h f x =
      row_same m line_base line_width i (line_cells r v) f (omega arith) (omega arith)

  pub line_other : (k f : ℕ) → (k ≡ i → ⊥) → f < line_width
      → line_cell (put_line m i r v) k f ≡ line_cell m k f
  unfolding line_cell put_line
  line_other k f h x = row_other m line_base line_width i (line_cells r v) (omega arith) k f h x

  pub line_group : i < max_formulas → (g w : ℕ) → group_at (put_line m i r v) g w
      ≡ group_at m g w
  unfolding group_at cell put_line
  line_group h g w =
      put_above m line_base line_width i (line_cells r v) (group_base + g * group_width + w)
      (omega arith)

  line_before : (k : ℕ) → k < line_base → get_or (put_line m i r v) k 0 ≡ get_or m k 0
  unfolding put_line
  line_before k h = put_below m line_base line_width i (line_cells r v) k h

  pub line_live : length m ≡ cells → i < max_formulas → SameLive m (put_line m i r v)
  unfolding put_line cell link_at
  line_live n h = record {
    long = length_put_row m line_base line_width i (line_cells r v) ∙ n;
    count = line_before 1 (omega arith);
    next = line_before 2 (omega arith);
    used = line_before 3 (omega arith);
    rows = λ k x f y.
        put_above m line_base line_width i (line_cells r v) (credential_place k f) (omega arith);
    links = λ k. put_above m line_base line_width i (line_cells r v) (link_base + k)
        (omega arith);
  }

-- All stays but the sets of lines.
module _ (l m : List ℕ) (n : length m ≡ cells) (below : (k : ℕ) → k < group_base → get_or m k 0 ≡ get_or l k 0) where
  pub below_line : (i f : ℕ) → i < max_formulas → f < line_width → line_cell m i f ≡ line_cell l i f
  unfolding line_cell cell
  below_line i f h q = below (line_base + i * line_width + f) (omega arith)

  pub outside_live : ((k : ℕ) → credential_base ≤ k → get_or m k 0 ≡ get_or l k 0) → SameLive l m
  unfolding cell link_at
  outside_live above = record {
    long = n;
    count = below 1 (omega arith);
    next = below 2 (omega arith);
    used = below 3 (omega arith);
    rows = λ i q f p. above (credential_place i f) (omega arith);
    links = λ k. above (link_base + k) (omega arith);
  }

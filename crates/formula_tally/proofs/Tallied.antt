-- Counts × what one single gives, over sets that have each formula of the session, are the figures of a tally.
use mathlib.Core.Path.{◌≡◌, refl, sym, ap, ap₂, ◌∙◌}
use mathlib.Core.List.{List}
use mathlib.Core.Logic.{◌⊎◌, inl, inr}
use mathlib.Core.Bool.{false, true≢false}
use Prim.Native.Nat.{ℕ, ◌+◌, ◌*◌, ◌-◌, ◌/◌, ◌%◌, ◌^◌, ◌≤◌, ◌<◌}
use native.Mathlib.Omega.{arith}
use native.Mathlib.Decide.{dec_le}
use native.Mathlib.Nat.{add-mul, mul-add, mul-zero, zero-mul, mul-le-mul_right, mul-le-mul_left}
use lib.ListN.{length}
use lib.Bits.{bit_and, and_le_l}
use lib.Count.{count_trailing_zeros}
use Rattle.logic.specs.Formula.{seat, place, size, seats, places}
use Rattle.logic.proofs.Houses.{house_seats_holds}
use Rattle.ledger.specs.Ledger.{Ledger, formula}
use Rattle.ledger.specs.Checks.{max_size, max_live}
use Rattle.ledger.specs.Bounds.{Bounded}
use Rattle.labels.specs.Labels.{member, ◌∋◌}
use Rattle.labels.proofs.Sets.{member_below}
use Rattle.store_cells.specs.Layout.{set_lines, groups, set_width, group_at, filled_at, low_at, high_at}
use Rattle.store.specs.Store.{ledger_of, Good}
use Rattle.store.proofs.Views.{lines_length}
use Rattle.formula_tally.specs.declared.Sums.{Sums}
use Rattle.logic.specs.Packed.{under_unit, counts, seats_in, places_in, house_in}
use Rattle.logic.proofs.Packed.{count_le}
use Rattle.formula_tally.specs.Gives.{gives}
use Rattle.formula_tally.specs.ByFormula.{singles_with, singles_without, sum_to, open_by, shut_by, placed_by}
use Rattle.formula_tally.specs.ByFormula.{open_at, seats_at, places_at, GivenBy, Added}
use Rattle.formula_tally.specs.Sets.{over_set, Named, SetAdded}
use Rattle.formula_tally.proofs.SumLaws.{to_same, to_plus}
use Rattle.formula_tally.proofs.Giving.{gives_none, unpacked, counts_gives}
use Rattle.formula_tally.proofs.SetSums.{lowest_in, and_member, over_next, over_none, over_le}
use Rattle.formula_tally.proofs.SetSums.{over_all, sets_sum}
use Rattle.formula_tally.proofs.Walks.{singles_few}

-- Of one formula

-- what is open and what is shut
apart : (w v a h : ℕ) → h ≤ a → (w + v) * a ≡ w * h + (w * (a - h) + v * a)
apart w v a h le =
    let e : w * a ≡ w * h + w * (a - h) = ap (w *◌) (omega arith) ∙ mul-add w h (a - h) in
    omega (arith, add-mul w v a)

times_none : (a : ℕ) {b : ℕ} → b ≡ 0 → a * b ≡ 0
times_none a e = ap (a *◌) e ∙ mul-zero a

none_times : {a : ℕ} (b : ℕ) → a ≡ 0 → a * b ≡ 0
none_times b e = ap (◌* b) e ∙ zero-mul b

-- the most that a formula gives
abbrev pub most_given : ℕ
most_given = max_live * max_size

product_small : (a b : ℕ) → a ≤ max_live → b ≤ max_size → a * b ≤ most_given
product_small a b h k = omega (arith, mul-le-mul_right b h, mul-le-mul_left max_live k)

abbrev nothing : Sums
nothing = record { «open» = 0; seats = 0; places = 0 }

module _ (t : Ledger) (s m : ℕ) where
  pub record Small (k : ℕ) : Type 0 where
    pub opens : open_at t s m k ≤ most_given
    pub seats : seats_at t s m k ≤ most_given
    pub places : places_at t s m k ≤ most_given

  pub small : Bounded t → (k : ℕ) → Small k
  small b k =
      let f = singles_few m k t in
      let z = b.sizes k in
      let p = count_le seat s (formula t k) in
      record {
        opens = product_small _ _ (omega (arith, f, b.live)) (omega (arith, house_seats_holds false s (formula t k)));
        seats = product_small _ _ (omega (arith, f, b.live)) (omega arith);
        places = product_small _ _ (omega (arith, f, b.live)) (omega (arith, count_le place s (formula t k)));
      }

  -- nothing is given where there are no singles, and where one gives nothing
  pub no_singles : (k : ℕ) → 0 ≡ singles_with t m k → 0 ≡ singles_without t m k → GivenBy t s m k nothing
  no_singles k e f = record {
    opens = sym (none_times _ (sym e));
    seats = sym (none_times _ (omega (arith, e, f)));
    places = sym (none_times _ (omega (arith, e, f)));
  }

  pub no_counts : (k : ℕ) → size (formula t k) ≤ max_size → gives s (formula t k) ≡ 0 → GivenBy t s m k nothing
  no_counts k le e =
      let u = unpacked s (formula t k) le in
      record {
        opens = sym (times_none _ (sym u.house_in_holds ∙ ap house_in e));
        seats = sym (times_none _ (sym u.seats_in_holds ∙ ap seats_in e));
        places = sym (times_none _ (sym u.places_in_holds ∙ ap places_in e));
      }

-- Over one set

-- of the bits of d, where bit j stands for formula base + j, those of `rest` are left
pub record Left (t : Ledger) (s m base d rest o a p : ℕ) : Type 0 where
  pub there : Named (length t.lines) base rest
  pub within : rest ≤ d
  pub opens : o + over_set rest (λ j. open_at t s m (base + j)) ≡ over_set d (λ j. open_at t s m (base + j))
  pub seats : a + over_set rest (λ j. seats_at t s m (base + j)) ≡ over_set d (λ j. seats_at t s m (base + j))
  pub places : p + over_set rest (λ j. places_at t s m (base + j)) ≡ over_set d (λ j. places_at t s m (base + j))

module _ (t : Ledger) (s m base d : ℕ) where
  pub left_start : Named (length t.lines) base d → Left t s m base d d 0 0 0
  left_start n = record {
    there = n;
    within = omega arith;
    opens = omega arith;
    seats = omega arith;
    places = omega arith;
  }

  pub left_end : {rest o a p : ℕ} → Left t s m base d rest o a p → rest ≡ 0
      → SetAdded t s m base d record { «open» = o; seats = a; places = p }
  left_end {rest} u e = record {
    opens = omega (arith, u.opens, none (λ j. open_at t s m (base + j)));
    seats = omega (arith, u.seats, none (λ j. seats_at t s m (base + j)));
    places = omega (arith, u.places, none (λ j. places_at t s m (base + j)));
  }
    where
      none : (f : ℕ → ℕ) → over_set rest f ≡ 0
      none f = ap (λ (x : ℕ). over_set x f) e ∙ over_none f

  module _ {rest o a p : ℕ} (u : Left t s m base d rest o a p) (h : 0 < rest) (l : rest < 2 ^ set_lines) where
    -- the next formula
    pub next : base + count_trailing_zeros set_lines rest < length t.lines
    next =
        let i = lowest_in set_lines rest h l in
        u.there (count_trailing_zeros set_lines rest) (member_below rest set_lines _ l i) i

    module _ {r : Sums} (v : GivenBy t s m (base + count_trailing_zeros set_lines rest) r) where
      pub left_next : Left t s m base d (bit_and rest (rest - 1)) (o + r.«open») (a + r.seats) (p + r.places)
      left_next = record {
        there = λ j q i. u.there j q (and_member rest (rest - 1) j i);
        within = omega (arith, and_le_l rest (rest - 1), u.within);
        opens = omega (arith, u.opens, v.opens, over_next rest (λ j. open_at t s m (base + j)) h l);
        seats = omega (arith, u.seats, v.seats, over_next rest (λ j. seats_at t s m (base + j)) h l);
        places = omega (arith, u.places, v.places, over_next rest (λ j. places_at t s m (base + j)) h l);
      }

      pub left_small : Bounded t → (o + r.«open» ≤ set_lines * most_given) × (a + r.seats ≤ set_lines * most_given)
          × (p + r.places ≤ set_lines * most_given)
      left_small b =
          let limit : (k : ℕ) → Small t s m (base + k) = λ k. small t s m b (base + k) in (
            omega (arith, left_next.opens, over_le d most_given _ (λ k. (limit k).opens)),
            omega (arith, left_next.seats, over_le d most_given _ (λ k. (limit k).seats)),
            omega (arith, left_next.places, over_le d most_given _ (λ k. (limit k).places)),
          )

    -- one that gives nothing is passed
    pub left_pass : GivenBy t s m (base + count_trailing_zeros set_lines rest) nothing
        → Left t s m base d (bit_and rest (rest - 1)) o a p
    left_pass v =
        let x = left_next v in
        record {
          there = x.there;
          within = x.within;
          opens = omega (arith, x.opens);
          seats = omega (arith, x.seats);
          places = omega (arith, x.places);
        }

-- Over sets

-- d has the numbers of the sets that are not 0, and the sets a bit for each formula that may have an atom of the
-- session, and none for what is no formula
pub record Marks (l : List ℕ) (s d : ℕ) (bits : ℕ → ℕ) : Type 0 where
  pub numbers : (w : ℕ) → d ∋ w → w < set_width
  pub others : (w : ℕ) → w < set_width → member d w ≡ false → bits w ≡ 0
  pub within : (w j : ℕ) → w < set_width → j < set_lines → bits w ∋ j → set_lines * w + j < length (ledger_of l).lines
  pub marked : (i : ℕ) → i < length (ledger_of l).lines → low_at l i ≤ s → s ≤ high_at l i
      → bits (i / set_lines) ∋ i % set_lines

-- what set w gives to a sum
abbrev set_gives : (ℕ → ℕ) → (ℕ → ℕ) → ℕ → ℕ
set_gives bits f w = over_set (bits w) (λ j. f (set_lines * w + j))

-- of the numbers of d those of `rest` are left
pub record Adding (t : Ledger) (s m d : ℕ) (bits : ℕ → ℕ) (rest o a p : ℕ) : Type 0 where
  pub within : rest ≤ d
  pub there : (w : ℕ) → rest ∋ w → d ∋ w
  pub opens : o + over_set rest (set_gives bits (open_at t s m)) ≡ over_set d (set_gives bits (open_at t s m))
  pub seats : a + over_set rest (set_gives bits (seats_at t s m)) ≡ over_set d (set_gives bits (seats_at t s m))
  pub places : p + over_set rest (set_gives bits (places_at t s m)) ≡ over_set d (set_gives bits (places_at t s m))

module _ (t : Ledger) (s m d : ℕ) (bits : ℕ → ℕ) where
  pub adding_start : Adding t s m d bits d 0 0 0
  adding_start = record {
    within = omega arith;
    there = λ w i. i;
    opens = omega arith;
    seats = omega arith;
    places = omega arith;
  }

  module _ {rest o a p : ℕ} (u : Adding t s m d bits rest o a p) (h : 0 < rest) (l : rest < 2 ^ set_lines) {r : Sums}
      (v : SetAdded t s m (set_lines * count_trailing_zeros set_lines rest)
      (bits (count_trailing_zeros set_lines rest)) r) where
    pub adding_next : Adding t s m d bits (bit_and rest (rest - 1)) (o + r.«open») (a + r.seats) (p + r.places)
    adding_next = record {
      within = omega (arith, and_le_l rest (rest - 1), u.within);
      there = λ w i. u.there w (and_member rest (rest - 1) w i);
      opens = omega (arith, u.opens, v.opens, over_next rest (set_gives bits (open_at t s m)) h l);
      seats = omega (arith, u.seats, v.seats, over_next rest (set_gives bits (seats_at t s m)) h l);
      places = omega (arith, u.places, v.places, over_next rest (set_gives bits (places_at t s m)) h l);
    }

    pub adding_small : Bounded t → (o + r.«open» ≤ set_lines * (set_lines * most_given))
        × (a + r.seats ≤ set_lines * (set_lines * most_given)) × (p + r.places ≤ set_lines * (set_lines * most_given))
    adding_small b =
        let limit : (f : ℕ → ℕ) → ((k : ℕ) → f k ≤ most_given) → over_set d (set_gives bits f)
        ≤ set_lines * (set_lines * most_given) =
        λ f q.
        over_le d (set_lines * most_given) (set_gives bits f) (λ w. over_le (bits w) most_given _ (λ j. q _)) in (
          omega (arith, adding_next.opens, limit (open_at t s m) (λ k. (small t s m b k).opens)),
          omega (arith, adding_next.seats, limit (seats_at t s m) (λ k. (small t s m b k).seats)),
          omega (arith, adding_next.places, limit (places_at t s m) (λ k. (small t s m b k).places)),
        )

module _ (l : List ℕ) (s m : ℕ) (g : Good l) where
  abbrev t : Ledger
  t = ledger_of l

  -- a formula has nothing of a session that is not between its numbers
  pub outside : (i : ℕ) → i < length t.lines → (s < low_at l i) ⊎ (high_at l i < s) → gives s (formula t i) ≡ 0
  outside i h o =
      let z = g.spans i (omega (arith, lines_length l)) in
      gives_none s (formula t i) (z seat s o) (z place s o)

  -- what is kept with a formula, of its lowest session
  pub kept : {n : ℕ} (i : ℕ) → i < length t.lines → s ≡ low_at l i → n ≡ counts (low_at l i) (formula t i)
      → n % under_unit ≡ gives s (formula t i)
  kept i h e c =
      ap (◌% under_unit) (c ∙ ap (λ (x : ℕ). counts x (formula t i)) (sym e))
      ∙ counts_gives s (formula t i) (g.bounded.sizes i)

  -- the sets of the session's group
  pub marks : Marks l s (filled_at l (s % groups)) (group_at l (s % groups))
  marks = record {
    numbers = λ w i. g.grouped.filled.numbers (s % groups) w (omega arith) i;
    others = λ w h e. g.grouped.filled.others (s % groups) w (omega arith) h e;
    within = λ w j p q i. omega (arith, lines_length l, g.grouped.within (s % groups) w j (omega arith) p q i);
    marked = λ i h p q. g.grouped.near i s (omega (arith, lines_length l)) p q;
  }

  module _ (d : ℕ) (bits : ℕ → ℕ) (k : Marks l s d bits) where
    -- a formula that has no bit
    unmarked : (i : ℕ) → i < length t.lines → member (bits (i / set_lines)) (i % set_lines) ≡ false
        → (s < low_at l i) ⊎ (high_at l i < s)
    unmarked i h e = go (dec_le (low_at l i) s) (dec_le s (high_at l i))
      where
        go : Dec (low_at l i ≤ s) → Dec (s ≤ high_at l i) → (s < low_at l i) ⊎ (high_at l i < s)
        go (yes p) (yes q) = absurd (true≢false (sym (k.marked i h p q) ∙ e))
        go (no p) q = inl (omega arith)
        go (yes p) (no q) = inr (omega arith)

    -- a sum over the sets is one over all formulas, where it sees only those of the session
    marked_sum : (f : ℕ → ℕ) → ((i : ℕ) → seats s (formula t i) ≡ 0 → places s (formula t i) ≡ 0 → f i ≡ 0)
        → {rest x : ℕ} → rest ≡ 0 → x + over_set rest (set_gives bits f) ≡ over_set d (set_gives bits f)
        → x ≡ sum_to (length t.lines) f
    marked_sum f none {rest} {x} e h =
        let z : over_set rest (set_gives bits f) ≡ 0 = ap (λ (n : ℕ). over_set n (set_gives bits f)) e ∙ over_none _ in
        let y : x ≡ over_set d (set_gives bits f) = omega arith in
        y ∙ over_all d set_width (set_gives bits f) (omega arith) k.numbers
        (λ w q i. ap (λ (n : ℕ). over_set n (λ j. f (set_lines * w + j))) (k.others w q i) ∙ over_none _)
        ∙ sets_sum bits f (length t.lines) (omega (arith, g.bounded.lines)) k.within away
      where
        away : (i : ℕ) → i < length t.lines → member (bits (i / set_lines)) (i % set_lines) ≡ false → f i ≡ 0
        away i h e =
            let z = g.spans i (omega (arith, lines_length l)) in
            let o = unmarked i h e in
            none i (z seat s o) (z place s o)

    pub adding_all : {rest : ℕ} {r : Sums} → rest ≡ 0 → Adding t s m d bits rest r.«open» r.seats r.places
        → Added t s m r
    unfolding open_by shut_by placed_by
    adding_all {rest} {r} e u =
        let n = length t.lines in
        record {
          opens = marked_sum (open_at t s m)
              (λ i p q. times_none _ (omega (arith, house_seats_holds false s (formula t i)))) e u.opens;
          seats = marked_sum (seats_at t s m) (λ i p q. times_none _ p) e u.seats
              ∙ to_same n _ _ (λ i h. apart _ _ _ _ (omega (arith, house_seats_holds false s (formula t i))))
              ∙ to_plus n _ _;
          places = marked_sum (places_at t s m) (λ i p q. times_none _ q) e u.places;
        }

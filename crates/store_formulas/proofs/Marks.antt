-- A line joins sets, group by group.
use mathlib.Core.Path.{◌≡◌, refl, subst, ◌∙◌}
use mathlib.Core.List.{List}
use Prim.Native.Nat.{ℕ, ◌+◌, ◌-◌, ◌/◌, ◌%◌, ◌≤◌, ◌<◌}
use native.Mathlib.Omega.{arith}
use native.Mathlib.Decide.{dec_lt, ℕ_discrete}
use lib.ListN.{length}
use Rattle.ledger.specs.Checks.{max_formulas}
use Rattle.labels.specs.Labels.{◌∋◌}
use Rattle.store_cells.specs.Layout.{cells, groups, set_lines, set_width, group_at, filled_at, put_mark}
use Rattle.store_cells.proofs.GroupSets.{mark_long, mark_below, mark_above, mark_here, mark_other, mark_stays}
use Rattle.store_cells.proofs.GroupSets.{mark_filled, mark_empty}
use Rattle.store.specs.Groups.{Near, Filled}
use Rattle.store_formulas.specs.Marked.{OnlyLine, Marked, MarkedTo}

pub only_self : (l : List ℕ) (n : ℕ) → length l ≡ cells → OnlyLine l l n
only_self l n e = record {
  long = e;
  below = λ k h. refl;
  above = λ k h. refl;
  others = λ g w j a b c d. refl;
  filled = λ z. z;
}

pub mark_start : (l : List ℕ) (n low k : ℕ) → length l ≡ cells → k ≤ low → MarkedTo l l n low k
mark_start l n low k e h = record { only = only_self l n e; near = λ s a b. absurd (omega arith) }

-- one group more: g is that of session k
pub mark_next : (l m : List ℕ) (n low k g : ℕ) → n < max_formulas → g ≡ k % groups → MarkedTo l m n low k
    → MarkedTo l (put_mark m g n) n low (k + 1)
mark_next l m n low k g q e v = record {
  only = record {
    long = mark_long m g n h q ∙ o.long;
    below = λ c a. mark_below m g n h q c a ∙ o.below c a;
    above = λ c a. mark_above m g n h q c a ∙ o.above c a;
    others = λ f w j a b c d. mark_other m g n h q o.long f w j a b c d ∙ o.others f w j a b c d;
    filled = λ z. filled_next (o.filled z);
  };
  near = λ s a b. go s a b (dec_lt s k);
}
  where
    o : OnlyLine l m n
    o = v.only

    h : g < groups
    h = omega arith

    filled_next : Filled m → Filled (put_mark m g n)
    filled_next z = record {
      numbers = λ f w a b. in_numbers f w a b (ℕ_discrete w (n / set_lines));
      others = λ f w a b c.
          let x = mark_empty m g n h q o.long f w a b c in
          x.1 ∙ z.others f w a b x.0;
    }
      where
        in_numbers : (f w : ℕ) → f < groups → filled_at (put_mark m g n) f ∋ w → Dec (w ≡ n / set_lines) → w < set_width
        in_numbers f w a b (yes d) = omega arith
        in_numbers f w a b (no d) = z.numbers f w a (mark_filled m g n h q o.long f w a b d)

    go : (s : ℕ) → low ≤ s → s < k + 1 → Dec (s < k) → Near (put_mark m g n) s n
    go s a b (yes z) = mark_stays m g n h q o.long (s % groups) (omega arith) (v.near s a z)
    go s a b (no z) =
        let x : g ≡ s % groups = omega arith in
        subst (λ (f : ℕ). group_at (put_mark m g n) f (n / set_lines) ∋ n % set_lines) x (mark_here m g n h q o.long)

-- all groups are done: of sessions further on the groups come again
pub mark_done : (l m : List ℕ) (n low high k : ℕ) → MarkedTo l m n low k
    → ((s : ℕ) → low ≤ s → s ≤ high → s < low + groups → s < k) → Marked l m n low high
mark_done l m n low high k v end = record {
  only = v.only;
  near = λ s a b.
      let i = (s - low) % groups in
      let x : (low + i) % groups ≡ s % groups = omega arith in
      subst (λ (f : ℕ). group_at m f (n / set_lines) ∋ n % set_lines) x
      (v.near (low + i) (omega arith) (end (low + i) (omega arith) (omega arith) (omega arith)));
}

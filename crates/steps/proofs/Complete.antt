-- Every derivation has step lines that spell it: those of its rules, with as many new labels as it takes.
use mathlib.Core.Path.{◌≡◌, refl, sym, subst}
use mathlib.Core.List.{List, [], ◌∷◌, ◌++◌}
use Prim.Native.Nat.{ℕ, ◌+◌, ◌^◌, ◌<◌, ◌≤◌}
use native.Mathlib.Omega.{arith}
use lib.ListN.{length}
use lib.Pow.{pow_mono}
use Rattle.logic.specs.declared.Interval.{Interval}
use Rattle.logic.specs.Interval.{WellFormed}
use Rattle.logic.specs.Derives.{Hyp, Judgment, Derives, Letter, letters, taken}
use Rattle.logic.specs.Multiset.{here, Perm, more}
use Rattle.logic.proofs.Intervals.{break_within}
use Rattle.logic.proofs.Multisets.{perm_trans}
use Rattle.request.specs.Request.{Step}
use Rattle.labels.specs.Labels.{◌∋◌, ◌⊑◌, remove}
use Rattle.labels.proofs.Sets.{subset_le, without_le, only_is}
use Rattle.labels.proofs.Permutations.{on, before, perm_nil, perm_in, within_cons, in_front}
use Rattle.labels.proofs.Pick.{Found, find, choose, pick_nil}
use Rattle.request.specs.Range.{minute, label}
use Rattle.request.specs.InRange.{◌in_range◌, LabelSet, IntervalInRange}
use Rattle.steps.specs.Check.{max_labels}
use Rattle.steps.specs.Rule.{from, premise, Rule}
use Rattle.steps.specs.Spells.{Labels, named}
use Rattle.steps.specs.StepLetters.{letter_of}
use Rattle.steps.specs.Limits.{Minutes, Writable}
use Rattle.steps.specs.Labelling.{hyps, labelled_by}
use Rattle.steps.proofs.Labelling.{no_hyps, Known}
use Rattle.steps.proofs.Spelling.{Lines, Spelled, closing, going, parting}

-- Labels for hypotheses

module _ (ls : Labels) (d : ℕ) (known : Known ls d) (low : length ls ≤ max_labels) where
  under_max : d < 2 ^ max_labels
  under_max = omega (arith, pow_mono low)

  -- the label of a hypothesis that stands in front, and the rest of the set
  head : {h : Hyp} {D : List Hyp} → Perm (h ∷ D) (hyps ls d) → Found (named ls) max_labels d h D
  head m = find (named ls) max_labels d under_max m

  -- a set that stands for nothing is empty
  empty : Perm [] (hyps ls d) → d ≡ 0
  empty m = pick_nil (named ls) max_labels d under_max (perm_nil m)

  -- a share is a number of 64 bits
  narrow : (s : ℕ) → s ⊑ d → s < 2 ^ max_labels
  narrow s h = omega (arith, subset_le s d h, under_max)

-- Rules with one premise

-- a right step, which leaves all of D
at_right : {R D : List Hyp} {g g' : Judgment} {u : List Letter} {v : ℕ} (s : Step) → Writable s
    → ((label : ℕ → Hyp) (r d : ℕ) → Rule label r d s g (premise (from d g' [])))
    → Spelled R D g' u v → Spelled R D g (letter_of s ∷ u) v
at_right s w rule ih = λ ls r d fits sub m room.
    going ls r d fits {s = s} (rule (named ls) r d) w ih sub m (omega arith) room

-- a step at the label of h, the first hypothesis, with new labels for hs in its place
at_left : {R D : List Hyp} {h : Hyp} {g : Judgment} {a : Letter} {u : List Letter} {v n : ℕ}
    (s : ℕ → Step) (hs : List Hyp) → ((k : ℕ) → letter_of (s k) ≡ a) → ((k : ℕ) → k < max_labels → Writable (s k))
    → ((label : ℕ → Hyp) (r d k : ℕ) → d ∋ k → label k ≡ h
    → Rule label r d (s k) g (premise (from (remove d k) g hs)))
    → n ≡ length hs + v → Spelled R (hs ++ D) g u v → Spelled R (h ∷ D) g (a ∷ u) n
at_left {g = g} {u = u} {n = n} s hs lettered w rule e ih = λ ls r d fits sub m room.
    let k = head ls d fits.linear fits.room m in
    subst (λ (b : Letter). Lines ls (labelled_by r d g) (b ∷ u) n) (lettered k.0)
    (going ls r d fits {s = s k.0} (rule (named ls) r d k.0 k.2 k.3) (w k.0 k.1) ih sub
    (before hs k.4) (omega arith) room)

-- What lines carry is in range

label_in : (k : ℕ) → k < max_labels → k in_range label
unfolding max_labels
label_in k l = record { least = omega arith; most = omega arith }

label_writable : (k : ℕ) → k < max_labels → (k in_range label) × Unit {0}
label_writable k l = (label_in k l, tt)

set_in_holds : (s : ℕ) → s < 2 ^ max_labels → LabelSet s
unfolding max_labels
set_in_holds s l = l

pub interval_in : (j : Interval) → WellFormed j → j.to ≤ minute.last → IntervalInRange j
interval_in j w l =
    let b = break_within j w in
    record {
      from = record { least = omega arith; most = omega (arith, w.ordered) };
      to = record { least = omega arith; most = l };
      first = record { least = omega arith; most = omega (arith, b.0) };
      last = record { least = omega arith; most = omega (arith, b.1) };
    }

pub spelled : {R D : List Hyp} {g : Judgment} (x : Derives R D g) → Minutes x → Spelled R D g (letters x) (taken x)
unfolding letters taken
spelled (Derives.same n k x) mn = λ ls r d fits sub m room.
    spelled x mn ls r d fits (λ h i. sub h (perm_in n h i)) (perm_trans k m) room
spelled (Derives.ax c) mn = λ ls r d fits sub m room.
    let k = head ls d fits.linear fits.room m in
    let z = empty ls (remove d k.0) (omega (arith, without_le d (2 ^ k.0), fits.linear)) fits.room k.4 in
    closing ls r d fits (Rule.ax (only_is d k.0 k.2 z) k.3 c) (label_writable k.0 k.1)
spelled (Derives.cp {h = h} i x) mn = λ ls r d fits sub m room.
    let k = head ls r fits.unrestricted fits.room (in_front (hyps ls r) (sub h i)).1 in
    going ls r d fits (Rule.cp k.2) (label_writable k.0 k.1) (spelled x mn) sub
    (more (here (sym k.3)) m) (omega arith) room
spelled (Derives.tr {D = D} {E = E} x y) mn = λ ls r d fits sub m room.
    let s = choose (named ls) max_labels d D E m in
    parting ls r d fits (Rule.tr s.1) (set_in_holds s.0 (narrow ls d fits.linear fits.room s.0 s.1), tt)
    (spelled x mn.0) sub s.2 (spelled y mn.1) sub s.3 (omega arith) room
spelled (Derives.tl x) mn =
    at_left Step.tl (_ ∷ _ ∷ []) (λ k. refl) label_writable (λ f r d k m e. Rule.tl m e) (omega arith) (spelled x mn)
spelled Derives.or mn = λ ls r d fits sub m room.
    closing ls r d fits (Rule.or (empty ls d fits.linear fits.room m)) (tt, tt)
spelled (Derives.ol x) mn =
    at_left Step.ol [] (λ k. refl) label_writable (λ f r d k m e. Rule.ol m e) (omega arith) (spelled x mn)
spelled (Derives.wr x y) mn = λ ls r d fits sub m room.
    parting ls r d fits Rule.wr (tt, tt) (spelled x mn.0) sub m (spelled y mn.1) sub m (omega arith) room
spelled (Derives.w1 x) mn =
    at_left Step.w1 (_ ∷ []) (λ k. refl) label_writable (λ f r d k m e. Rule.w1 m e) (omega arith) (spelled x mn)
spelled (Derives.w2 x) mn =
    at_left Step.w2 (_ ∷ []) (λ k. refl) label_writable (λ f r d k m e. Rule.w2 m e) (omega arith) (spelled x mn)
spelled (Derives.p1 x) mn = at_right Step.p1 (tt, tt) (λ f r d. Rule.p1) (spelled x mn)
spelled (Derives.p2 x) mn = at_right Step.p2 (tt, tt) (λ f r d. Rule.p2) (spelled x mn)
spelled (Derives.pl x y) mn = λ ls r d fits sub m room.
    let k = head ls d fits.linear fits.room m in
    parting ls r d fits (Rule.pl k.2 k.3) (label_writable k.0 k.1) (spelled x mn.0) sub
    (on k.4) (spelled y mn.1) sub
    (on k.4) (omega arith) room
spelled (Derives.ll {D = D} {E = E} {j = j} o c x y) mn = λ ls r d fits sub m room.
    let k = head ls d fits.linear fits.room m in
    let d' = remove d k.0 in
    let s = choose (named ls) max_labels d' D E k.4 in
    let w = narrow ls d' (omega (arith, without_le d (2 ^ k.0), fits.linear)) fits.room s.0 s.1 in
    parting ls r d fits (Rule.ll k.2 k.3 c s.1)
    (record { label = label_in k.0 k.1; share = set_in_holds s.0 w; interval = interval_in j o mn.0 }, (o, tt))
    (spelled x mn.1) sub s.2
    (spelled y mn.2) sub (on s.3) (omega arith) room
spelled (Derives.ul {j = j} o c x y) mn = λ ls r d fits sub m room.
    let k = head ls d fits.linear fits.room m in
    parting ls r d fits (Rule.ul k.2 k.3 c)
    (record { label = label_in k.0 k.1; interval = interval_in j o mn.0 }, (o, tt))
    (spelled x mn.1) sub (no_hyps ls)
    (spelled y mn.2) sub (on k.4) (omega arith) room
spelled (Derives.br x) mn = λ ls r d fits sub m room.
    going ls r d fits (Rule.br (empty ls d fits.linear fits.room m)) (tt, tt) (spelled x mn) sub m
    (omega arith) room
spelled (Derives.bl x) mn = λ ls r d fits sub m room.
    let k = head ls d fits.linear fits.room m in
    going ls r d fits (Rule.bl k.2 k.3) (label_writable k.0 k.1) (spelled x mn)
    (within_cons sub) k.4 (omega arith) room
spelled (Derives.hr x) mn = at_right Step.hr (tt, tt) (λ f r d. Rule.hr) (spelled x mn)
spelled (Derives.hl x) mn =
    at_left Step.hl (_ ∷ []) (λ k. refl) label_writable (λ f r d k m e. Rule.hl m e) (omega arith) (spelled x mn)
spelled (Derives.sr x) mn = at_right Step.sr (tt, tt) (λ f r d. Rule.sr) (spelled x mn)
spelled (Derives.af x) mn = at_right Step.af (tt, tt) (λ f r d. Rule.af) (spelled x mn)
spelled (Derives.sl c x) mn =
    at_left Step.sl (_ ∷ []) (λ k. refl) label_writable (λ f r d k m e. Rule.sl m e c) (omega arith) (spelled x mn)
spelled (Derives.gr c) mn = λ ls r d fits sub m room.
    closing ls r d fits (Rule.gr (empty ls d fits.linear fits.room m) c) (tt, tt)
spelled (Derives.al {h = h} n x) mn =
    at_left (λ k. Step.al k h) (_ ∷ []) (λ k. refl)
    (λ k l. (record { label = label_in k l; holder = record { least = n.least; most = n.most } }, tt))
    (λ f r d k m e. Rule.al m e n) (omega arith) (spelled x mn)

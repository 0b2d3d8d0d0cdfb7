-- The hypotheses that a set of labels stands for: how they fare when labels are taken.
use mathlib.Core.Path.{◌≡◌, refl, sym, subst, subst₂, ◌∙◌}
use mathlib.Core.List.{List, [], ◌∷◌, ◌++◌}
use Prim.Native.Nat.{ℕ, suc, ◌+◌, ◌^◌, ◌<◌, ◌≤◌}
use native.Mathlib.Omega.{arith}
use lib.ListN.{length, length-append, get_or-append}
use lib.Seq.{get_or-append_seam}
use lib.Pow.{pow_mono}
use Rattle.logic.specs.Derives.{Hyp}
use Rattle.logic.specs.Multiset.{Perm, none}
use Rattle.logic.proofs.Multisets.{perm_refl, perm_sym, perm_trans}
use Rattle.labels.specs.Labels.{insert}
use Rattle.labels.proofs.Sets.{member_below, insert_below}
use Rattle.labels.proofs.Permutations.{before, perm_middle}
use Rattle.labels.proofs.Pick.{pick_agree, pick_insert, pick_empty}
use Rattle.steps.specs.Check.{max_labels}
use Rattle.steps.specs.Spells.{Labels, no_hyp, named, grown, adding}
use Rattle.steps.specs.Labelling.{hyps}

pub no_hyps : (ls : Labels) → Perm [] (hyps ls 0)
no_hyps ls = subst (Perm []) (sym (pick_empty (named ls) max_labels)) none

-- a set has only labels that are taken
abbrev pub Known : Labels → ℕ → Type 0
Known ls d = d < 2 ^ length ls

-- the labels of ls mean the same in ls'
pub record Extends (ls ls' : Labels) : Type 0 where
  pub longer : length ls ≤ length ls'
  pub keeps : (k : ℕ) → k < length ls → named ls' k ≡ named ls k

pub ext_refl : (ls : Labels) → Extends ls ls
ext_refl ls = record { longer = omega arith; keeps = λ k h. refl }

pub ext_trans : {a b c : Labels} → Extends a b → Extends b c → Extends a c
ext_trans x y = record {
  longer = omega (arith, x.longer, y.longer);
  keeps = λ k h. y.keeps k (omega (arith, x.longer)) ∙ x.keeps k h;
}

pub known_up : {ls ls' : Labels} (d : ℕ) → Extends ls ls' → Known ls d → Known ls' d
known_up d x h = omega (arith, pow_mono x.longer)

-- a set stands for the same when labels are taken
pub kept : {ls ls' : Labels} (d : ℕ) → Extends ls ls' → Known ls d → hyps ls' d ≡ hyps ls d
kept {ls} {ls'} d x h =
    pick_agree (named ls') (named ls) max_labels d (λ k m. x.keeps k (member_below d (length ls) k h m))

-- One new label

pub length_snoc : (ls : Labels) (h : Hyp) → length (ls ++ (h ∷ [])) ≡ suc (length ls)
length_snoc ls h = length-append ls (h ∷ []) ∙ (omega arith)

pub ext_snoc : (ls : Labels) (h : Hyp) → Extends ls (ls ++ (h ∷ []))
ext_snoc ls h = record {
  longer = omega (arith, length_snoc ls h);
  keeps = λ k l. get_or-append ls (h ∷ []) no_hyp k l;
}

pub known_snoc : (ls : Labels) (h : Hyp) (d : ℕ) → Known ls d → Known (ls ++ (h ∷ [])) (insert d (length ls))
known_snoc ls h d k =
    subst (λ (n : ℕ). insert d (length ls) < 2 ^ n) (sym (length_snoc ls h)) (insert_below d (length ls) k)

pub fresh : (ls : Labels) (d : ℕ) (h : Hyp) → Known ls d → length ls < max_labels
    → Perm (h ∷ hyps ls d) (hyps (ls ++ (h ∷ [])) (insert d (length ls)))
fresh ls d h k room =
    let ls' = ls ++ (h ∷ []) in
    subst₂ (λ (x : Hyp) (l : List Hyp). Perm (x ∷ l) (hyps ls' (insert d (length ls))))
    (get_or-append_seam ls h [] no_hyp) (kept d (ext_snoc ls h) k)
    (pick_insert (named ls') max_labels d (length ls) room k)

-- New labels, one after another

pub ext_grown : (ls : Labels) (hs : List Hyp) → Extends ls (grown ls hs)
ext_grown ls [] = ext_refl ls
ext_grown ls (h ∷ hs) = ext_trans (ext_snoc ls h) (ext_grown (ls ++ (h ∷ [])) hs)

pub length_grown : (ls : Labels) (hs : List Hyp) → length (grown ls hs) ≡ length ls + length hs
length_grown ls [] = omega arith
length_grown ls (h ∷ hs) = omega (arith, length_grown (ls ++ (h ∷ [])) hs, length_snoc ls h)

pub known_adding : (ls : Labels) (hs : List Hyp) (d : ℕ) → Known ls d → Known (grown ls hs) (adding ls hs d)
known_adding ls [] d k = k
known_adding ls (h ∷ hs) d k = known_adding (ls ++ (h ∷ [])) hs (insert d (length ls)) (known_snoc ls h d k)

-- the new hypotheses join those of the set
pub grows : (ls : Labels) (hs : List Hyp) (d : ℕ) → Known ls d → length (grown ls hs) ≤ max_labels
    → Perm (hs ++ hyps ls d) (hyps (grown ls hs) (adding ls hs d))
grows ls [] d k room = perm_refl (hyps ls d)
grows ls (h ∷ hs) d k room =
    let ls' = ls ++ (h ∷ []) in
    let i = fresh ls d h k (omega (arith, (ext_grown ls' hs).longer, length_snoc ls h)) in
    let m = perm_middle hs (hyps ls d) (perm_refl (hs ++ hyps ls d)) in
    perm_trans (perm_sym m)
    (perm_trans (before hs i) (grows ls' hs (insert d (length ls)) (known_snoc ls h d k) room))

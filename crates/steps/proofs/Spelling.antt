-- Step lines that spell a derivation, put together from those of the premises: one step more, and its labels.
use mathlib.Core.Path.{◌≡◌, refl, sym, ap, ap₂, subst, ◌∙◌}
use mathlib.Core.List.{List, [], ◌∷◌, ◌++◌, append_assoc, map-append}
use Prim.Native.Nat.{ℕ, ◌+◌, ◌≤◌}
use native.Mathlib.Omega.{arith}
use lib.ListN.{length}
use Rattle.logic.specs.Derives.{Hyp, Judgment, Letter}
use Rattle.logic.specs.Multiset.{Perm, more, Every, Within}
use Rattle.logic.proofs.Multisets.{perm_trans}
use Rattle.request.specs.Request.{Step}
use Rattle.labels.proofs.Permutations.{perm_in}
use Rattle.steps.specs.Check.{max_labels}
use Rattle.steps.specs.Rule.{Branch, from, nothing, premise, premises, Rule}
use Rattle.steps.specs.Spells.{Labels, named, Labelled, begun, beginning, Room, Spells}
use Rattle.steps.specs.StepLetters.{letter_of, letters_of}
use Rattle.steps.specs.Limits.{Writable}
use Rattle.steps.specs.Labelling.{hyps, labelled_by, Fits}
use Rattle.steps.proofs.Labelling.{Extends, ext_refl, ext_trans}
use Rattle.steps.proofs.Premises.{news, length_begun, ext_begun, lowers, fits_begun, linear_begun}
use Rattle.steps.proofs.Premises.{unrestricted_begun}

every_both : (ss ts : List Step) → Every Writable ss → Every Writable ts → Every Writable (ss ++ ts)
every_both [] ts a b = b
every_both (s ∷ ss) ts a b = (a.0, every_both ss ts a.1 b)

-- lines that spell a derivation of a sequent, with the letters u and v new labels
pub record Lines (ls : Labels) (q : Labelled) (u : List Letter) (v : ℕ) : Type 0 where
  pub steps : List Step
  pub letters : letters_of steps ≡ u
  pub writable : Every Writable steps
  pub after : Labels
  pub labels : length after ≡ length ls + v
  pub extends : Extends ls after
  pub spells : (rest : List Step) → Spells (steps ++ rest) ls q rest after

-- such lines for every labelling of the hypotheses with room enough; membership is all that counts of R
abbrev pub Spelled : List Hyp → List Hyp → Judgment → List Letter → ℕ → Type 0
Spelled R D g u v =
    (ls : Labels) (r d : ℕ) → Fits ls (labelled_by r d g) → Within R (hyps ls r) → Perm D (hyps ls d)
    → length ls + v ≤ max_labels → Lines ls (labelled_by r d g) u v

-- One step more

module _ (ls : Labels) (r d : ℕ) {g : Judgment} (fits : Fits ls (labelled_by r d g)) where
  pub closing : {s : Step} → Rule (named ls) r d s g nothing → Writable s
      → Lines ls (labelled_by r d g) (letter_of s ∷ []) 0
  closing {s} rule w = record {
    steps = s ∷ [];
    letters = refl;
    writable = (w, tt);
    after = ls;
    labels = omega arith;
    extends = ext_refl ls;
    spells = λ rest. Spells.closes rule;
  }

  -- a premise begun at labels ls₁ that extend ls, its lines found
  entering : (ls₁ : Labels) → Extends ls ls₁ → (p : Branch) {R D : List Hyp} {u : List Letter} {v : ℕ} → p.linear ≤ d
      → length (begun ls₁ p) + v ≤ max_labels → Spelled R D p.goal u v → Within R (p.joins ++ hyps ls r)
      → Perm D (p.linears ++ hyps ls p.linear) → Lines (begun ls₁ p) (beginning ls₁ r p) u v
  entering ls₁ x p low room ih sub m =
      let full : Room ls₁ p = omega arith in
      ih (begun ls₁ p) (beginning ls₁ r p).unrestricted (beginning ls₁ r p).linear (fits_begun p x fits low full)
      (λ h i. perm_in (unrestricted_begun p x fits low full) h (sub h i))
      (perm_trans m (linear_begun p x fits low full)) room

  one_more_holds : {s : Step} {p : Branch} {u : List Letter} {v n : ℕ} → Rule (named ls) r d s g (premise p)
      → Writable s → Room ls p → n ≡ news p + v → Lines (begun ls p) (beginning ls r p) u v
      → Lines ls (labelled_by r d g) (letter_of s ∷ u) n
  one_more_holds {s} {p} rule w room e c = record {
    steps = s ∷ c.steps;
    letters = ap (letter_of s ∷◌) c.letters;
    writable = (w, c.writable);
    after = c.after;
    labels = omega (arith, c.labels, length_begun ls p);
    extends = ext_trans (ext_begun ls p) c.extends;
    spells = λ rest. Spells.goes rule room (c.spells rest);
  }

  two_more : {s : Step} {p₁ p₂ : Branch} {u₁ u₂ : List Letter} {v₁ v₂ n : ℕ}
      → Rule (named ls) r d s g (premises p₁ p₂) → Writable s → n ≡ news p₁ + news p₂ + (v₁ + v₂)
      → Room ls p₁ → (c : Lines (begun ls p₁) (beginning ls r p₁) u₁ v₁)
      → Room c.after p₂ → Lines (begun c.after p₂) (beginning c.after r p₂) u₂ v₂
      → Lines ls (labelled_by r d g) (letter_of s ∷ (u₁ ++ u₂)) n
  two_more {s} {p₁} {p₂} rule w e room₁ c room₂ b = record {
    steps = s ∷ (c.steps ++ b.steps);
    letters = ap (letter_of s ∷◌) (map-append letter_of c.steps b.steps ∙ ap₂ ◌++◌ c.letters b.letters);
    writable = (w, every_both c.steps b.steps c.writable b.writable);
    after = b.after;
    labels = omega (arith, c.labels, b.labels, length_begun ls p₁, length_begun c.after p₂);
    extends = ext_trans (ext_trans (ext_begun ls p₁) c.extends) (ext_trans (ext_begun c.after p₂) b.extends);
    spells = λ rest. Spells.parts rule room₁
        (subst (λ (l : List Step). Spells l (begun ls p₁) (beginning ls r p₁) (b.steps ++ rest) c.after)
        (sym (append_assoc c.steps b.steps rest)) (c.spells (b.steps ++ rest))) room₂ (b.spells rest);
  }

  pub going : {s : Step} {p : Branch} {R D : List Hyp} {u : List Letter} {v n : ℕ}
      → Rule (named ls) r d s g (premise p) → Writable s
      → Spelled R D p.goal u v → Within R (p.joins ++ hyps ls r) → Perm D (p.linears ++ hyps ls p.linear)
      → n ≡ news p + v → length ls + n ≤ max_labels → Lines ls (labelled_by r d g) (letter_of s ∷ u) n
  going {p = p} rule w ih sub m e room =
      one_more_holds rule w (omega (arith, length_begun ls p)) e
      (entering ls (ext_refl ls) p (lowers rule) (omega (arith, length_begun ls p)) ih sub m)

  -- the second premise, once the first one's lines are found
  second : {s : Step} {p₁ p₂ : Branch} {R D : List Hyp} {u₁ u₂ : List Letter} {v₁ v₂ n : ℕ}
      → Rule (named ls) r d s g (premises p₁ p₂) → Writable s
      → Spelled R D p₂.goal u₂ v₂ → Within R (p₂.joins ++ hyps ls r)
      → Perm D (p₂.linears ++ hyps ls p₂.linear)
      → n ≡ news p₁ + news p₂ + (v₁ + v₂) → length ls + n ≤ max_labels
      → Lines (begun ls p₁) (beginning ls r p₁) u₁ v₁ → Lines ls (labelled_by r d g) (letter_of s ∷ (u₁ ++ u₂)) n
  second {p₁ = p₁} {p₂ = p₂} {v₂ = v₂} rule w ih sub m e room c =
      let k : length (begun c.after p₂) + v₂ ≤ max_labels =
      omega (arith, c.labels, length_begun ls p₁, length_begun c.after p₂) in
      two_more rule w e (omega (arith, length_begun ls p₁)) c (omega arith)
      (entering c.after (ext_trans (ext_begun ls p₁) c.extends) p₂ (lowers rule).1 k ih sub m)

  pub parting : {s : Step} {p₁ p₂ : Branch} {R D E : List Hyp} {u₁ u₂ : List Letter} {v₁ v₂ n : ℕ}
      → Rule (named ls) r d s g (premises p₁ p₂) → Writable s
      → Spelled R D p₁.goal u₁ v₁ → Within R (p₁.joins ++ hyps ls r)
      → Perm D (p₁.linears ++ hyps ls p₁.linear)
      → Spelled R E p₂.goal u₂ v₂ → Within R (p₂.joins ++ hyps ls r)
      → Perm E (p₂.linears ++ hyps ls p₂.linear)
      → n ≡ news p₁ + news p₂ + (v₁ + v₂) → length ls + n ≤ max_labels
      → Lines ls (labelled_by r d g) (letter_of s ∷ (u₁ ++ u₂)) n
  parting {p₁ = p₁} rule w ih₁ sub₁ m₁ ih₂ sub₂ m₂ e room =
      second rule w ih₂ sub₂ m₂ e room
      (entering ls (ext_refl ls) p₁ (lowers rule).0 (omega (arith, length_begun ls p₁)) ih₁ sub₁ m₁)

-- Premises: their linear labels are among those of the step's sequent, and what they stand for when they have begun.
use mathlib.Core.Path.{◌≡◌, sym, subst, subst₂}
use mathlib.Core.List.{List, ◌++◌}
use Prim.Native.Nat.{ℕ, ◌+◌, ◌<◌, ◌≤◌}
use native.Mathlib.Omega.{arith}
use lib.ListN.{length}
use Rattle.logic.specs.Derives.{Hyp, Judgment}
use Rattle.logic.specs.Multiset.{Perm}
use Rattle.request.specs.Request.{Step}
use Rattle.labels.specs.Labels.{remove}
use Rattle.labels.proofs.Sets.{subset_le}
use Rattle.steps.specs.Rule.{Branch, Leaves, nothing, premise, premises, Rule}
use Rattle.steps.specs.Spells.{Labels, grown, adding, Labelled, begun, beginning, Room, Spells}
use Rattle.steps.specs.Labelling.{hyps, Fits}
use Rattle.steps.proofs.Labelling.{Known, Extends, ext_refl, ext_trans, known_up, kept, ext_grown}
use Rattle.steps.proofs.Labelling.{length_grown, known_adding, grows}

-- the labels that a premise takes
abbrev pub news : Branch → ℕ
news p = length p.linears + length p.joins

pub length_begun : (ls : Labels) (p : Branch) → length (begun ls p) ≡ length ls + news p
length_begun ls p = omega (arith, length_grown ls p.linears, length_grown (grown ls p.linears) p.joins)

pub ext_begun : (ls : Labels) (p : Branch) → Extends ls (begun ls p)
ext_begun ls p = ext_trans (ext_grown ls p.linears) (ext_grown (grown ls p.linears) p.joins)

-- lines that spell a derivation take labels, and lines are left
pub spells_extends : {ss rest : List Step} {ls ls' : Labels} {q : Labelled} → Spells ss ls q rest ls'
    → Extends ls ls' × (length rest < length ss)
spells_extends {ls = ls} (Spells.closes r) = (ext_refl ls, omega arith)
spells_extends {ls = ls} (Spells.goes {p = p} r room s) =
    let x = spells_extends s in
    (ext_trans (ext_begun ls p) x.0, omega (arith, x.1))
spells_extends {ls = ls} (Spells.parts {ls₁ = ls₁} {p₁ = p₁} {p₂ = p₂} r room₁ s₁ room₂ s₂) =
    let x = spells_extends s₁ in
    let y = spells_extends s₂ in
    (ext_trans (ext_trans (ext_begun ls p₁) x.0) (ext_trans (ext_begun ls₁ p₂) y.0), omega (arith, x.1, y.1))

-- the linear labels of what a step leaves are among d
abbrev pub Lower : ℕ → Leaves → Type 0
Lower d nothing = Unit {0}
Lower d (premise p) = p.linear ≤ d
Lower d (premises p₁ p₂) = (p₁.linear ≤ d) × (p₂.linear ≤ d)

pub lowers : {label : ℕ → Hyp} {R D : ℕ} {s : Step} {g : Judgment} {w : Leaves} → Rule label R D s g w → Lower D w
lowers (Rule.ax q e c) = tt
lowers (Rule.cp m) = omega arith
lowers {D = D} (Rule.tr {s = s} h) = (subset_le s D h, omega arith)
lowers (Rule.tl m e) = omega arith
lowers (Rule.or e) = tt
lowers (Rule.ol m e) = omega arith
lowers Rule.wr = (omega arith, omega arith)
lowers (Rule.w1 m e) = omega arith
lowers (Rule.w2 m e) = omega arith
lowers Rule.p1 = omega arith
lowers Rule.p2 = omega arith
lowers (Rule.pl m e) = (omega arith, omega arith)
lowers {D = D} (Rule.ll {l = l} {s = s} m e c h) = (omega (arith, subset_le s (remove D l) h), omega arith)
lowers (Rule.ul m e c) = (omega arith, omega arith)
lowers (Rule.br e) = omega arith
lowers (Rule.bl m e) = omega arith
lowers Rule.hr = omega arith
lowers (Rule.hl m e) = omega arith
lowers Rule.sr = omega arith
lowers Rule.af = omega arith
lowers (Rule.sl m e c) = omega arith
lowers (Rule.gr e c) = tt
lowers (Rule.al m e h) = omega arith

-- a premise of the sequent q, at labels ls₁ that extend those of q
module _ {ls ls₁ : Labels} {q : Labelled} (p : Branch) (x : Extends ls ls₁) (fits : Fits ls q)
    (low : p.linear ≤ q.linear) (room : Room ls₁ p) where
  known : Known ls p.linear
  known = omega (arith, fits.linear)

  pub fits_begun : Fits (begun ls₁ p) (beginning ls₁ q.unrestricted p)
  fits_begun = record {
    unrestricted = known_adding (grown ls₁ p.linears) p.joins q.unrestricted
        (known_up q.unrestricted (ext_trans x (ext_grown ls₁ p.linears)) fits.unrestricted);
    linear = known_up (adding ls₁ p.linears p.linear) (ext_grown (grown ls₁ p.linears) p.joins)
        (known_adding ls₁ p.linears p.linear (known_up p.linear x known));
    room = room;
  }

  pub linear_begun : Perm (p.linears ++ hyps ls p.linear)
      (hyps (begun ls₁ p) (beginning ls₁ q.unrestricted p).linear)
  linear_begun =
      let y = ext_grown (grown ls₁ p.linears) p.joins in
      let k = known_up p.linear x known in
      subst₂ (λ (l m : List Hyp). Perm (p.linears ++ l) m) (kept p.linear x known)
      (sym (kept (adding ls₁ p.linears p.linear) y (known_adding ls₁ p.linears p.linear k)))
      (grows ls₁ p.linears p.linear k (omega (arith, y.longer)))

  pub unrestricted_begun : Perm (p.joins ++ hyps ls q.unrestricted)
      (hyps (begun ls₁ p) (beginning ls₁ q.unrestricted p).unrestricted)
  unrestricted_begun =
      let r = q.unrestricted in
      let y = ext_trans x (ext_grown ls₁ p.linears) in
      subst (λ (l : List Hyp). Perm (p.joins ++ l) (hyps (begun ls₁ p) (beginning ls₁ r p).unrestricted))
      (kept r y fits.unrestricted)
      (grows (grown ls₁ p.linears) p.joins r (known_up r y fits.unrestricted) room)

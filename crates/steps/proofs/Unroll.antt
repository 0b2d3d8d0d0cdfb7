-- The formula of a number by its letter, and back; premises and plans by their formulas.
use mathlib.Core.Path.{◌≡◌, sym, ap, ◌∙◌}
use mathlib.Core.List.{map}
use mathlib.Core.Option.{Option, none, some}
use Prim.Native.Nat.{ℕ}
use Rattle.logic.specs.Formula.{Formula}
use Rattle.steps.specs.declared.Row.{Row}
use Rattle.steps.specs.declared.Premise.{Premise}
use Rattle.steps.specs.declared.Plan.{Plan}
use Rattle.steps.specs.declared.Plan.TheVariants.{Refused, Closed, One, Two}
use Rattle.steps.specs.Unroll.{letter, made, Unrolls, hyp_of, goal_of}
use Rattle.steps.specs.Check.{linears, joins}
use Rattle.steps.specs.Rule.{Branch, Leaves, nothing, premise, premises}

module _ {row : ℕ → Row} {f : ℕ → Formula} (u : Unrolls row f) where
  -- the formula of a number by its letter
  pub of_letter : (i c : ℕ) → (row i).letter ≡ c → f i ≡ made f c (row i)
  of_letter i c e = u.forms.formed i ∙ ap (λ (n : ℕ). made f n (row i)) e

  -- its letter by the formula, and again the formula
  pub letter_of_holds : (i : ℕ) {a : Formula} → f i ≡ a → ((row i).letter ≡ letter a) × (made f (letter a) (row i) ≡ a)
  letter_of_holds i {a} e =
      let o : (row i).letter ≡ letter a = sym (u.forms.letters i) ∙ ap letter e in
      (o, sym (of_letter i (letter a) o) ∙ e)

  abbrev pub branch_of : Premise → Branch
  branch_of p = record {
    linear = p.linear;
    goal = goal_of u p.goal;
    linears = map (hyp_of u) (linears p.fresh);
    joins = map (hyp_of u) (joins p.fresh);
  }

  -- what a plan leaves, if it is no refusal
  abbrev pub leaves : Plan → Option Leaves
  leaves Refused = none
  leaves Closed = some nothing
  leaves (One p) = some (premise (branch_of p))
  leaves (Two p₁ p₂) = some (premises (branch_of p₁) (branch_of p₂))

-- `ax` meets its contract: at an atom without a holder, and at one with a holder.
use mathlib.Core.Path.{◌≡◌, refl, ◌∙◌}
use mathlib.Core.Bool.{Bool, true, false, ◌&&◌, and-true, and_comm}
use borrow.Author.Tests.{eq-eqb, ne_eqb}
use Rattle.steps.specs.declared.Plan.{Plan}
use Rattle.steps.specs.Plans.{when}
use Rattle.step_rules.proofs.right.Right.ax.Goals as goal

-- the holders' test, asked last or with the other fields
holders_last : (j l a b w h : Bool) → ((j && ((l && (a && b)) && w)) && h) ≡ (j && ((l && (a && (b && h))) && w))
holders_last false l a b w h = refl
holders_last true false a b w h = refl
holders_last true true false b w h = refl
holders_last true true true false w h = refl
holders_last true true true true w h = and_comm w h

-- one test, or one after the other
when_and : (a b : Bool) (p : Plan) → when (a && b) p ≡ when a (when b p)
unfolding when
when_and true b p = refl
when_and false b p = refl

pub returns-then-x-eq-ATOM : goal.returns-then-x-eq-ATOM
unfolding when
returns-then-x-eq-ATOM c =
    rw (eq-eqb _ _ c.if-x-eq-ATOM.true)
    (c.when.ensures ∙ simp (c.contains.ensures, c.is_just.ensures, and-true))

pub returns : goal.returns
returns c =
    rw (ne_eqb _ _ c.if-x-eq-ATOM.false)
    (c.when-2.ensures
    ∙ rw (when_and, holders_last) (simp (
      c.contains.ensures,
      c.is_just.ensures,
      c.holder_of-ours.ensures,
      c.holder_of-theirs.ensures,
    )))

-- `neutral_for` meets its contract.
use Rattle.std.proofs.Common.{◌≡◌, sym, ap, ◌∙◌, ℕ, Bool, true, false, arith}
use Rattle.std.specs.Prelude.{Option as Maybe, Some, None}
use Rattle.std.specs.Option.{option_eq}
use Rattle.std.proofs.lemmas.Grind.{common_steps}
use lib.Dec.{eqb}
use borrow.Author.Tests.{eqb-true}
use Rattle.logic.proofs.Tests.{no_truth}
use Rattle.formula_weights.specs.RowWeights.{Sure}
use Rattle.formula_weights.proofs.Weighing.{tries_so, tries_not}
use Rattle.formula_weights.proofs.neutral_for.Goals as goal
use Rattle.formula_weights.proofs.neutral_for.Goals.{then-known, else-known}

-- the session is the last one
the_last : (f : ℕ → Bool) (x : Maybe ℕ) (s : ℕ) → option_eq eqb x (Some s) ≡ true → Sure f x → f s ≡ true
the_last f None s e h = absurd (no_truth e)
the_last f (Some t) s e h = ap f (sym (eqb-true t s e)) ∙ h

pub returns-then-neutral : goal.returns-then-neutral
returns-then-neutral c =
    tries_so _ _
    (elim c.if-known.branch [
      | then-known w ↦
          let e : option_eq eqb c.args.last (Some c.args.session) ≡ true = grind (arith, common_steps) in
          the_last _ c.args.last c.args.session e c.requires.1
      | else-known w ↦ sym w.neutral.ensures ∙ sym w.value-is ∙ c.if-neutral.true
    ])

pub returns-else-neutral : goal.returns-else-neutral
returns-else-neutral c =
    tries_not _ _
    (elim c.if-known.branch [
      | then-known w ↦ absurd (no_truth (sym c.if-neutral.false ∙ w.value-is ∙ w.if-known.true))
      | else-known w ↦ sym w.neutral.ensures ∙ sym w.value-is ∙ c.if-neutral.false
    ])

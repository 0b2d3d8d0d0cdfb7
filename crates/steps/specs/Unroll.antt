-- The formula that a number stands for, by the rows of a table; hypotheses, goals and sequents by their formulas.
use Rattle.std.specs.Prelude.{◌≡◌, true, ℕ, ◌<◌, eqb}
use Rattle.std.proofs.Math.Option.{none, some}
use Prim.Native.Char.{code}
use Rattle.logic.specs.Choice.{pick}
use Rattle.logic.specs.Formula.{Formula, atom, one, tensor, with, plus, lolli, implies, bang, at, says, superset}
use Rattle.logic.specs.Formula.{for_every, with_holder}
use Rattle.logic.specs.Derives.{Hyp, ◌⟦◌⟧, Judgment, holds, affirms}
use Rattle.steps.specs.declared.Row.{Row}
use Rattle.steps.specs.declared.Hypothesis.{Hypothesis}
use Rattle.steps.specs.declared.Goal.{Goal}
use Rattle.steps.specs.declared.Goal.TheVariants.{Holds, Affirms}
use Rattle.steps.specs.declared.Sequent.{Sequent}
use Rattle.steps.specs.Spells.{Labelled}
use Rattle.steps.specs.Instance.{radix, ◌for◌, part_first, part_second}

-- the letter of a formula's line
abbrev pub letter : Formula → ℕ
letter (atom p s none) = code "a"
letter (atom p s (some h)) = code "n"
letter one = code "o"
letter (tensor a b) = code "t"
letter (with a b) = code "w"
letter (plus a b) = code "p"
letter (lolli a b) = code "l"
letter (implies a b) = code "u"
letter (bang a) = code "b"
letter (at a i) = code "h"
letter (says k a) = code "s"
letter (superset i j) = code "g"
letter (for_every a) = code "q"

-- the formula of a row with the letter c, from those of its parts; 1 where it is no other
abbrev pub made : (ℕ → Formula) → ℕ → Row → Formula
made f c x =
    pick (eqb c (code "a")) (atom x.a x.b none)
    (pick (eqb c (code "t")) (tensor (f x.a) (f x.b))
    (pick (eqb c (code "w")) (with (f x.a) (f x.b))
    (pick (eqb c (code "p")) (plus (f x.a) (f x.b))
    (pick (eqb c (code "l")) (lolli (f x.a) (f x.b))
    (pick (eqb c (code "u")) (implies (f x.a) (f x.b))
    (pick (eqb c (code "b")) (bang (f x.a))
    (pick (eqb c (code "h")) (at (f x.a) x.first)
    (pick (eqb c (code "s")) (says x.a (f x.b))
    (pick (eqb c (code "g")) (superset x.first x.second)
    (pick (eqb c (code "n")) (atom x.a x.b (some x.holder))
    (pick (eqb c (code "q")) (for_every (f x.a))
    one)))))))))))

-- f forms the rows: every number's letter and parts are its row's
pub record Forms (row : ℕ → Row) (f : ℕ → Formula) : Type 0 where
  pub letters : (i : ℕ) → letter (f i) ≡ (row i).letter
  pub formed : (i : ℕ) → f i ≡ made f (row i).letter (row i)

-- f unrolls the rows: it forms them, and the part of a `q`, for a holder, is that part after the holder is put in
pub record Unrolls (row : ℕ → Row) (f : ℕ → Formula) : Type 0 where
  pub forms : Forms row f
  pub opened : (i h : ℕ) → (row i).letter ≡ code "q" → f ((row i).a for h) ≡ with_holder h (f (row i).a)

-- the parts of a row, where its letter c has them, are formulas' own numbers
pub record SmallRow (c : ℕ) (x : Row) : Type 0 where
  pub first : part_first c ≡ true → x.a < radix
  pub second : part_second c ≡ true → x.b < radix
  pub bound : c ≡ code "q" → x.a < radix

pub record Small (row : ℕ → Row) : Type 0 where
  pub at : (n : ℕ) → SmallRow (row n).letter (row n)

module _ {row : ℕ → Row} {f : ℕ → Formula} (u : Unrolls row f) where
  abbrev pub hyp_of : Hypothesis → Hyp
  hyp_of h = f h.formula ⟦ h.interval ⟧

  abbrev pub goal_of : Goal → Judgment
  goal_of (Holds n i) = holds (f n) i
  goal_of (Affirms n i k) = affirms k (f n) i

  abbrev pub labelled_of : Sequent → Labelled
  labelled_of q = record { unrestricted = q.unrestricted; linear = q.linear; goal = goal_of q.goal }

-- Formulas after a holder is put in (document 02, ask 7), by number. A label and a goal know their formula by its
-- number alone: the number `n for h` is formula n after the holder h is put in, and `n for 0` is n itself. Formulas'
-- own numbers are 0 to 999, so 1024 parts the two. No table grows, and no formula is written down.
use Rattle.std.specs.Prelude.{Bool, ◌&&◌, ◌||◌, ℕ, ◌+◌, ◌*◌, ◌/◌, ◌%◌, eqb}
use Prim.Native.Char.{code}
use Rattle.logic.specs.Choice.{pick}
use Rattle.logic.specs.Formula.{Formula, with_holder}
use Rattle.steps.specs.declared.Row.{Row}

abbrev pub radix : ℕ
radix = 1024

-- the formula's own number, and the holder; 0 where none was put in
abbrev pub formula_of : ℕ → ℕ
formula_of m = m % radix

abbrev pub holder_of : ℕ → ℕ
holder_of m = m / radix

-- the formula of a number, for the holder h
infix 90 ◌for◌
abbrev pub ◌for◌ : ℕ → ℕ → ℕ
n for h = formula_of n + h * radix

-- the formula that such a number stands for, where f tells those of the formulas' own
unfoldable pub instance : (ℕ → Formula) → ℕ → Formula
instance f m = with_holder (holder_of m) (f (formula_of m))

-- Its row: the parts have the holder too, but not that of a `q`, and an `n` with holder 0 gets it.

-- the letter of a row whose number a is a part, or b, outside `q`
abbrev pub part_first : ℕ → Bool
part_first c =
    eqb c (code "t") || (eqb c (code "w") || (eqb c (code "p") || (eqb c (code "l") || (eqb c (code "u")
    || (eqb c (code "b") || eqb c (code "h"))))))

abbrev pub part_second : ℕ → Bool
part_second c =
    eqb c (code "t") || (eqb c (code "w") || (eqb c (code "p") || (eqb c (code "l") || (eqb c (code "u")
    || eqb c (code "s")))))

-- the holder k of a row of the letter c, after the holder h is put in
abbrev pub holder_by : ℕ → ℕ → ℕ → ℕ
holder_by c h k = pick (eqb c (code "n") && eqb k 0) h k

-- a row of the letter c after the holder h is put in
abbrev pub row_by : ℕ → ℕ → Row → Row
row_by c h x = record {
  letter = x.letter;
  a = pick (part_first c) (x.a for h) x.a;
  b = pick (part_second c) (x.b for h) x.b;
  holder = holder_by c h x.holder;
  first = x.first;
  second = x.second;
}

-- the row x of a formula, after the holder of the number m is put in
infix 90 ◌after◌
abbrev pub ◌after◌ : Row → ℕ → Row
x after m = row_by x.letter (holder_of m) x

unfoldable pub instance_row : (ℕ → Row) → ℕ → Row
instance_row row m = row (formula_of m) after m

-- What one single gives: three counts of its formula in one number, and how a walk down the formula's tree finds them.
use Rattle.std.specs.Prelude.{Bool, false, ℕ, ◌+◌, ◌*◌, eqb}
use Prim.Native.Char.{code}
use Rattle.logic.specs.Choice.{pick}
use Rattle.logic.specs.Formula.{Formula, seat, place, house, seats, places, house_under}
use Rattle.logic.specs.Packed.{place_unit, house_unit}
use Rattle.steps.specs.declared.Row.{Row}
use Rattle.formula_parts.specs.Parts.{atomic}

-- Of session s in a formula, in one number as `counts` of logic/specs/Packed: seats, places, house seats; `under` says
-- whether the nearest ⟨K⟩ above the formula is the house's.
unfoldable pub gives_under : Bool → ℕ → Formula → ℕ
gives_under under s a = seats s a + place_unit * places s a + house_unit * house_under under s a

-- above the whole formula of a credential stands nothing
abbrev pub gives : ℕ → Formula → ℕ
gives s a = gives_under false s a

-- Of a row under the house's ⟨K⟩ or not: what it gives where it has no parts; and the same of what stands above its
-- parts.
abbrev pub atom_gives : Bool → ℕ → Row → ℕ
atom_gives under s r =
    pick (atomic r.letter)
    (pick (eqb r.b s)
    (pick (eqb r.a seat) (pick under (1 + house_unit) 1) (pick (eqb r.a place) place_unit 0))
    0)
    0

abbrev pub nearest : Bool → Row → Bool
nearest under r = pick (eqb r.letter (code "s")) (eqb r.a house) under

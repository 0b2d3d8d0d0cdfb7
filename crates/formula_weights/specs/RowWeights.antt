-- A formula's weight by its row, from the weights of its parts.
use Rattle.std.specs.Prelude.{◌≡◌, List, Bool, true, ◌&&◌, ℕ, ◌+◌, ◌≤◌, eqb}
use Rattle.std.specs.Prelude.{Option as Maybe, Some, None, Result, Ok, Err}
use Rattle.std.specs.Result.{is_ok}
use Prim.Native.Char.{code}
use Rattle.logic.specs.Choice.{pick}
use Rattle.logic.specs.Formula.{Formula}
use Rattle.logic.specs.Weight.{counted}
use Rattle.logic.specs.Counts.{up, down, even, level, all_of}
use Rattle.steps.specs.declared.Row.{Row}
use Rattle.ledger.specs.Checks.{max_size}
use Rattle.formula_parts.specs.Parts.{atomic}
use Rattle.formula_weights.specs.declared.Weight.{Weight}

abbrev pub weight_of : ℕ → Formula → Weight
weight_of s a = record { up = up s a; down = down s a; even = even s a }

-- formula a weighs 0 and is well weighed for session s
abbrev pub neutral_for : Formula → ℕ → Bool
neutral_for a s = level s a && even s a

-- a row of no part
unfoldable pub alone_weight : ℕ → Row → Weight
alone_weight s r = pick (atomic r.letter)
    (record { up = counted s r.a r.b; down = 0; even = true })
    (record { up = 0; down = 0; even = true })

-- "what stands under ! .. weighs 0"
unfoldable pub under_weight : ℕ → Weight → Weight
under_weight c x = pick (eqb c (code "b"))
    (record { up = x.up; down = x.down; even = x.even && eqb x.up x.down })
    x

-- "⊗ the sum; & and ⊕ the left arm's; ⊸ right minus left; ⊃ the right's", "arms of & and ⊕ weigh alike and what stands
-- .. left of ⊃ weighs 0"
unfoldable pub joined_weight : ℕ → Weight → Weight → Weight
joined_weight c x y =
    pick (eqb c (code "t"))
    (record { up = x.up + y.up; down = x.down + y.down; even = x.even && y.even })
    (pick (eqb c (code "l"))
    (record { up = y.up + x.down; down = y.down + x.up; even = x.even && y.even })
    (pick (eqb c (code "u"))
    (record { up = y.up; down = y.down; even = x.even && (y.even && eqb x.up x.down) })
    (record {
      up = x.up;
      down = x.down;
      even = x.even && (y.even && eqb (x.up + y.down) (y.up + x.down));
    })))

-- no more than a formula can weigh
pub record Light (x : Weight) : Type 0 where
  pub up : x.up ≤ max_size
  pub down : x.down ≤ max_size

-- the test holds of the session, where there is one
abbrev pub Sure : (ℕ → Bool) → Maybe ℕ → Type 0
Sure f None = Unit {0}
Sure f (Some s) = f s ≡ true

abbrev pub SureOf : (ℕ → Bool) → Result (Maybe ℕ) ℕ → Type 0
SureOf f (Ok last) = Sure f last
SureOf f (Err s) = Unit {0}

-- whether the test holds of all these sessions
pub record Tries (f : ℕ → Bool) (ss : List ℕ) (x : Result (Maybe ℕ) ℕ) : Type 0 where
  pub all : is_ok x ≡ all_of f ss
  pub sure : SureOf f x

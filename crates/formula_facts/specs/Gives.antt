-- What a formula has of the lowest session of its span, from its parts: what the functions answer.
use Rattle.std.specs.Prelude.{◌≡◌, List, ℕ, ◌+◌, ◌*◌, ◌%◌, ◌≤◌, eqb}
use Rattle.logic.specs.Choice.{pick}
use Rattle.logic.specs.Formula.{Formula, seat, place, house}
use Rattle.logic.specs.Multiset.{Every, sum}
use Rattle.logic.specs.Packed.{place_unit, house_unit, under_unit, counts, house_in, under_in}
use Rattle.logic.specs.Span.{Spans}
use Rattle.steps.specs.declared.Row.{Row}
use Rattle.ledger.specs.Table.{names}
use Rattle.ledger.specs.Ledger.{formula}
use Rattle.ledger.specs.Checks.{max_size}
use Rattle.store.specs.Store.{line_of, ledger_of}
use Rattle.formula_facts.specs.declared.Span.{Span}

-- The counts of an atom of predicate p, of its own session; of ⟨K⟩ where its part's are n, since K is the nearest above
-- it whatever stands above ⟨K⟩.
abbrev pub own_counts : ℕ → ℕ
own_counts p = pick (eqb p seat) (1 + under_unit) (pick (eqb p place) place_unit 0)

abbrev pub nearest : ℕ → ℕ → ℕ
nearest k n = pick (eqb k house) (under_in n) (house_in n)

abbrev pub said_counts : ℕ → ℕ → ℕ
said_counts k n = n % house_unit + (house_unit + under_unit) * nearest k n

-- the most that a formula can have: of each count no more than its size
abbrev pub most_gives : ℕ
most_gives = (1 + place_unit + house_unit + under_unit) * max_size

-- x is the span of a formula
pub record SpanOf (a : Formula) (x : Span) : Type 0 where
  pub between : Spans a x.low x.high
  pub given : x.gives ≡ counts x.low a

-- what a formula of span x has of a session that is no higher than its lowest
abbrev pub given_of : Span → ℕ → ℕ
given_of x s = pick (eqb x.low s) x.gives 0

-- z is the span of two formulas together, whose spans are x and y
pub record BothOf (x y z : Span) : Type 0 where
  pub lows : (z.low ≤ x.low) × (z.low ≤ y.low)
  pub highs : (x.high ≤ z.high) × (y.high ≤ z.high)
  pub given : z.gives ≡ given_of x z.low + given_of y z.low

-- x is the span of all parts that the row names, together
pub record PartsSpanOf (l : List ℕ) (r : Row) (x : Span) : Type 0 where
  pub between : Every (λ k. Spans (formula (ledger_of l) k) x.low x.high) (names (line_of r))
  pub given : x.gives ≡ sum (λ k. counts x.low (formula (ledger_of l) k)) (names (line_of r))

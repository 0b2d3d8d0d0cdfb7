-- Weights and balance, in document 01's words: a weight is a signed number.
use Rattle.std.specs.Prelude.{◌≡◌, ◌&&◌, ◌||◌, ℕ, eqb, ℤ, pos, ◌+ℤ◌, ◌-ℤ◌}
use Rattle.logic.specs.Formula.{Formula, atom, one, tensor, with, plus, lolli, implies, bang, at, says}
use Rattle.logic.specs.Formula.{superset, for_every, bit, seat, place}

-- "1 for a seat or place of s; 0 for other atoms"
abbrev pub counted : ℕ → ℕ → ℕ → ℕ
counted s p t = bit ((eqb p seat || eqb p place) && eqb t s)

-- "The weight for session s, a signed number: 1 for a seat or place of s; 0 for other atoms, `o`, `g`; ⊗ the sum;
-- & and ⊕ the left arm's; ⊸ right minus left; ⊃ the right's; !, @, ⟨K⟩ the part's." Document 02: "`n` is an atom and
-- weighs and is tallied like `a`; `q` as its part."
unfoldable pub weight : ℕ → Formula → ℤ
weight s (atom p t o) = pos (counted s p t)
weight s one = pos 0
weight s (tensor a b) = weight s a +ℤ weight s b
weight s (with a b) = weight s a
weight s (plus a b) = weight s a
weight s (lolli a b) = weight s b -ℤ weight s a
weight s (implies a b) = weight s b
weight s (bang a) = weight s a
weight s (at a i) = weight s a
weight s (says k a) = weight s a
weight s (superset i j) = pos 0
weight s (for_every a) = weight s a

-- Well weighed for session s: "in every part, itself included, arms of & and ⊕ weigh alike and what stands under !
-- or left of ⊃ weighs 0"
abbrev pub WellWeighed : ℕ → Formula → Type 0
WellWeighed s (atom p t o) = Unit {0}
WellWeighed s one = Unit {0}
WellWeighed s (tensor a b) = WellWeighed s a × WellWeighed s b
WellWeighed s (with a b) = WellWeighed s a × WellWeighed s b × (weight s a ≡ weight s b)
WellWeighed s (plus a b) = WellWeighed s a × WellWeighed s b × (weight s a ≡ weight s b)
WellWeighed s (lolli a b) = WellWeighed s a × WellWeighed s b
WellWeighed s (implies a b) = WellWeighed s a × WellWeighed s b × (weight s a ≡ pos 0)
WellWeighed s (bang a) = WellWeighed s a × (weight s a ≡ pos 0)
WellWeighed s (at a i) = WellWeighed s a
WellWeighed s (says k a) = WellWeighed s a
WellWeighed s (superset i j) = Unit {0}
WellWeighed s (for_every a) = WellWeighed s a

-- "Balanced: for every session the weight is 0, and in every part .."
pub record BalancedFor (s : ℕ) (a : Formula) : Type 0 where
  pub level : weight s a ≡ pos 0
  pub even : WellWeighed s a

abbrev pub Balanced : Formula → Type 0
Balanced a = (s : ℕ) → BalancedFor s a

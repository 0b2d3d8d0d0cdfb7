-- The form of weights that proofs and code use: a weight is what is added (up) less what is taken away (down), two
-- natural numbers; and the test for balanced, which tries only the sessions that stand in the formula.
use Rattle.std.specs.Prelude.{List, [], ◌∷◌, ◌++◌, Bool, true, ◌&&◌, ℕ, ◌+◌, eqb}
use Rattle.logic.specs.Formula.{Formula, atom, one, tensor, with, plus, lolli, implies, bang, at, says}
use Rattle.logic.specs.Formula.{superset, for_every}
use Rattle.logic.specs.Weight.{counted}

unfoldable mutual
  pub up : ℕ → Formula → ℕ
  up s (atom p t o) = counted s p t
  up s one = 0
  up s (tensor a b) = up s a + up s b
  up s (with a b) = up s a
  up s (plus a b) = up s a
  up s (lolli a b) = up s b + down s a
  up s (implies a b) = up s b
  up s (bang a) = up s a
  up s (at a i) = up s a
  up s (says k a) = up s a
  up s (superset i j) = 0
  up s (for_every a) = up s a

  pub down : ℕ → Formula → ℕ
  down s (atom p t o) = 0
  down s one = 0
  down s (tensor a b) = down s a + down s b
  down s (with a b) = down s a
  down s (plus a b) = down s a
  down s (lolli a b) = down s b + up s a
  down s (implies a b) = down s b
  down s (bang a) = down s a
  down s (at a i) = down s a
  down s (says k a) = down s a
  down s (superset i j) = 0
  down s (for_every a) = down s a

-- weighs 0, and weigh alike
abbrev pub level : ℕ → Formula → Bool
level s a = eqb (up s a) (down s a)

abbrev pub alike : ℕ → Formula → Formula → Bool
alike s a b = eqb (up s a + down s b) (up s b + down s a)

-- well weighed
unfoldable pub even : ℕ → Formula → Bool
even s (atom p t o) = true
even s one = true
even s (tensor a b) = even s a && even s b
even s (with a b) = even s a && (even s b && alike s a b)
even s (plus a b) = even s a && (even s b && alike s a b)
even s (lolli a b) = even s a && even s b
even s (implies a b) = even s a && (even s b && level s a)
even s (bang a) = even s a && level s a
even s (at a i) = even s a
even s (says k a) = even s a
even s (superset i j) = true
even s (for_every a) = even s a

-- the sessions that stand in a formula
unfoldable pub sessions_of : Formula → List ℕ
sessions_of (atom p t o) = t ∷ []
sessions_of one = []
sessions_of (tensor a b) = sessions_of a ++ sessions_of b
sessions_of (with a b) = sessions_of a ++ sessions_of b
sessions_of (plus a b) = sessions_of a ++ sessions_of b
sessions_of (lolli a b) = sessions_of a ++ sessions_of b
sessions_of (implies a b) = sessions_of a ++ sessions_of b
sessions_of (bang a) = sessions_of a
sessions_of (at a i) = sessions_of a
sessions_of (says k a) = sessions_of a
sessions_of (superset i j) = []
sessions_of (for_every a) = sessions_of a

unfoldable pub all_of : {A : Type 0} → (A → Bool) → List A → Bool
all_of f [] = true
all_of f (x ∷ xs) = f x && all_of f xs

-- balanced, tried at the sessions that stand in the formula; `BalancedTest` says that this decides it for every session
unfoldable pub balanced : Formula → Bool
balanced a = all_of (λ s. level s a && even s a) (sessions_of a)

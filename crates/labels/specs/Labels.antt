-- Sets of labels, as numbers: "bit k (worth 2 to the k) stands for label k".
use Rattle.std.specs.Prelude.{◌≡◌, Bool, true, List, [], ◌∷◌, ℕ, zero, suc, ◌-◌, ◌/◌, ◌%◌, ◌^◌, eqb}
use Rattle.std.specs.Int.Bits.{bit_and, bit_or}

-- label k is in d
abbrev pub member : ℕ → ℕ → Bool
member d k = eqb (d / 2 ^ k % 2) 1

-- s lies within d
abbrev pub subset : ℕ → ℕ → Bool
subset s d = eqb (bit_and s d) s

-- d holds nothing, or just label k
abbrev pub is_empty : ℕ → Bool
is_empty d = eqb d 0

abbrev pub is_just : ℕ → ℕ → Bool
is_just d k = eqb d (2 ^ k)

-- d with label k
abbrev pub insert : ℕ → ℕ → ℕ
insert d k = bit_or d (2 ^ k)

-- d less what it shares with s, and d less label k
abbrev pub without : ℕ → ℕ → ℕ
without d s = d - bit_and d s

abbrev pub remove : ℕ → ℕ → ℕ
remove d k = without d (2 ^ k)

-- the same as propositions
infix 40 ◌∋◌
abbrev pub ◌∋◌ : ℕ → ℕ → Type 0
d ∋ k = member d k ≡ true

infix 40 ◌⊑◌
abbrev pub ◌⊑◌ : ℕ → ℕ → Type 0
s ⊑ d = subset s d ≡ true

-- What a set stands for, as a list: f k for the labels k below n that the set has, in rising order.
module _ {A : Type 0} where
  -- what stands for the labels from 1 on
  abbrev pub later : (ℕ → A) → ℕ → A
  later f k = f (suc k)

  -- x in front, where the digit is not 0
  abbrev pub prepend : ℕ → A → List A → List A
  prepend zero x l = l
  prepend (suc b) x l = x ∷ l

  abbrev pub pick : (ℕ → A) → ℕ → ℕ → List A
  pick f zero d = []
  pick f (suc n) d = prepend (d % 2) (f 0) (pick (later f) n (d / 2))

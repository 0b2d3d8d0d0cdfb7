-- Bytes from a position on.
use mathlib.Core.Path.{◌≡◌, ◌∙◌}
use mathlib.Core.List.{List, [], ◌∷◌}
use Prim.Native.Nat.{ℕ, ◌+◌, ◌-◌, ◌≤◌, ◌<◌}
use native.Mathlib.Omega.{arith}
use lib.ListN.{length, get_or, take, drop, drop_of_length-le}
use Rattle.std.proofs.lemmas.List.{drop_more, take_rest}

module _ (s : List ℕ) (i : ℕ) where
  pub here : i < length s → drop i s ≡ get_or s i 0 ∷ drop (i + 1) s
  here h = drop_more s i 0 h

  pub past : length s ≤ i → drop i s ≡ []
  past h = drop_of_length-le s {i = i} h

-- The first bytes, and what a slice leaves of the bytes after the first n

abbrev pub beyond : List ℕ → ℕ → List ℕ
beyond s n = take (length s - n) (drop n s)

module _ (s : List ℕ) where
  pub here2 : 2 ≤ length s → s ≡ get_or s 0 0 ∷ get_or s 1 0 ∷ beyond s 2
  here2 h = here s 0 (omega arith) ∙ rw (drop_more s 1 0 (omega arith), take_rest s 2)

  pub here3 : 3 ≤ length s → s ≡ get_or s 0 0 ∷ get_or s 1 0 ∷ get_or s 2 0 ∷ beyond s 3
  here3 h =
      here s 0 (omega arith) ∙ rw (drop_more s 1 0 (omega arith), drop_more s 2 0 (omega arith), take_rest s 3)

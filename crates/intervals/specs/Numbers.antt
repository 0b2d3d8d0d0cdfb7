-- An interval (document 01: a window) as four numbers of a list, from a place on: from, to, first, last.
use Rattle.std.specs.Prelude.{List, [], ◌∷◌, ℕ, ◌+◌, get_or}
use Rattle.std.proofs.lemmas.List.Edits.{sets}
use Rattle.logic.specs.declared.Interval.{Interval}
use Rattle.logic.specs.Interval.{span}

abbrev pub interval_at : List ℕ → ℕ → Interval
interval_at l b = span (get_or l b 0) (get_or l (b + 1) 0) (get_or l (b + 2) 0) (get_or l (b + 3) 0)

abbrev pub interval_cells : Interval → List ℕ
interval_cells v = v.from ∷ v.to ∷ v.first ∷ v.last ∷ []

abbrev pub put_interval : List ℕ → ℕ → Interval → List ℕ
put_interval l b v = sets l b (interval_cells v)

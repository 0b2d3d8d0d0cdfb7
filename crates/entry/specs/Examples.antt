-- What C is told, in numbers: a refusal with its step, an answer of one number and one of three.
use Rattle.std.specs.Prelude.{◌≡◌, [], ◌∷◌}
use Rattle.ledger.specs.Calls.{Told, ok}
use Rattle.entry.specs.Entered.{numbers}

pub record NumbersExamples : Type 0 where
  pub refused : numbers (Told.no 40 5) ≡ 0 ∷ 40 ∷ 5 ∷ 0 ∷ []
  pub serial : numbers (ok (4 ∷ [])) ≡ 1 ∷ 4 ∷ 0 ∷ 0 ∷ []
  pub tallied : numbers (ok (1 ∷ 20 ∷ 7 ∷ [])) ≡ 3 ∷ 1 ∷ 20 ∷ 7 ∷ []

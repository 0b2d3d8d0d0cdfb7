-- A law for one clause of a contract: what a part of a need asks of the state at the return, whatever meets the rest.

abbrev pub clause : {A C : Type 0} {B : C → Type 0} → (A → (c : C) → B c) → Type 0
clause {C = C} {B = B} part = (c : C) → B c

-- "Ranges: predicate, .., principal 0 to 255; minute 0 to 9,999,999; wording 0 to 999; serial 1 to 999,999;
-- label 0 to 63; holds 0 to 32; steps 1 to 256. A sheet has at most 16,384 bytes." Sessions, holders: document 02.
use Rattle.std.specs.Prelude.{ℕ, ◌+◌}
use Rattle.logic.specs.Formula.{last_holder}

pub record Range : Type 0 where
  pub first : ℕ
  pub last : ℕ

infix 30 ◌‥◌
abbrev pub ◌‥◌ : ℕ → ℕ → Range
m ‥ n = record { first = m; last = n }

abbrev pub predicate : Range
predicate = 0 ‥ 255

-- document 02, ask 1: "Sessions go from 0 to 65,535 in atoms and in tally."
abbrev pub session : Range
session = 0 ‥ 65535

-- document 02, ask 7: "a holder number, 1 to 65,535"; in an atom also 0, which "stands for the holder bound"
abbrev pub holder : Range
holder = 0 ‥ last_holder

abbrev pub named_holder : Range
named_holder = 1 ‥ last_holder

abbrev pub principal : Range
principal = 0 ‥ 255

abbrev pub minute : Range
minute = 0 ‥ 9999999

-- the number of a formula (document 01: a wording)
abbrev pub formula_number : Range
formula_number = 0 ‥ 999

abbrev pub serial : Range
serial = 1 ‥ 999999

-- document 02, ask 5: "next is the next serial, 1 to 1,000,000"
abbrev pub next_serial : Range
next_serial = 1 ‥ 1000000

abbrev pub label : Range
label = 0 ‥ 63

-- how many labels there are
abbrev pub label_count : ℕ
label_count = label.last + 1

abbrev pub holds : Range
holds = 0 ‥ 32

abbrev pub steps : Range
steps = 1 ‥ 256

abbrev pub max_bytes : ℕ
max_bytes = 16384

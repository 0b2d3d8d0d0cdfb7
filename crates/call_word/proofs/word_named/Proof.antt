-- `word_named` meets its contract.
use mathlib.Core.List.{List}
use borrow.Author.Rules.{rules}
use Rattle.ledger.specs.Checks.{Check}
use Rattle.ledger.specs.Statements.{◌▸◌}
use Rattle.call_checks.proofs.Verdicts.{by_verdict, shown, reworded}
use Rattle.call_contracts.proofs.Laws.{refused}
use Rattle.call_word.specs.Wording.{Past, Fitting}
use Rattle.call_word.proofs.WordOutcomes.{named_formable, sized, known, counted}
use Rattle.call_word.proofs.word_named.Statement.{statement}
use Rattle.call_word.proofs.word_named.Tie as tie

returns : tie.Need-returns-in_default
returns c =
    refused c.requires.good c.requires.so_far
    (shown (reworded (c.tested-apart.ensures 53) c.row_nested.ensures)
    c.in_default.is)

-- 53 has passed
abbrev past_53 : (c : tie.In-Passed) → (rest : List Check) × Past c.args.store.now c.args.row rest
past_53 c = (
  _,
  c.requires.so_far
      ▸ shown (reworded (c.tested-apart.ensures 53) c.row_nested.ensures)
      c.in-Passed.is,
)

returns_2 : tie.Need-returns-in_default-small
returns_2 c =
    refused c.requires.good (past_53 c.before.before.before).1
    (shown (sized _ _ c.row_size-size.ensures (c.tested-small.ensures 12))
    c.in_default-small.is)

-- and 12
abbrev past_12 : (c : tie.In-Passed-small) → (rest : List Check) × Past c.args.store.now c.args.row rest
past_12 c = (
  _,
  (past_53 c.before.before.before).1
      ▸ shown (sized _ _ c.row_size-size.ensures (c.tested-small.ensures 12))
      c.in-Passed-small.is,
)

returns_3 : tie.Need-returns-in_default-new
returns_3 c =
    refused c.requires.good (past_12 c.before.before.before).1
    (shown (known _ _ c.requires.canonical c.has_row.ensures
    (c.tested-new.ensures 13)) c.in_default-new.is)

-- and 13
abbrev past_13 : (c : tie.In-Passed-new) → (rest : List Check) × Past c.args.store.now c.args.row rest
past_13 c = (
  _,
  (past_12 c.before.before.before).1
      ▸ shown (known _ _ c.requires.canonical c.has_row.ensures
      (c.tested-new.ensures 13)) c.in-Passed-new.is,
)

returns_4 : tie.Need-returns-in_default-free
returns_4 c =
    refused c.requires.good (past_13 c.before.before.before).1
    (shown (counted _ c.formula_count-number.ensures (c.tested-free.ensures 14))
    c.in_default-free.is)

-- and 14: all have passed, for the size that was asked
fits : (c : tie.In-Passed-free)
    → Fitting c.args.store.now c.args.row c.row_size-size.result
fits c =
    let room = counted _ c.formula_count-number.ensures (c.tested-free.ensures 14) in
    record {
      named = c.requires;
      sized = c.row_size-size.ensures;
      small = by_verdict (c.tested-small.ensures 12) c.in-Passed-small.is;
      room = by_verdict room c.in-Passed-free.is;
      so_far = (past_13 c.before.before.before).1 ▸ shown room c.in-Passed-free.is;
    }

returns_5 : tie.Need-returns
returns_5 c = c.add.ensures

pub word_named_spec : {M : Type 1} → statement M
word_named_spec =
    tie.close
    (tie.spec
    (λ c κs. named_formable c.requires)
    (λ c κs. search rules)
    (λ c. search rules)
    (λ c. search rules)
    returns
    (λ c κs. named_formable c.requires)
    (λ c κs. search rules)
    (λ c. search rules)
    (λ c. search rules)
    returns_2
    (λ c κs. search rules)
    (λ c κs. search rules)
    (λ c. search rules)
    (λ c. search rules)
    returns_3
    (λ c κs. search rules)
    (λ c κs. search rules)
    (λ c. search rules)
    (λ c. search rules)
    returns_4
    (λ c κs. fits c.before)
    returns_5)

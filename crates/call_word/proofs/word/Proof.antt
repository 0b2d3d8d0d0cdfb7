-- `word` meets its contract.
use mathlib.Core.List.{List}
use borrow.Author.Rules.{rules}
use Rattle.ledger.specs.Checks.{Check}
use Rattle.ledger.specs.Statements.{◌▸◌}
use Rattle.call_checks.proofs.Verdicts.{by_verdict, shown}
use Rattle.call_contracts.proofs.Laws.{refused}
use Rattle.call_word.specs.Wording.{Past}
use Rattle.call_word.proofs.WordOutcomes.{past_3, past_43, word_reversed, word_broken}
use Rattle.call_word.proofs.word.Statement.{statement}
use Rattle.call_word.proofs.word.Tie as tie

returns : tie.Need-returns-in_default
returns c =
    word_reversed _ _ c.requires.0 c.check_line_ordered-ordered.ensures
    c.in_default.is

returns_2 : tie.Need-returns-in_default-unbroken
returns_2 c =
    word_broken _ _ c.requires.0
    (past_3 _ _ c.check_line_ordered-ordered.ensures c.in-Passed.is)
    c.check_line_unbroken-unbroken.ensures c.in_default-unbroken.is

-- 3 and 43 have passed
abbrev past_intervals : (c : tie.In-Passed-unbroken) →
    let a = c.args in
    (rest : List Check) × Past a.store.now a.row rest
past_intervals c = (
  _,
  past_43 _ _ (past_3 _ _ c.check_line_ordered-ordered.ensures c.in-Passed.is)
      c.check_line_unbroken-unbroken.ensures c.in-Passed-unbroken.is,
)

returns_3 : tie.Need-returns-in_default-present
returns_3 c =
    refused c.requires.0 (past_intervals c.before.before).1
    (shown c.check_names_present-present.ensures c.in_default-present.is)

word-named-requires : tie.Need-word_named-requires
word-named-requires c κs =
    record {
      good = c.requires.0;
      canonical = c.requires.1;
      there = by_verdict c.check_names_present-present.ensures c.in-Passed-present.is;
      so_far = (past_intervals c.before.before.before).1
          ▸ shown c.check_names_present-present.ensures c.in-Passed-present.is;
    }

pub word_spec : {M : Type 1} → statement M
word_spec =
    tie.close
    (tie.spec
    (λ c κs. search rules)
    (λ c. search rules)
    (λ c. search rules)
    returns
    (λ c κs. search rules)
    (λ c. search rules)
    (λ c. search rules)
    returns_2
    (λ c κs. search rules)
    (λ c. search rules)
    (λ c. search rules)
    returns_3
    word-named-requires
    (λ c. c.word_named.ensures))

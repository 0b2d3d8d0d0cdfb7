-- `book_read` meets its contract.
use mathlib.Core.List.{List}
use borrow.Author.Tests.{leb-false}
use borrow.Author.Rules.{rules}
use Rattle.ledger.specs.Checks.{Check}
use Rattle.ledger.specs.Statements.{◌▸◌}
use Rattle.call_checks.proofs.Verdicts.{by_verdict, shown}
use Rattle.call_contracts.proofs.Laws.{refused}
use Rattle.call_book_laws.specs.BookingFound.{Past}
use Rattle.call_book.proofs.book_read.Statement.{statement}
use Rattle.call_book.proofs.book_read.Tie as tie

present-requires : tie.Need-check_present-present-requires
present-requires c κs = c.requires.good

returns : tie.Need-returns-in_default
returns c =
    refused c.requires.good c.requires.so_far
    (shown c.check_present-present.ensures c.in_default.is)

-- 10 has passed
abbrev past_10 : (c : tie.In-Passed) → (rest : List Check) × Past c.args.store.now c.args.head c.args.serials.now
    c.args.rows.now rest
past_10 c = (_, c.requires.so_far ▸ shown c.check_present-present.ensures c.in-Passed.is)

check-bound-requires : tie.Need-check_bound-bound-requires
check-bound-requires c κs =
    let found = by_verdict c.check_present-present.ensures c.in-Passed.is in
    (c.requires.good, leb-false _ _ found)

returns_2 : tie.Need-returns-in_default-bound
returns_2 c =
    refused c.requires.good (past_10 c.before.before).1
    (shown c.check_bound-bound.ensures c.in_default-bound.is)

-- and 53
abbrev past_53 : (c : tie.In-Passed-bound) → (rest : List Check) × Past c.args.store.now c.args.head c.args.serials.now
    c.args.rows.now rest
past_53 c = (_, (past_10 c.before.before).1 ▸ shown c.check_bound-bound.ensures c.in-Passed-bound.is)

check-plain-requires : tie.Need-check_plain-plain-requires
check-plain-requires c κs =
    let found = by_verdict c.check_present-present.ensures c.in-Passed.is in
    (c.requires.good, leb-false _ _ found)

returns_3 : tie.Need-returns-in_default-plain
returns_3 c =
    refused c.requires.good (past_53 c.before.before).1
    (shown c.check_plain-plain.ensures c.in_default-plain.is)

-- and 20
abbrev past_20 : (c : tie.In-Passed-plain) → (rest : List Check) × Past c.args.store.now c.args.head c.args.serials.now
    c.args.rows.now rest
past_20 c = (
  _,
  (past_53 c.before.before).1
      ▸ shown c.check_plain-plain.ensures c.in-Passed-plain.is,
)

returns_4 : tie.Need-returns-in_default-in_time
returns_4 c =
    refused c.requires.good (past_20 c.before.before.before).1
    (shown c.check_in_time-in_time.ensures c.in_default-in_time.is)

book-holds-requires : tie.Need-book_holds-requires
book-holds-requires c κs =
    record {
      lines = c.requires;
      there = by_verdict c.check_present-present.ensures c.in-Passed.is;
      so_far = (past_20 c.before.before.before.before).1 ▸ shown c.check_in_time-in_time.ensures c.in-Passed-in_time.is;
    }

pub book_read_spec : {M : Type 1} → statement M
book_read_spec =
    tie.close
    (tie.spec
    present-requires
    (λ c. search rules)
    (λ c. search rules)
    returns
    check-bound-requires
    (λ c. search rules)
    (λ c. search rules)
    returns_2
    check-plain-requires
    (λ c. search rules)
    (λ c. search rules)
    returns_3
    (λ c κs. search rules)
    (λ c. search rules)
    (λ c. search rules)
    returns_4
    book-holds-requires
    (λ c. c.book_holds.ensures))

-- `issue` meets its contract.
use mathlib.Core.List.{List}
use borrow.Author.Tests.{leb-false}
use borrow.Author.Rules.{rules}
use Rattle.ledger.specs.Checks.{Check}
use Rattle.ledger.specs.Statements.{◌▸◌}
use Rattle.call_checks.proofs.Verdicts.{by_verdict, shown}
use Rattle.call_contracts.proofs.Laws.{refused}
use Rattle.call_credentials.specs.Issue.{Past, Issuable}
use Rattle.call_credentials.proofs.CallOutcomes.{issue_reversed, issue_broken, past_3, past_43, issue_unissuable}
use Rattle.call_credentials.proofs.CallOutcomes.{Given, issue_gives, issue_done}
use Rattle.call_credentials.proofs.issue.Statement.{statement}
use Rattle.call_credentials.proofs.issue.Tie as tie

returns : tie.Need-returns-in_default
returns c =
    issue_reversed c.requires c.check_ordered-ordered.ensures
    c.in_default.is

returns_2 : tie.Need-returns-in_default-unbroken
returns_2 c =
    issue_broken c.requires
    (past_3 _ _ _ _ c.check_ordered-ordered.ensures c.in-Passed.is)
    c.check_unbroken-unbroken.ensures c.in_default-unbroken.is

-- 3 and 43 have passed
abbrev past_intervals : (c : tie.In-Passed-unbroken) →
    let a = c.args in
    (rest : List Check) × Past a.store.now a.kind a.formula a.interval rest
past_intervals c = (
  _,
  past_43 _ _ _ _
      (past_3 _ _ _ _ c.check_ordered-ordered.ensures c.in-Passed.is)
      c.check_unbroken-unbroken.ensures c.in-Passed-unbroken.is,
)

returns_3 : tie.Need-returns-in_default-present
returns_3 c =
    refused c.requires (past_intervals c.before.before).1
    (shown c.check_present-present.ensures c.in_default-present.is)

check-bound-requires : tie.Need-check_bound-bound-requires
check-bound-requires c κs =
    let found = by_verdict c.check_present-present.ensures c.in-Passed-present.is in
    (c.requires, leb-false _ _ found)

-- and 10
abbrev past_10 : (c : tie.In-Passed-present) →
    let a = c.args in
    (rest : List Check) × Past a.store.now a.kind a.formula a.interval rest
past_10 c = (
  _,
  (past_intervals c.before.before).1
      ▸ shown c.check_present-present.ensures c.in-Passed-present.is,
)

returns_4 : tie.Need-returns-in_default-bound
returns_4 c =
    refused c.requires (past_10 c.before.before).1
    (shown c.check_bound-bound.ensures c.in_default-bound.is)

check-issuable-requires : tie.Need-check_issuable-issuable-requires
check-issuable-requires c κs =
    let found = by_verdict c.check_present-present.ensures c.in-Passed-present.is in
    (c.requires, leb-false _ _ found)

-- and 53
abbrev past_53 : (c : tie.In-Passed-bound) →
    let a = c.args in
    (rest : List Check) × Past a.store.now a.kind a.formula a.interval rest
past_53 c = (
  _,
  (past_10 c.before.before).1 ▸ shown c.check_bound-bound.ensures c.in-Passed-bound.is,
)

returns_5 : tie.Need-returns-in_default-issuable
returns_5 c =
    issue_unissuable c.unissuable_number.ensures (refused c.requires (past_53 c.before.before.before).1
    (shown c.check_issuable-issuable.ensures c.in_default-issuable.is))

-- and 20 or 21
issuable : (c : tie.In-Passed-issuable) →
    let a = c.args in
    Issuable a.store.now a.kind a.formula a.interval
issuable c =
    record {
      good = c.requires;
      there = by_verdict c.check_present-present.ensures c.in-Passed-present.is;
      so_far = (past_53 c.before.before).1 ▸ shown c.check_issuable-issuable.ensures c.in-Passed-issuable.is;
    }

returns_6 : tie.Need-returns-in_default-room
returns_6 c =
    let p = issuable c.before.before in
    refused p.good p.so_far (shown c.check_room-room.ensures c.in_default-room.is)

returns_7 : tie.Need-returns-in_default-unused
returns_7 c =
    let p = issuable c.before.before.before.before in
    refused p.good (p.so_far ▸ shown c.check_room-room.ensures c.in-Passed-room.is)
    (shown c.check_unused-unused.ensures c.in_default-unused.is)

-- and 22 and 23
given : (c : tie.In-Passed-unused) →
    let a = c.args in
    Given a.store.now a.kind a.formula a.interval
given c =
    record {
      before = issuable c.before.before.before.before;
      room = by_verdict c.check_room-room.ensures c.in-Passed-room.is;
      unused = by_verdict c.check_unused-unused.ensures c.in-Passed-unused.is;
    }

returns_8 : tie.Need-returns
returns_8 c =
    issue_done (given c.before.before.before) c.next_serial-serial.ensures c.give.ensures

pub issue_spec : {M : Type 1} → statement M
issue_spec =
    tie.close
    (tie.spec
    (λ c κs. search rules)
    (λ c. search rules)
    (λ c. search rules)
    returns
    (λ c κs. search rules)
    (λ c. search rules)
    (λ c. search rules)
    returns_2
    (λ c κs. search rules)
    (λ c. search rules)
    (λ c. search rules)
    returns_3
    check-bound-requires
    (λ c. search rules)
    (λ c. search rules)
    returns_4
    check-issuable-requires
    (λ c. search rules)
    (λ c. search rules)
    (λ c κs. search rules)
    returns_5
    (λ c κs. (issuable c).good)
    (λ c. search rules)
    (λ c. search rules)
    returns_6
    (λ c κs. (issuable c.before.before).good)
    (λ c. search rules)
    (λ c. search rules)
    returns_7
    (λ c κs. search rules)
    (λ c κs. issue_gives (given c.before.before))
    returns_8)

-- `book_holds` meets its contract.
use mathlib.Core.Path.{refl, sym}
use Rattle.ledger.specs.Statements.{◌▸◌}
use Rattle.call_checks.proofs.Verdicts.{by_verdict, reworded, shown}
use Rattle.call_contracts.proofs.Laws.{refused}
use Rattle.call_book.proofs.book_holds.Goals as goal

pub returns-in_default : goal.returns-in_default
returns-in_default c = refused c.requires.lines.good c.requires.so_far (sym c.in_default.ensures.check)

pub returns-in_default-once : goal.returns-in_default-once
returns-in_default-once c =
    refused c.requires.lines.good (c.requires.so_far ▸ sym c.in-Some.ensures.check)
    (shown (reworded (c.tested-once.ensures 31) c.twice.ensures) c.in_default-once.is)

pub book_steps-requires : goal.book_steps-requires
book_steps-requires c =
    let once = reworded (c.tested-once.ensures 31) c.twice.ensures in
    record {
      before = c.requires;
      holds = c.in-Some.ensures.held _ refl;
      apart = by_verdict once c.in-Passed.is;
      so_far = (c.requires.so_far ▸ sym c.in-Some.ensures.check) ▸ shown once c.in-Passed.is;
    }

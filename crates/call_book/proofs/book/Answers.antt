-- `book` meets its contract.
use Rattle.call_book_laws.proofs.AfterHead.{holds_read, holds_broken, steps_read, steps_broken}
use Rattle.call_book_laws.proofs.AfterHead.{lines_reversed, lines_broken, lines_read, lines_handled}
use Rattle.call_book.proofs.book.Goals as goal

pub returns-in_default : goal.returns-in_default
returns-in_default c = λ b e. holds_broken c.requires e c.in_default.ensures.read

pub returns-in_default-read : goal.returns-in_default-read
returns-in_default-read c = λ b e.
    steps_broken (holds_read c.requires c.in-Some.ensures.read) e c.in_default-read.ensures.read

pub returns-in_default-ordered : goal.returns-in_default-ordered
returns-in_default-ordered c = λ b e.
    lines_reversed (steps_read (holds_read c.requires c.in-Some.ensures.read) c.in-Some-read.ensures.read) e
    c.check_lines_ordered-ordered.ensures c.in_default-ordered.is

pub returns-in_default-unbroken : goal.returns-in_default-unbroken
returns-in_default-unbroken c = λ b e.
    lines_broken (steps_read (holds_read c.requires c.in-Some.ensures.read) c.in-Some-read.ensures.read)
    c.check_lines_ordered-ordered.ensures c.in-Passed.is e
    c.check_lines_unbroken-unbroken.ensures c.in_default-unbroken.is

pub book_read-requires : goal.book_read-requires
book_read-requires c =
    lines_read (steps_read (holds_read c.requires c.in-Some.ensures.read) c.in-Some-read.ensures.read)
    c.check_lines_ordered-ordered.ensures c.in-Passed.is
    c.check_lines_unbroken-unbroken.ensures c.in-Passed-unbroken.is

pub returns : goal.returns
returns c = λ b e.
    lines_handled (steps_read (holds_read c.requires c.in-Some.ensures.read) c.in-Some-read.ensures.read) e
    c.book_read.ensures

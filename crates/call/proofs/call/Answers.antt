-- `call` meets its contract.
use borrow.Author.Tests.{ltb-false}
use Rattle.call_checks.proofs.Verdicts.{by_verdict}
use Rattle.call_contracts.proofs.Laws.{called_long, called_broken, called_read}
use Rattle.call.proofs.SheetOutcomes.{line_as, no_request, word_canonical, word_reads}
use Rattle.call.proofs.call.Goals as goal

pub returns-in_default : goal.returns-in_default
returns-in_default c = called_long c.requires (by_verdict (c.tested-short.ensures 1) c.in_default.is)

-- 1 has passed
pub returns-in_default-read : goal.returns-in_default-read
returns-in_default-read c =
    called_broken c.requires (ltb-false _ _ (by_verdict (c.tested-short.ensures 1) c.in-Passed.is))
    (no_request c.in_default-read.ensures.read)

pub word-requires : goal.word-requires
word-requires c = (
  c.requires,
  word_canonical (line_as c.args.sheet.now c.read_first-read.new.r.rest.now c.in-Some.ensures.read c.in-Word.is),
)

pub book-requires : goal.book-requires
book-requires c = record {
  good = c.requires;
  range = (line_as c.args.sheet.now c.read_first-read.new.r.rest.now c.in-Some.ensures.read c.in-Book.is).range;
}

pub returns-in-Book : goal.returns-in-Book
returns-in-Book c =
    c.book.ensures c.args.sheet.now record {
      short = ltb-false _ _ (by_verdict (c.tested-short.ensures 1) c.in-Passed.is);
      reads = (line_as c.args.sheet.now c.read_first-read.new.r.rest.now c.in-Some.ensures.read c.in-Book.is).reads;
    }

pub returns-in-Word : goal.returns-in-Word
returns-in-Word c =
    called_read (ltb-false _ _ (by_verdict (c.tested-short.ensures 1) c.in-Passed.is))
    (word_reads (line_as c.args.sheet.now c.read_first-read.new.r.rest.now c.in-Some.ensures.read c.in-Word.is))
    c.word.ensures

pub returns-in-Issue : goal.returns-in-Issue
returns-in-Issue c =
    called_read (ltb-false _ _ (by_verdict (c.tested-short.ensures 1) c.in-Passed.is))
    (line_as c.args.sheet.now c.read_first-read.new.r.rest.now c.in-Some.ensures.read c.in-Issue.is) c.issue.ensures

pub returns-in-Withdraw : goal.returns-in-Withdraw
returns-in-Withdraw c =
    called_read (ltb-false _ _ (by_verdict (c.tested-short.ensures 1) c.in-Passed.is))
    (line_as c.args.sheet.now c.read_first-read.new.r.rest.now c.in-Some.ensures.read c.in-Withdraw.is)
    c.withdraw.ensures

pub returns-in-Tally : goal.returns-in-Tally
returns-in-Tally c =
    called_read (ltb-false _ _ (by_verdict (c.tested-short.ensures 1) c.in-Passed.is))
    (line_as c.args.sheet.now c.read_first-read.new.r.rest.now c.in-Some.ensures.read c.in-Tally.is) c.tally.ensures

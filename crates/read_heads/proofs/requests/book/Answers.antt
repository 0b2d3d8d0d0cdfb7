use Rattle.std.proofs.Common.{sym, ◌∙◌}
use Rattle.read_heads.specs.First.{booking_from, request_from}
use Rattle.read_fields.proofs.Then.{then_some, then_no}
use Rattle.read_heads.proofs.Heads.{no_line, book_line_holds, field_range, interval_range}
use Rattle.read_heads.proofs.requests.book.Goals as goal

pub returns-in_err-now : goal.returns-in_err-now
returns-in_err-now c =
    rw c.from_residual.ensures
    (no_line (book_line_holds _
    ∙ then_no _ (sym c.in_err-now.ensures.read)))

pub returns-in_err-formula : goal.returns-in_err-formula
returns-in_err-formula c =
    rw c.from_residual-in_err-formula.ensures
    (no_line (book_line_holds _
    ∙ then_some _ (sym c.in_ok-now.ensures.read)
    ∙ then_no _ (sym c.in_err-formula.ensures.read)))

pub returns-in_err-interval : goal.returns-in_err-interval
returns-in_err-interval c =
    rw c.from_residual-in_err-interval.ensures
    (no_line (book_line_holds _
    ∙ then_some _ (sym c.in_ok-now.ensures.read)
    ∙ then_some _ (sym c.in_ok-formula.ensures.read)
    ∙ then_no _ (sym c.in_err-interval.ensures.read)))

pub returns-in_err-holds : goal.returns-in_err-holds
returns-in_err-holds c =
    rw c.from_residual-in_err-holds.ensures
    (no_line (book_line_holds _
    ∙ then_some _ (sym c.in_ok-now.ensures.read)
    ∙ then_some _ (sym c.in_ok-formula.ensures.read)
    ∙ then_some _ (sym c.in_ok-interval.ensures.read)
    ∙ then_no _ (sym c.in_err-holds.ensures.read)))

pub returns-in_err-steps : goal.returns-in_err-steps
returns-in_err-steps c =
    rw c.from_residual-in_err-steps.ensures
    (no_line (book_line_holds _
    ∙ then_some _ (sym c.in_ok-now.ensures.read)
    ∙ then_some _ (sym c.in_ok-formula.ensures.read)
    ∙ then_some _ (sym c.in_ok-interval.ensures.read)
    ∙ then_some _ (sym c.in_ok-holds.ensures.read)
    ∙ then_no _ (sym c.in_err-steps.ensures.read)))

pub returns : goal.returns
unfolding request_from booking_from
returns c =
    record {
      reads = then_some _ (book_line_holds _
          ∙ then_some _ (sym c.in_ok-now.ensures.read)
          ∙ then_some _ (sym c.in_ok-formula.ensures.read)
          ∙ then_some _ (sym c.in_ok-interval.ensures.read)
          ∙ then_some _ (sym c.in_ok-holds.ensures.read)
          ∙ then_some _ (sym c.in_ok-steps.ensures.read));
      range = record {
        now = field_range _ _ _ (sym c.in_ok-now.ensures.read);
        formula = field_range _ _ _ (sym c.in_ok-formula.ensures.read);
        interval = interval_range _ _ (sym c.in_ok-interval.ensures.read);
        holds = field_range _ _ _ (sym c.in_ok-holds.ensures.read);
        steps = field_range _ _ _ (sym c.in_ok-steps.ensures.read);
      };
    }

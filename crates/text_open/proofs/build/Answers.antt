-- The first line, the empty ledger, the lines, the credentials, the next serial.
use Rattle.std.proofs.Common.{sym, ◌∙◌}
use Rattle.text_open.proofs.Building.{not_passing, lines_asked, lines_bad, live_asked, live_bad, left_over}
use Rattle.text_open.proofs.Building.{built, other_edition, built_by}
use Rattle.text_open.proofs.build.Goals as goal

pub returns-in_err-title : goal.returns-in_err-title
returns-in_err-title c = rw c.from_residual.ensures (sym (not_passing _ c.in_err-title.ensures.read))

pub take_lines-requires : goal.take_lines-requires
take_lines-requires c = lines_asked c.in_ok-title.ensures.read c.start.ensures

pub returns-in_err-take_lines : goal.returns-in_err-take_lines
returns-in_err-take_lines c =
    rw c.from_residual-in_err-take_lines.ensures
    (sym (lines_bad c.in_ok-title.ensures.read c.start.ensures (sym c.in_err-take_lines.ensures.result_after)))

pub take_credentials-requires : goal.take_credentials-requires
take_credentials-requires c =
    let y = c.in_ok-take_lines.ensures in
    live_asked c.in_ok-title.ensures.read c.take_lines.new.r.rest.now c.start.ensures y.good (sym y.result_after)

pub returns-in_err-take_credentials : goal.returns-in_err-take_credentials
returns-in_err-take_credentials c =
    let y = c.in_ok-take_lines.ensures in
    rw c.from_residual-in_err-take_credentials.ensures
    (sym (live_bad c.in_ok-title.ensures.read c.take_lines.new.r.rest.now c.start.ensures y.good (sym y.result_after)
    (sym c.in_err-take_credentials.ensures.result_after)))

pub returns-then-bytes_left : goal.returns-then-bytes_left
returns-then-bytes_left c =
    let y = c.in_ok-take_lines.ensures in
    sym (left_over c.in_ok-title.ensures.read c.take_lines.new.r.rest.now c.start.ensures y.good (sym y.result_after)
    c.take_credentials.new.r.rest.now (sym c.in_ok-take_credentials.ensures.result_after)
    (sym c.is_empty-bytes_left.ensures ∙ c.if-bytes_left.true))

pub set_next-requires : goal.set_next-requires
set_next-requires c = c.in_ok-take_credentials.ensures.raisable

pub returns : goal.returns
returns c =
    let y = c.in_ok-take_lines.ensures in
    rw c.then_some.ensures
    (built_by _ _ c.same.result
    (λ e. built c.in_ok-title.ensures.read c.take_lines.new.r.rest.now c.start.ensures y.good (sym y.result_after)
    c.take_credentials.new.r.rest.now (sym c.in_ok-take_credentials.ensures.result_after)
    (sym c.is_empty-bytes_left.ensures ∙ c.if-bytes_left.false) c.set_next.ensures c.edition_of-own.ensures
    (e ∙ c.same.ensures))
    (λ e. other_edition c.in_ok-title.ensures.read c.take_lines.new.r.rest.now c.start.ensures y.good
    (sym y.result_after) c.take_credentials.new.r.rest.now (sym c.in_ok-take_credentials.ensures.result_after)
    (sym c.is_empty-bytes_left.ensures ∙ c.if-bytes_left.false) c.set_next.ensures c.edition_of-own.ensures
    (e ∙ c.same.ensures))
    c.set_next.ensures.good)

-- The first line, the lines that it announces, and nothing after them.
use Rattle.std.proofs.Common.{sym, ap, ◌∙◌, Bool}
use Rattle.snapshot.specs.Snapshot.{edition_by}
use Rattle.text_read.proofs.TextForms.{no_formulas, no_credentials, left_over, by_edition}
use Rattle.text_read.proofs.text_form.Goals as goal

pub returns-in_default-past_formulas : goal.returns-in_default-past_formulas
returns-in_default-past_formulas c =
    no_formulas _ c.in-Some.title _ c.in-Some.ensures.read.reads (sym c.in_default-past_formulas.ensures)

pub returns-in_default-past_credentials : goal.returns-in_default-past_credentials
returns-in_default-past_credentials c =
    no_credentials _ c.in-Some.title _ c.in-Some.ensures.read.reads _
    (sym c.in-Some-past_formulas.ensures) (sym c.in_default-past_credentials.ensures)

pub returns-then-bytes_left : goal.returns-then-bytes_left
returns-then-bytes_left c =
    left_over _ c.in-Some.title _ c.in-Some.ensures.read.reads _
    (sym c.in-Some-past_formulas.ensures) _ (sym c.in-Some-past_credentials.ensures)
    (sym c.is_empty-bytes_left.ensures ∙ c.if-bytes_left.true)

pub returns : goal.returns
returns c =
    by_edition _ c.in-Some.title _ c.in-Some.ensures.read.reads _
    (sym c.in-Some-past_formulas.ensures) _ (sym c.in-Some-past_credentials.ensures)
    (sym c.is_empty-bytes_left.ensures ∙ c.if-bytes_left.false) c.same.result c.tested.result
    (c.edition_by-own.ensures ∙ ap (λ (x : Bool). edition_by x c.in-Some.title.live) c.holders_in-holders.ensures)
    c.same.ensures (c.tested.ensures 50)

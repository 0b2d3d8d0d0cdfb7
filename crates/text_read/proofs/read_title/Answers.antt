use Rattle.std.proofs.Common.{sym, ◌∙◌}
use Rattle.request.specs.Text.{bytes}
use Rattle.read_fields.proofs.Prefixes.{strip_still}
use Rattle.text_read.proofs.TextLines.{title_found, no_title, first_found, second_found, no_edition}
use Rattle.text_read.proofs.read_title.Goals as goal

pub returns-then-not-past : goal.returns-then-not-past
unfolding bytes
returns-then-not-past c = sym (no_title _ c.if-not-past.ensures.0)

pub returns-then-past : goal.returns-then-past
unfolding bytes
returns-then-past c =
    c.read_counts.ensures ∙ sym (title_found _ _ c.if-not-past.ensures ∙ first_found _ _ c.if-past.ensures)

pub returns-then-past-2 : goal.returns-then-past-2
unfolding bytes
returns-then-past-2 c =
    c.read_counts-then-past-2.ensures
    ∙ sym (title_found _ _ c.if-not-past.ensures
    ∙ second_found _ _ (strip_still _ c.if-past.ensures.1 c.if-past-2.ensures))

pub returns : goal.returns
unfolding bytes
returns c =
    sym (title_found _ _ c.if-not-past.ensures
    ∙ no_edition _ c.if-past.ensures.0 (strip_still _ c.if-past.ensures.1 c.if-past-2.ensures.0))

use Rattle.std.proofs.Common.{refl, ◌∙◌}
use Rattle.request.specs.Text.{bytes}
use Rattle.read_fields.proofs.Prefixes.{strip_still}
use Rattle.read_formulas.proofs.WordTables.{inside}
use Rattle.read_heads.proofs.Heads.{first_by, first_found, first_none}
use Rattle.read_heads.proofs.requests.read_request.Goals as goal

pub returns-then-past : goal.returns-then-past
unfolding bytes inside
returns-then-past c =
    first_by c.word.new.r.rest.now c.word.result (first_found "word" _ _ refl c.if-past.ensures) c.word.ensures

pub returns-then-past-2 : goal.returns-then-past-2
unfolding bytes inside
returns-then-past-2 c =
    let e = c.if-past.ensures.1 in
    first_by c.issue.new.r.rest.now c.issue.result
    (first_found "issue" _ _ refl (strip_still _ e c.if-past-2.ensures)) c.issue.ensures

pub returns-then-past-3 : goal.returns-then-past-3
unfolding bytes inside
returns-then-past-3 c =
    let e = c.if-past-2.ensures.1 ∙ c.if-past.ensures.1 in
    first_by c.withdraw.new.r.rest.now c.withdraw.result
    (first_found "withdraw" _ _ refl (strip_still _ e c.if-past-3.ensures)) c.withdraw.ensures

pub returns-then-past-4 : goal.returns-then-past-4
unfolding bytes inside
returns-then-past-4 c =
    let e = c.if-past-3.ensures.1 ∙ c.if-past-2.ensures.1 ∙ c.if-past.ensures.1 in
    first_by c.book.new.r.rest.now c.book.result
    (first_found "book" _ _ refl (strip_still _ e c.if-past-4.ensures)) c.book.ensures

pub returns-then-past-5 : goal.returns-then-past-5
unfolding bytes inside
returns-then-past-5 c =
    let e = c.if-past-4.ensures.1 ∙ c.if-past-3.ensures.1 ∙ c.if-past-2.ensures.1 ∙ c.if-past.ensures.1 in
    first_by c.tally.new.r.rest.now c.tally.result
    (first_found "tally" _ _ refl (strip_still _ e c.if-past-5.ensures)) c.tally.ensures

pub returns : goal.returns
unfolding bytes inside
returns c =
    let e1 = c.if-past.ensures in
    let e2 = c.if-past-2.ensures.1 ∙ e1.1 in
    let e3 = c.if-past-3.ensures.1 ∙ e2 in
    let e4 = c.if-past-4.ensures.1 ∙ e3 in
    first_none _ e1.0 (strip_still _ e1.1 c.if-past-2.ensures.0) (strip_still _ e2 c.if-past-3.ensures.0)
    (strip_still _ e3 c.if-past-4.ensures.0) (strip_still _ e4 c.if-past-5.ensures.0)

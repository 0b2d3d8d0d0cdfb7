use Rattle.std.proofs.Common.{ap}
use Rattle.request.specs.Text.{bytes}
use Rattle.read_fields.proofs.Prefixes.{strip_still}
use Rattle.read_heads.specs.First.{request_from}
use Rattle.read_heads.proofs.Heads.{first_by, no_line, issue_linear, issue_unrestricted, no_kind}
use Rattle.read_heads.proofs.requests.issue.Goals as goal

pub returns-then-past : goal.returns-then-past
unfolding bytes
returns-then-past c =
    first_by c.issued.new.r.rest.now c.issued.result
    (ap request_from (issue_linear _ _ c.if-past.ensures)) c.issued.ensures

pub returns-then-past-2 : goal.returns-then-past-2
unfolding bytes
returns-then-past-2 c =
    let n = c.issued-then-past-2 in
    first_by n.new.r.rest.now n.result
    (ap request_from (issue_unrestricted _ _ (strip_still _ c.if-past.ensures.1 c.if-past-2.ensures))) n.ensures

pub returns : goal.returns
unfolding bytes
returns c =
    no_line (no_kind _ c.if-past.ensures.0 (strip_still _ c.if-past.ensures.1 c.if-past-2.ensures.0))

-- As many bytes are noted as the text's first n are, and they went out.
use Rattle.std.proofs.Common.{◌≡◌, ℕ, List, take, sym, refl, ap, ◌∙◌, subst, length-take-le}
use Rattle.stream_console.specs.declared.Output.{Output}
use Rattle.stream_console.specs.Console.{handed, Sent}
use Rattle.stream_console.proofs.Notes.{part, sent_as}
use Rattle.stream_console.proofs.send.Goals as goal

abbrev wanted : {u u' : Output} {x : List ℕ} → Sent u x u' → List ℕ
wanted {x = x} s = x

abbrev left : {u u' : Output} {x : List ℕ} → Sent u x u' → Output
left {u' = u'} s = u'

-- the text's first n bytes, and as many are noted
first_bytes : part
    (λ (x : goal.returns-clause-sent) (y : (c : _) → wanted (x c) ≡ take c.args.n c.args.text.now). y)
first_bytes c = refl

as_many : part
    (λ (x : goal.returns-clause-sent) (y : (c : _) →
    left (x c) ≡ handed c.args.output c.args.n c.write_whole-written.result). y)
as_many c = c.note_written.ensures

pub returns-clause-sent : goal.returns-clause-sent
returns-clause-sent c =
    let all = c.write_whole-written.result in
    let u = c.args.output in
    let first = take c.args.n c.args.text.now in
    let e = length-take-le c.args.n c.args.text.now c.requires in
    subst (λ (x : List ℕ). Sent u x c.note_written.result) (sym (first_bytes c))
    (sent_as u first all (as_many c ∙ ap (λ (k : ℕ). handed u k all) (sym e)))

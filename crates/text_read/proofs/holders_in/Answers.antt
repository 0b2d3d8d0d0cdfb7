-- Each turn passes over a line that is neither `n` nor `q`.
use Rattle.std.proofs.Common.{◌≡◌, sym, ap, ◌∙◌, List, ℕ, Bool, arith}
use Rattle.request.specs.Request.{Line}
use Rattle.steps.specs.declared.Row.{Row}
use Rattle.snapshot.specs.Snapshot.{holder_letter, holder_line}
use Rattle.read_formulas.proofs.RowLines.{Rowed, row_line, row_none}
use Rattle.std.proofs.Math.Option.{Option}
use Rattle.text_read.proofs.PastLines.{holders_start, holders_turn, holders_here, holders_broken, holders_end}
use Rattle.text_read.proofs.holders_in.Goals as goal

-- what the row's letter says of the line
told : {o : Option (Line × List ℕ)} {x : Row} {b : List ℕ} {t : Bool} (r : Rowed o x b)
    → t ≡ holder_letter x.letter → holder_line r.line ≡ t
unfolding holder_line
told r e = ap (λ (x : Row). holder_letter x.letter) r.row ∙ sym e

pub loop-init : goal.loop-init
loop-init c = holders_start _ _

pub returns-in_default : goal.returns-in_default
returns-in_default c =
    sym (c.loop.invariant ∙ holders_broken _ _ _ (omega arith) (row_none _ (sym c.in_default.ensures.read)))

pub returns-then-found : goal.returns-then-found
returns-then-found c =
    let r = row_line _ (sym c.in-Some.ensures.read) in
    sym (c.loop.invariant
    ∙ holders_here _ _ _ (omega arith) r.is (told r c.holder_letter-found.ensures ∙ c.if-found.true))

pub loop-preserved : goal.loop-preserved
loop-preserved c =
    let r = row_line _ (sym c.in-Some.ensures.read) in
    c.loop.invariant
    ∙ holders_turn _ _ _ (omega arith) r.is (told r c.holder_letter-found.ensures ∙ c.if-found.false)

pub returns : goal.returns
returns c = sym (c.loop.invariant ∙ holders_end _ _ _ (omega arith))

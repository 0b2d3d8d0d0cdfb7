-- A row with the letter of `n` or `q` is one of the ledger's lines, and where no row has it no line has.
use Rattle.std.proofs.Common.{sym, ap, ◌∙◌, arith}
use Rattle.steps.specs.declared.Row.{Row}
use Rattle.snapshot.specs.Snapshot.{holder_letter, holder_line}
use Rattle.store.proofs.Views.{lines_length}
use Rattle.store_formulas.proofs.Found.{has_at, has_none}
use Rattle.text_edition.proofs.has_holders.Goals as goal

pub returns-then-found : goal.returns-then-found
unfolding holder_line
returns-then-found c =
    sym (has_at c.args.store.now c.requires (λ (x : Row). holder_letter x.letter) c.loop-i.i
    (omega (arith, lines_length c.args.store.now))
    (ap (λ (x : Row). holder_letter x.letter) (sym c.line_at.ensures) ∙ sym c.holder_letter-found.ensures
    ∙ c.if-found.true))

pub returns : goal.returns
unfolding holder_line
returns c =
    sym (has_none c.args.store.now c.requires (λ (x : Row). holder_letter x.letter)
    (λ k h. c.loop-i.invariant k (omega (arith, lines_length c.args.store.now))))

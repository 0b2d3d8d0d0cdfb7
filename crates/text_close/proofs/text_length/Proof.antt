-- `text_length` meets its contract.
use native.Mathlib.Omega.{arith}
use borrow.Author.Rules.{Fits-under}
use Rattle.text_close.proofs.Texts.{text_parts, measured_sum}
use Rattle.text_close.proofs.text_length.Statement.{statement}
use Rattle.text_close.proofs.text_length.Tie as tie

pub text_length_spec : {M : Type 1} → statement M
text_length_spec =
    tie.close
    (tie.spec
    (λ c κs. c.requires)
    (λ c κs. c.requires)
    (λ c.
    let small = c.title_length.ensures.small in
    Fits-under _ _ 18041 (omega (arith, small, c.formulas_length.ensures.small)) tt)
    (λ c κs. c.requires)
    (λ c.
    Fits-under _ _ 296569 (omega (
      arith,
      c.title_length.ensures.small,
      c.formulas_length.ensures.small,
      c.rows_length.ensures.small,
    )) tt)
    (λ c.
    measured_sum (text_parts _) c.title_length.ensures c.formulas_length.ensures
    c.rows_length.ensures))

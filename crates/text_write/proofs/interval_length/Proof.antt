-- `interval_length` meets its contract.
use borrow.Author.Rules.{rules}
use Rattle.text_write.proofs.Lengths.{interval_measured}
use Rattle.text_write.proofs.interval_length.Statement.{statement}
use Rattle.text_write.proofs.interval_length.Tie as tie

pub interval_length_spec : {M : Type 1} → statement M
interval_length_spec =
    tie.close
    (tie.spec
    (λ c κs. search rules)
    (λ c κs. search rules)
    (λ c. search rules)
    (λ c κs. search rules)
    (λ c. search rules)
    (λ c κs. search rules)
    (λ c. search rules)
    (λ c. search rules)
    (λ c.
    interval_measured _ c.digits_length.ensures c.digits_length-2.ensures
    c.digits_length-3.ensures c.digits_length-4.ensures))

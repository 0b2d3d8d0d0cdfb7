-- `edition_digit` meets its contract.
use mathlib.Core.Path.{sym, ap}
use borrow.Author.Rules.{rules}
use Rattle.request.specs.Text.{bytes}
use Rattle.snapshot.specs.Snapshot.{edition_field}
use Rattle.text_write.proofs.edition_digit.Statement.{statement}
use Rattle.text_write.proofs.edition_digit.Tie as tie

pub edition_digit_spec : {M : Type 1} → statement M
unfolding bytes
edition_digit_spec =
    tie.close
    (tie.spec
    (λ c. search rules)
    (λ c. search rules)
    (λ c. sym (ap edition_field c.in-First.is))
    (λ c. sym (ap edition_field c.in-Second.is)))
